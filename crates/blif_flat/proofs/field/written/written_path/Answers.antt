use Rattle.blif_flat.proofs.Lemmas.{◌++◌, List, ℕ, ap, ◌∙◌, path_text, path_text-last}
use Rattle.blif_flat.proofs.field.written.written_path.Goals as goal

pub loop-ordinal-preserved : goal.loop-ordinal-preserved
loop-ordinal-preserved c = ap (λ (l : List ℕ). l ++ path_text c.pop.new.self.items) c.in_ok-add_ordinal.ensures
    ∙ path_text-last c.loop-ordinal.text.items c.loop-ordinal.left.items c.pop.new.self.items c.in-Some.ordinal c.in-Some.ensures.items
    ∙ c.loop-ordinal.invariant
