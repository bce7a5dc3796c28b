use Rattle.bounded_cuts.proofs.Lemmas.{◌++◌, ◌∷◌, List, ℕ, [], sym, ap, ◌∙◌, append_assoc, take, row_at, take_next}
use Rattle.bounded_cuts.proofs.candidates.push_set.Goals as goal

pub loop-i-preserved : goal.loop-i-preserved
loop-i-preserved c =
    let row = row_at c.args.rows.now c.args.m in
    c.in_ok-push.ensures.items
    ∙ ap (λ (l : List (List ℕ)). l ++ c.cut.result ∷ []) c.loop-i.invariant
    ∙ append_assoc c.args.front.now.items (take c.loop-i.i row) (c.cut.result ∷ [])
    ∙ ap (λ (l : List (List ℕ)). c.args.front.now.items ++ l) (sym (take_next row c.loop-i.i c.cut.result c.cut.ensures))
