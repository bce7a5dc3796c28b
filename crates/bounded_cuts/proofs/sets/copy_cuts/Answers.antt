use Rattle.bounded_cuts.proofs.Lemmas.{ℕ, ◌++◌, ◌∷◌, [], List, get_or, take, cuts_at, sym, ap, ◌∙◌, In-get_or, map_next}
use Rattle.bounded_cuts.proofs.sets.copy_cuts.Goals as goal

pub bounds-candidates-i : goal.bounds-candidates-i
bounds-candidates-i c = c.requires (get_or c.args.taken.now c.loop-i.i-index 0) (In-get_or c.args.taken.now c.loop-i.i-index 0 c.loop-i-test.true)

pub loop-i-preserved : goal.loop-i-preserved
loop-i-preserved c =
    let inside = c.requires (get_or c.args.taken.now c.loop-i.i-index 0) (In-get_or c.args.taken.now c.loop-i.i-index 0 c.loop-i-test.true) in
    c.in_ok-push.ensures.items ∙ ap (λ (l : List (List ℕ)). l ++ c.copy.result ∷ []) c.loop-i.invariant ∙ ap (λ (d : List ℕ). cuts_at c.args.candidates.now (take c.loop-i.i-index c.args.taken.now) ++ d ∷ []) c.copy.ensures
    ∙ sym (map_next c.args.candidates.now c.args.taken.now c.loop-i.i-index c.index-candidates-i.result c.loop-i-test.true inside)
