use Rattle.bounded_cuts.proofs.Lemmas.{◌<◌, sym, subst, inl, inr, In, In-get_or, Candidate, next_taken}
use Rattle.bounded_cuts.proofs.candidates.has_low.Goals as goal

pub returns-then-candidate-label-clause-yes : goal.returns-then-candidate-label-clause-yes
returns-then-candidate-label-clause-yes c _ = (c.candidate-item.result, subst (In c.args.all.now) (sym c.candidate-item.is) (In-get_or c.args.all.now c.loop-candidate.candidate-index c.candidate-item.result c.loop-candidate-test.true), c.if-candidate-label.true)

pub loop-candidate-preserved : goal.loop-candidate-preserved
loop-candidate-preserved c d m = elim (next_taken c.args.all.now c.loop-candidate.candidate-index c.candidate-item.result d c.loop-candidate-test.true c.candidate-item.is m) [
  | inl k ↦ c.loop-candidate.invariant d k
  | inr e ↦ subst (λ (x : Candidate). c.args.label < x.height) (sym e) c.if-candidate-label.false
]
