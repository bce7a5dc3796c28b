use Rattle.spec_core.proofs.Common.{◌≡◌, length, drop, with_marks}
use Rattle.spec_core.proofs.evaluation.mark_all.Given as goal

abbrev pub invariant-loop-n : goal.invariant-loop-n
invariant-loop-n l = record {
  marked : with_marks l.marks (drop l.n-index l.numbers) ≡ with_marks l.initial.marks l.numbers;
  count : length l.marks ≡ length l.initial.marks;
}
