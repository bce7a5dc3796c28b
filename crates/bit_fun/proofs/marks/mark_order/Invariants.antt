use Rattle.bit_fun.proofs.Common.{◌≡◌, drop, length, with_marks}
use Rattle.bit_fun.proofs.marks.mark_order.Given as goal

abbrev pub invariant-loop-n : goal.invariant-loop-n
invariant-loop-n l = record {
  same : with_marks l.free l.kept (drop l.n-index l.order) ≡ with_marks l.free l.initial.kept l.order;
  long : length l.kept ≡ length l.initial.kept;
}
