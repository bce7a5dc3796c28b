use Rattle.cover_pick.proofs.Common.{◌≡◌, drop, length, unmarked}
use Rattle.cover_pick.proofs.free.bar_leaves.Given as goal

abbrev pub invariant-loop-leaf : goal.invariant-loop-leaf
invariant-loop-leaf l = record {
  same : unmarked l.marks (drop l.leaf-index l.leaves) ≡ unmarked l.initial.marks l.leaves;
  long : length l.marks ≡ length l.initial.marks;
}
