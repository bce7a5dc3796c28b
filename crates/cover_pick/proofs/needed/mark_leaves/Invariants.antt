use Rattle.cover_pick.proofs.Common.{◌≡◌, drop, mark_leaves}
use Rattle.cover_pick.proofs.needed.mark_leaves.Given as goal

abbrev pub invariant-loop-m : goal.invariant-loop-m
invariant-loop-m l = mark_leaves l.marks (drop l.m-index l.leaves) ≡ mark_leaves l.initial.marks l.leaves
