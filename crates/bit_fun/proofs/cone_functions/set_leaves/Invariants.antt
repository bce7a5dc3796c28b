use Rattle.bit_fun.proofs.Common.{◌≡◌, drop, with_leaves}
use Rattle.bit_fun.proofs.cone_functions.set_leaves.Given as goal

abbrev pub invariant-loop-leaf : goal.invariant-loop-leaf
invariant-loop-leaf l = record {
  place : l.place ≡ l.leaf-index;
  same : with_leaves l.lits l.v l.place (drop l.leaf-index l.leaves) ≡ with_leaves l.initial.lits l.v 0 l.leaves;
}
