use Rattle.cut_enum.proofs.Common.{◌≡◌, drop, union, MOST_LEAVES}
use Rattle.cut_enum.proofs.cut.joined.Given as goal

abbrev pub invariant-loop-x : goal.invariant-loop-x
invariant-loop-x l = record {
  inline : l.leaves.capacity ≡ MOST_LEAVES;
  rest : union (drop l.x-index l.x-items) l.leaves.items ≡ union l.x-items l.initial.leaves.items;
}
