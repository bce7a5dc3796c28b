use Rattle.cut_sets.proofs.Common.{◌≡◌, length, take, MOST_LEAVES}
use Rattle.cut_sets.proofs.flat.FlatCut.of.Given as goal

abbrev pub invariant-loop-n : goal.invariant-loop-n
invariant-loop-n l = record {
  len : length l.own ≡ MOST_LEAVES;
  so_far : take l.n l.own ≡ take l.n l.leaves;
}
