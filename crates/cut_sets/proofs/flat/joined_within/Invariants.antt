use Rattle.cut_sets.proofs.Common.{◌≡◌, ◌++◌, length, take, IsAscending, union, MOST_LEAVES}
use Rattle.cut_sets.proofs.flat.joined_within.Given as goal

abbrev pub invariant-loop-n : goal.invariant-loop-n
invariant-loop-n l = record {
  len : length l.leaves ≡ MOST_LEAVES;
  so_far : take l.n l.leaves ++ union l.xs l.ys ≡ union l.a l.b;
  x_up : IsAscending l.xs;
  y_up : IsAscending l.ys;
}
