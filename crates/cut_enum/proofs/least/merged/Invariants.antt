use Rattle.cut_enum.proofs.Common.{◌≡◌, ◌≤◌, length, MOST_OF_A_NODE, unions_below}
use Rattle.cut_enum.proofs.least.merged.Given as goal

abbrev pub invariant-loop-size : goal.invariant-loop-size
invariant-loop-size l = record {
  below : l.cuts ≡ unions_below l.size l.xs l.ys;
  few : length l.cuts ≤ MOST_OF_A_NODE;
}
