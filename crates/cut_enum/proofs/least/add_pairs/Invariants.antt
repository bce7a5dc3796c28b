use Rattle.cut_enum.proofs.Common.{◌≡◌, ◌+◌, ◌≤◌, drop, length, MOST_OF_A_NODE, add_pairs}
use Rattle.cut_enum.proofs.least.add_pairs.Given as goal

abbrev pub invariant-loop-c : goal.invariant-loop-c
invariant-loop-c l = record {
  rest : add_pairs l.size l.smaller (drop l.c-index l.cs) l.ds l.level ≡ add_pairs l.size l.smaller l.cs l.ds l.fn.level;
  few : length l.smaller + length l.level ≤ MOST_OF_A_NODE;
}
