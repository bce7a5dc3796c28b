use Rattle.cut_enum.proofs.Common.{◌≡◌, ◌+◌, ◌≤◌, drop, length, MOST_OF_A_NODE, add_unions}
use Rattle.cut_enum.proofs.least.add_unions.Given as goal

abbrev pub invariant-loop-i : goal.invariant-loop-i
invariant-loop-i l = record {
  rest : add_unions l.size l.smaller l.c (drop l.i l.ds) l.level ≡ add_unions l.size l.smaller l.c l.ds l.fn.level;
  few : length l.smaller + length l.level ≤ MOST_OF_A_NODE;
}
