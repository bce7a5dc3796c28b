use Rattle.cut_enum.proofs.Common.{◌≡◌, ◌+◌, ◌≤◌, drop, length, MOST_OF_A_NODE, add_holders}
use Rattle.cut_enum.proofs.least.add_holders.Given as goal

abbrev pub invariant-loop-cut : goal.invariant-loop-cut
invariant-loop-cut l = record {
  rest : add_holders l.size l.smaller l.parts (drop l.cut-index l.cuts) l.level ≡ add_holders l.size l.smaller l.parts l.cuts l.fn.level;
  few : length l.smaller + length l.level ≤ MOST_OF_A_NODE;
}
