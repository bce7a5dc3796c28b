use Rattle.aig_build.proofs.Common.{◌≡◌, drop, false, length, replicate, marked}
use Rattle.aig_build.proofs.net_lits.marks.Given as goal

abbrev pub invariant-loop-param : goal.invariant-loop-param
invariant-loop-param l = record {
  marked : marked l.marks.items (drop l.param-index l.params) ≡ marked (replicate l.count false) l.params;
  count : length l.marks.items ≡ l.count;
}
