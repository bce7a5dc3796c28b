use Rattle.cover_pick.proofs.Common.{◌≤◌, first_and, AreCounted}
use Rattle.cover_pick.proofs.flow.count_pairs.Given as goal

abbrev pub invariant-loop-n : goal.invariant-loop-n
invariant-loop-n l = record {
  counted : AreCounted l.graph l.n l.counts;
  from : first_and l.graph ≤ l.n;
}
