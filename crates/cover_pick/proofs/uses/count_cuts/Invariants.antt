use Rattle.cover_pick.proofs.Common.{cut_at, AreUsed}
use Rattle.cover_pick.proofs.uses.count_cuts.Given as goal

abbrev pub invariant-loop-n : goal.invariant-loop-n
invariant-loop-n l = AreUsed l.graph (cut_at l.cuts) l.n l.counts
