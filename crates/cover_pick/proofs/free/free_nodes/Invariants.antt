use Rattle.cover_pick.proofs.Common.{AreFreeTo}
use Rattle.cover_pick.proofs.free.free_nodes.Given as goal

abbrev pub invariant-loop-n : goal.invariant-loop-n
invariant-loop-n l = AreFreeTo l.graph l.luts l.marks.items l.n
