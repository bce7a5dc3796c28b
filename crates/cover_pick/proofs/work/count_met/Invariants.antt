use Rattle.cover_pick.proofs.Common.{◌+◌, ◌-◌, length, first_and}
use Rattle.cover_pick.proofs.MetLemmas.{AreCountedFrom}
use Rattle.cover_pick.proofs.work.count_met.Given as goal

abbrev pub invariant-loop-i : goal.invariant-loop-i
invariant-loop-i l = AreCountedFrom l.graph l.initial.met l.met (first_and l.graph + (length l.graph.pairs - l.i)) l.count
