use Rattle.depth_first.proofs.Common.{drop, AreKept, HasGrown, AreLeft, seen}
use Rattle.depth_first.proofs.run.go_all.Given as goal

abbrev pub invariant-loop-start : goal.invariant-loop-start
invariant-loop-start g l = AreLeft (g.G.Successors.edges l.graph) (seen l.initial.frames) (seen l.frames) l.starts (drop l.start-index l.starts) × (AreKept l.initial.frames l.frames × HasGrown l.initial.frames l.frames)
