use Rattle.depth_first.proofs.Common.{HasGrown, IsLater, walk_work}
use Rattle.depth_first.proofs.run.run.Given as goal

abbrev pub invariant-loop-frame : goal.invariant-loop-frame
invariant-loop-frame g l = IsLater (g.G.Successors.edges l.graph) (g.G.Successors.is_node l.graph) l.initial.frames l.frames × HasGrown l.initial.frames l.frames

abbrev pub decreases-loop-frame : goal.decreases-loop-frame
decreases-loop-frame g l = walk_work (g.G.Successors.edges l.graph) l.frames
