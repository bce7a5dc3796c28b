use Rattle.depth_first.proofs.Common.{◌≡◌, take, reverse, path_of, from_node}
use Rattle.depth_first.proofs.walk.Walk.path_from.Given as goal

abbrev pub invariant-loop-frame : goal.invariant-loop-frame
invariant-loop-frame l = l.nodes.items ≡ from_node l.node (reverse (path_of (take l.frame-index l.frame-items)))
