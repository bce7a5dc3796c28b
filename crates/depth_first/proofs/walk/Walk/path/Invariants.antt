use Rattle.depth_first.proofs.Common.{◌≡◌, take, path_of}
use Rattle.depth_first.proofs.walk.Walk.path.Given as goal

abbrev pub invariant-loop-frame : goal.invariant-loop-frame
invariant-loop-frame l = l.path.items ≡ path_of (take l.frame-index l.frame-items)
