use Rattle.depth_first.proofs.Common.{length, AreForgettable}
use Rattle.depth_first.proofs.frames.forget.Given as goal

abbrev pub invariant-loop-n : goal.invariant-loop-n
invariant-loop-n l = AreForgettable l.initial.frames l.frames

abbrev pub decreases-loop-n : goal.decreases-loop-n
decreases-loop-n l = length l.frames.begun
