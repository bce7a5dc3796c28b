use Rattle.cut_enum.proofs.Common.{◌-◌, IsAround}
use Rattle.cut_enum.proofs.level.halved_place.Given as goal

abbrev pub invariant-loop-low : goal.invariant-loop-low
invariant-loop-low l = IsAround l.cut l.level l.low l.high

abbrev pub decreases-loop-low : goal.decreases-loop-low
decreases-loop-low l = l.high - l.low
