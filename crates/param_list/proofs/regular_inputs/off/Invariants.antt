use Rattle.param_list.proofs.Common.{◌≡◌, ◌++◌, drop, off_places}
use Rattle.param_list.proofs.regular_inputs.off.Given as goal

abbrev pub invariant-loop-i : goal.invariant-loop-i
invariant-loop-i l = l.places.items ++ off_places l.i (drop l.i l.marks) ≡ off_places 0 l.marks
