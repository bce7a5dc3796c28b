use Rattle.bounded_cuts.proofs.Common.{◌≡◌, take, cuts_at}
use Rattle.bounded_cuts.proofs.sets.copy_cuts.Given as goal

abbrev pub invariant-loop-i : goal.invariant-loop-i
invariant-loop-i l = l.set.items ≡ cuts_at l.candidates (take l.i-index l.taken)
