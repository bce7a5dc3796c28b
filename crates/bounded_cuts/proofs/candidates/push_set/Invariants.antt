use Rattle.bounded_cuts.proofs.Common.{◌≡◌, ◌++◌, take, row_at}
use Rattle.bounded_cuts.proofs.candidates.push_set.Given as goal

abbrev pub invariant-loop-i : goal.invariant-loop-i
invariant-loop-i l = l.front.items ≡ l.fn.front.items ++ take l.i (row_at l.rows l.m)
