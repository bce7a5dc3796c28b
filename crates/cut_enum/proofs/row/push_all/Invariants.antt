use Rattle.cut_enum.proofs.Common.{◌≡◌, ◌++◌, take, row_at}
use Rattle.cut_enum.proofs.row.push_all.Given as goal

abbrev pub invariant-loop-i : goal.invariant-loop-i
invariant-loop-i l = l.cuts.items ≡ l.fn.cuts.items ++ take l.i (row_at l.rows l.m)
