use Rattle.std.proofs.Common.{◌≡◌, ◌++◌, take}
use Rattle.cut_enum.proofs.level.Level.append_to.Given as goal

abbrev pub invariant-loop-i : goal.invariant-loop-i
invariant-loop-i l = l.cuts.items ≡ l.fn.cuts.items ++ take l.i l.self
