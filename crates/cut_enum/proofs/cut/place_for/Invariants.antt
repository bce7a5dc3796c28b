use Rattle.std.proofs.Common.{ℕ, ◌<◌, get_or}
use Rattle.cut_enum.proofs.cut.place_for.Given as goal

abbrev pub invariant-loop-i : goal.invariant-loop-i
invariant-loop-i l = (k : ℕ) → k < l.i → get_or l.leaves k 0 < l.x
