use Rattle.aiger_io.proofs.Common.{◌≡◌, ℕ, ◌<◌, eqb, false, get_or}
use Rattle.aiger_io.proofs.symbol.blank_place.Given as goal

abbrev pub invariant-loop-i : goal.invariant-loop-i
invariant-loop-i l = (k : ℕ) → k < l.i → eqb (get_or l.row k 0) 32 ≡ false
