use Rattle.blif_flat.proofs.Common.{◌≡◌, ◌++◌, drop}
use Rattle.blif_flat.proofs.clock.clocks.copies.Given as goal

abbrev pub invariant-loop-name : goal.invariant-loop-name
invariant-loop-name l = l.all.items ++ drop l.name-index l.names ≡ l.names
