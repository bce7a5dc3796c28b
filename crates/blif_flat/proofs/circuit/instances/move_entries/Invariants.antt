use Rattle.blif_flat.proofs.Common.{◌≡◌, ◌++◌, length, reverse}
use Rattle.blif_flat.proofs.circuit.instances.move_entries.Given as goal

abbrev pub invariant-loop-entry : goal.invariant-loop-entry
invariant-loop-entry l = l.stack.items ++ reverse l.left.items ≡ l.initial.stack.items ++ reverse l.initial.left.items

abbrev pub decreases-loop-entry : goal.decreases-loop-entry
decreases-loop-entry l = length l.left.items
