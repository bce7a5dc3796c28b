use Rattle.blif_flat.proofs.Common.{◌-◌, length, reverse, Listed, most_weight}
use Rattle.blif_flat.proofs.circuit.instances.instances.Given as goal

abbrev pub invariant-loop-entry : goal.invariant-loop-entry
invariant-loop-entry l = Listed l.library l.rows.items (reverse l.stack.items)

abbrev pub decreases-loop-entry : goal.decreases-loop-entry
decreases-loop-entry l = most_weight - length l.rows.items
