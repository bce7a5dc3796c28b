use Rattle.blif_flat.proofs.Common.{◌≡◌, ◌+◌, ◌++◌, drop, starts_from, slot_count}
use Rattle.blif_flat.proofs.circuit.nets.row_starts.Given as goal

abbrev pub invariant-loop-row : goal.invariant-loop-row
invariant-loop-row l = record {
  starts : l.starts.items ++ starts_from l.names l.count (drop l.row-index l.instances) ≡ starts_from l.names 0 l.instances;
  count : l.count + slot_count l.names (drop l.row-index l.instances) ≡ slot_count l.names l.instances;
}
