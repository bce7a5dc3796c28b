use Rattle.blif_flat.proofs.Common.{◌≡◌, ◌+◌, ◌≤◌, drop, underscores}
use Rattle.blif_flat.proofs.field.flat_ports.underscores.Given as goal

abbrev pub invariant-loop-byte : goal.invariant-loop-byte
invariant-loop-byte l = record { counts : l.count + underscores (drop l.byte-index l.name) ≡ underscores l.name; within : l.count ≤ l.byte-index }
