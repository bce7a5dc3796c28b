use Rattle.blif_flat.proofs.Common.{◌≡◌, [], drop, kind_test, with_rows}
use Rattle.blif_flat.proofs.circuit.instances.gates.Given as goal

abbrev pub invariant-loop-row : goal.invariant-loop-row
invariant-loop-row l = with_rows l.library.models (kind_test l.kind) l.row l.gates.items (drop l.row l.instances) ≡ with_rows l.library.models (kind_test l.kind) 0 [] l.instances
