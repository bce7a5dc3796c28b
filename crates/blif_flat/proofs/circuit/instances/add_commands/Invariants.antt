use Rattle.blif_flat.proofs.Common.{◌≡◌, drop, kind_test, with_commands}
use Rattle.blif_flat.proofs.circuit.instances.add_commands.Given as goal

abbrev pub invariant-loop-place : goal.invariant-loop-place
invariant-loop-place l = with_commands (kind_test l.kind) l.row l.place l.gates.items (drop l.place l.commands) ≡ with_commands (kind_test l.kind) l.row 0 l.initial.gates.items l.commands
