use Rattle.blif_flat.proofs.Common.{◌≡◌, drop, names_fault}
use Rattle.blif_flat.proofs.clock.clock_check.check_names.Given as goal

abbrev pub invariant-loop-name : goal.invariant-loop-name
invariant-loop-name l = names_fault l.inputs l.marks l.nets l.row (drop l.name-index l.names) ≡ names_fault l.inputs l.marks l.nets l.row l.names
