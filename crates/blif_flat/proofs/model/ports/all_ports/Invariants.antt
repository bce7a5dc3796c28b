use Rattle.blif_flat.proofs.Common.{◌≡◌, ◌++◌, map, drop, ports_value}
use Rattle.blif_flat.proofs.model.ports.all_ports.Given as goal

abbrev pub invariant-loop-model : goal.invariant-loop-model
invariant-loop-model l = l.all.items ++ map ports_value (drop l.model-index l.models) ≡ map ports_value l.models
