use Rattle.blif_flat.proofs.Common.{◌≡◌, ◌++◌, map, drop, distinct_names}
use Rattle.blif_flat.proofs.circuit.nets.all_distinct_names.Given as goal

abbrev pub invariant-loop-model : goal.invariant-loop-model
invariant-loop-model l = l.all.items ++ map distinct_names (drop l.model-index l.models) ≡ map distinct_names l.models
