use Rattle.blif_flat.proofs.Common.{◌≡◌, ◌++◌, map, drop, ModelValue, subckts_of}
use Rattle.blif_flat.proofs.circuit.net_table.SubcktLines.make.Given as goal

abbrev pub invariant-loop-model : goal.invariant-loop-model
invariant-loop-model l = map (λ v. map (λ s. s.now) v.items) l.all.items ++ map (λ (m : ModelValue). subckts_of m.commands) (drop l.model-index l.models) ≡ map (λ (m : ModelValue). subckts_of m.commands) l.models
