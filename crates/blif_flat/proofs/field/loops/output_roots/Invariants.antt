use Rattle.blif_flat.proofs.Common.{◌≡◌, ◌++◌, map, drop, OutPort, cover_numbers}
use Rattle.blif_flat.proofs.field.loops.output_roots.Given as goal

abbrev pub invariant-loop-port : goal.invariant-loop-port
invariant-loop-port l = l.roots.items ++ cover_numbers (map (λ (o : OutPort). o.net) (drop l.port-index l.outputs)) ≡ cover_numbers (map (λ (o : OutPort). o.net) l.outputs)
