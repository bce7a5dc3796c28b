use Rattle.aig_build.proofs.Common.{◌≡◌, ◌++◌, drop, map, OutPort, net_lit}
use Rattle.aig_build.proofs.building.output_lits.Given as goal

abbrev pub invariant-loop-port : goal.invariant-loop-port
invariant-loop-port l = l.lits.items ++ map (λ (port : OutPort). net_lit l.nets port.net) (drop l.port-index l.ports) ≡ map (λ (port : OutPort). net_lit l.nets port.net) l.ports
