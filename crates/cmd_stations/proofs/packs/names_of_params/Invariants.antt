use Rattle.cmd_stations.proofs.Common.{◌≡◌, ◌++◌, drop, map, PackParam}
use Rattle.cmd_stations.proofs.packs.names_of_params.Given as goal

abbrev pub invariant-loop-param : goal.invariant-loop-param
invariant-loop-param l = l.names.items ++ map (λ (p : PackParam). p.name) (drop l.param-index l.params) ≡ map (λ (p : PackParam). p.name) l.params
