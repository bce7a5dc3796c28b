use Rattle.tlut_host.proofs.Common.{◌≡◌, ◌++◌, drop, param_names}
use Rattle.tlut_host.proofs.host.names_of.Given as goal

abbrev pub invariant-loop-param : goal.invariant-loop-param
invariant-loop-param l = l.names.items ++ param_names (drop l.param-index l.params) ≡ param_names l.params
