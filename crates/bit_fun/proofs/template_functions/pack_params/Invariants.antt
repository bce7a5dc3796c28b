use Rattle.bit_fun.proofs.Common.{◌≡◌, map, take, pack_param}
use Rattle.bit_fun.proofs.template_functions.pack_params.Given as goal

abbrev pub invariant-loop-param : goal.invariant-loop-param
invariant-loop-param l = l.made.items ≡ map pack_param (take l.param-index l.param-items)
