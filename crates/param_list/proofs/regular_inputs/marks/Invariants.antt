use Rattle.param_list.proofs.Common.{◌≡◌, take, marks_of, param_names}
use Rattle.param_list.proofs.regular_inputs.marks.Given as goal

abbrev pub invariant-loop-param : goal.invariant-loop-param
invariant-loop-param l = l.marks.items ≡ marks_of l.inputs (param_names (take l.param-index l.params))
