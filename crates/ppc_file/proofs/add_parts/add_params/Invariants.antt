use Rattle.ppc_file.proofs.Common.{drop, length, flat_map, param_bytes, params_part, Added}
use Rattle.ppc_file.proofs.add_parts.add_params.Given as goal

abbrev pub invariant-loop-param : goal.invariant-loop-param
invariant-loop-param g l = Added g.O.Sink.seen l.fn.writer (params_part l.version (length l.params) l.params) l.writer (flat_map (param_bytes l.version) (drop l.param-index l.params))
