use Rattle.gen_case.proofs.Common.{◌≡◌, ◌++◌, string_bytes, flat_map, text_of, below, param_lines}
use Rattle.gen_case.proofs.changes.add_params.Given as goal

abbrev pub invariant-loop-place : goal.invariant-loop-place
invariant-loop-place l = string_bytes l.text ≡ string_bytes l.initial.text ++ text_of (flat_map (param_lines l.value) (below l.place))
