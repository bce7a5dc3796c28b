use Rattle.gen_case.proofs.Common.{◌≡◌, ◌++◌, string_bytes, flat_map, text_of, below, output_lines}
use Rattle.gen_case.proofs.netlist.add_outputs.Given as goal

abbrev pub invariant-loop-t : goal.invariant-loop-t
invariant-loop-t l = string_bytes l.text ≡ string_bytes l.initial.text ++ text_of (flat_map (output_lines l.n) (below l.t))
