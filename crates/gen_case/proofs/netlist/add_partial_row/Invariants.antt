use Rattle.gen_case.proofs.Common.{◌≡◌, ◌++◌, string_bytes, flat_map, text_of, below, partial_lines}
use Rattle.gen_case.proofs.netlist.add_partial_row.Given as goal

abbrev pub invariant-loop-i : goal.invariant-loop-i
invariant-loop-i l = string_bytes l.text ≡ string_bytes l.initial.text ++ text_of (flat_map (partial_lines l.j) (below l.i))
