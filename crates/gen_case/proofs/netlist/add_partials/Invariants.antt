use Rattle.gen_case.proofs.Common.{◌≡◌, ℕ, ◌++◌, string_bytes, flat_map, text_of, below, partial_lines}
use Rattle.gen_case.proofs.netlist.add_partials.Given as goal

abbrev pub invariant-loop-j : goal.invariant-loop-j
invariant-loop-j l = string_bytes l.text ≡ string_bytes l.initial.text ++ text_of (flat_map (λ (j : ℕ). flat_map (partial_lines j) (below l.n)) (below l.j))
