use Rattle.gen_case.proofs.Common.{◌≡◌, ℕ, ◌-◌, ◌++◌, string_bytes, flat_map, range_with_len, text_of, below, adder_lines}
use Rattle.gen_case.proofs.netlist.add_adders.Given as goal

abbrev pub invariant-loop-j : goal.invariant-loop-j
invariant-loop-j l = string_bytes l.text ≡ string_bytes l.initial.text ++ text_of (flat_map (λ (j : ℕ). flat_map (adder_lines l.n j) (below l.n)) (range_with_len 1 (l.j - 1)))
