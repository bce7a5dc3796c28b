-- The lemmas that answers cite, passed on from one place.
pub use Rattle.gen_case.proofs.Common.{ℕ, List, ◌++◌, string_bytes, arith, ap, ◌∙◌, digit, digit_text, param_lines, ◌-◌, sym, append-nil, map, codes, below, setting, text_of, Digit, net_name, line_text, inputs_line, outputs_line, Data, Coefficient, bus_names, ◌*◌, Product, adder_lines, flat_map, output_lines, partial_lines}
pub use Rattle.gen_case.proofs.LineLemmas.{piece_added, lines_added, line_added, word_added, lines_behind, behind, words_joined}
