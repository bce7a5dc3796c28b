-- What the proofs of this crate cite of other crates, and its own definitions, passed on from one place.
pub use Rattle.std.proofs.Common.{◌≡◌, [], ◌∷◌, ◌++◌, map, codes, refl, ℕ, zero, suc, ◌+◌, List, sym, ap, ◌∙◌, arith, append_assoc, ◌-◌, ◌*◌, ◌%◌, ◌<◌, ◌≤◌, Bool, true, false, ◌&&◌, not, leb, eqb, decimal, ◌^◌, length, string_bytes, rules}
pub use Rattle.std.proofs.lemmas.Fmt.{decimal_by_steps, length-decimal-le}
pub use Rattle.std.proofs.lemmas.Grind.{flat_map-append}
pub use Rattle.std.proofs.lemmas.List.{append-nil, length-append}
pub use Rattle.std.proofs.lemmas.List.Folds.{list_all-append, flat_map-map}
pub use Rattle.std.specs.List.{flat_map, join_with_byte, range_with_len, list_all}
pub use Rattle.list_laws.specs.Digits.{digit}
pub use Rattle.gen_case.specs.Lines.{line_text, text_of, below}
pub use Rattle.gen_case.specs.Netlist.{bus_names, partial_lines, adder_lines, output_lines, inputs_line, outputs_line, pair_text, net_name}
pub use Rattle.gen_case.specs.Script.{coefficient_of, data_of, digit_text, first_coefficient, param_lines, setting, digits_text}
pub use Rattle.gen_case.specs.Steps.{after_blanks}
pub use Rattle.gen_case.specs.declared.net.Bus.{Bus}
pub use Rattle.gen_case.specs.declared.net.Bus.TheVariants.{Data, Coefficient, Product}
pub use Rattle.gen_case.specs.declared.net.CaseNet.{CaseNet}
pub use Rattle.gen_case.specs.declared.net.CaseNet.TheVariants.{Zero, Partial, Sum, Carry, Digit}
