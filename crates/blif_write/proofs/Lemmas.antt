-- The lemmas that answers cite, passed on from one place.
pub use Rattle.blif_write.proofs.NetlistLemmas.{clock_text, latch_text, latch_next, latches_whole, input_lines, one_list, tables_text, two_lists, wire_text, wire_next, wires_whole, head_text, specialised_is, template_is}
pub use Rattle.blif_write.proofs.Common.{added_as, added_twice, written_latch, arith, added_to, added_none, ap, Naming, ◌≡◌, ◌-◌, ◌<◌, [], length, get_or, sym, ◌∙◌, In-get_or, ℕ, ◌∷◌, map, cell_character, added_next, digit_cells, ◌^◌, cond, Bool, flat_map, range_with_len, row_line, line_text, take_all, Lut, codes, added_part, bit_names, ◌+◌, bit_name, words_text, fixed_table, cover_lines, ◌*◌, List, literal_name, refl, leaf_names, tunable_table, control_names, OutPort, length-map, ◌≤◌, not, subst, length-filter_le, Shape, FlatValue, has_name, ParamsValue, param_names, regular_names, naming_of, rules, put_over}
pub use Rattle.blif_write.proofs.OwnNameLemmas.{own_is, name_at, other_literal, words_of, placed_names, placed_within, placed_count, same_naming, same_shape}
pub use Rattle.blif_write.proofs.RowLemmas.{digit_text, digits_are, with_digits, fixed_row_text, fixed_rows_are, chosen_row, tunable_row_text, tunable_rows_are}
pub use Rattle.blif_write.proofs.PortLemmas.{ports_there}
pub use Rattle.blif_write.proofs.MeaningLemmas.{specialised_means, template_means}
