-- The lemmas that answers cite, passed on from one place.
pub use Rattle.aiger_io.proofs.Common.{◌≡◌, ℕ, List, true, map, drop, codes, Bor, Some, sym, ◌∙◌, ap, subst, bytes_decides, bytes_eq, Vec, option_map, not-false, drop_get, capped_numbers, header_by, ◌+◌, Err, OrMemory-map, passed_on, capped_result, header_of, header_in, refusal_of, capped_item, item_of, kind_at, words_of, ◌<◌, ◌≤◌, [], ◌∷◌, ◌++◌, length, get_or, arith, length-append, length-map, drop_past, item_at, items_from, Malformed, Item, length-drop, lines, OrMemory, IsHeaderOf, circuit_under, circuit_of, IsLibraryIn, passed_err, Header, and_then, named_behind, Ok, item_count, named_circuit, no_symbols, symbols_from, None, library_of, input_names, first_twice, circuit_with, unless, refl, lines_of_parts, eqb-true, ◌-◌, false, symbol_value, symbol_of, symbol_at, decimal, added_as, added_twice, slice_get, first_and, Pair, gate_item, item_text, slice_get-get_or, FlatLatch, latch_item, symbol_text, OutPort, Param, slice_index_or, rules, put_over}
pub use Rattle.aiger_io.proofs.LineLemmas.{words_capped, answer_is, behind, number_next, number_stop, header_got, header_error, item_good, item_out, items_full, items_end, items_next_at, items_stop_at, text_is, under_is, behind_is, circuit_made, symbols_end, symbols_next, symbols_stop, symbol_read, symbol_bad, symbol_more}
pub use Rattle.aiger_io.proofs.RowLemmas.{row_at, no_row, read_here, lines_few, row_next, row_last, row_none, row_pushed, parts_few, not_empty, rows_cut}
pub use Rattle.aiger_io.proofs.WrittenLemmas.{gate_line, header_line, latch_line, symbol_line, added_numbered, whole_text}
