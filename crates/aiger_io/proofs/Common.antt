-- What the proofs of this crate cite of other crates, and its own definitions, passed on from one place.
pub use Rattle.std.proofs.Common.{◌≡◌, lit<, ℕ, zero, suc, ◌+◌, ◌-◌, ◌*◌, ◌/◌, ◌^◌, ◌<◌, ◌≤◌, max, Bool, true, false, cond, ◌&&◌, ◌||◌, eqb, get_or, take, drop, List, [], ◌∷◌, ◌++◌, length, map, decimal, Some, inl, inr, refl, sym, ap, ◌∙◌, subst, arith, replicate, true≢false, leb, Option, None, Result, Ok, Err, leb-true, ◌⊎◌, codes, length-append, length-drop, ◌%◌, not, append-nil, append_assoc, ltb, unwrap_or, length-take, take-append-drop, drop-drop, take_all, drop-cons, eq-eqb, min, Bor, rules, tests}
pub use Rattle.std.proofs.Math.ListN.{get_or-append}
pub use Rattle.std.proofs.Math.Seq.{get_or-append_seam, take-append_seam, drop-append_seam}
pub use Rattle.std.proofs.lemmas.Bool.{cond-true, cond-false, cases_Bool, and_parts, or_cases, le-leb, and_from, or_right, false_from_ne_true, cases_lt, ltb-true, lt-ltb, not-true, eqb-true, eqb-false, ne_eqb, or_from, le-ltb, or_parts, and_left, not-false, and_right, or_left, lt-leb, not_from_false}
pub use Rattle.std.proofs.lemmas.Bool.Decides.{nat_tests}
pub use Rattle.std.proofs.lemmas.Fmt.{decimal_is_IsNumeral, length-decimal-le, decimal_digit}
pub use Rattle.std.proofs.lemmas.Iterator.Consumers.{map_from_collect}
pub use Rattle.std.proofs.lemmas.Iterator.Splits.{YieldsList-from_slice_split}
pub use Rattle.std.proofs.lemmas.List.{drop-map, length-map, length-replicate, map-append}
pub use Rattle.std.proofs.lemmas.List.Concat.{flat_map-append}
pub use Rattle.std.proofs.lemmas.List.FromFn.{length-map-range_with_len, get_or-map-range_with_len, length-range_with_len, get_or-range_with_len}
pub use Rattle.std.proofs.lemmas.List.Splits.{slice_split_none, slice_split_at, join_with_byte-slice_split, length-slice_split}
pub use Rattle.std.proofs.lemmas.List.Sums.{position_or_len_is, split_at_first, passes_at_first, count_by-le-length}
pub use Rattle.std.proofs.lemmas.Option.{none-some, same_Some, slice_get-map, slice_get-get_or, slice_get_within, get_or_from_slice_get}
pub use Rattle.std.specs.Cmp.Lexicographic.{bytes_decides}
pub use Rattle.std.specs.List.{join_with_byte, list_all, position_or_len, before_first, after_first, range_with_len, flat_map, list_any, slice_split, onto_first}
pub use Rattle.std.specs.Option.{option_map, is_some, option_and_then}
pub use Rattle.std.specs.Prelude.{slice_get, bytes_eq, slice_set, slice_index_or, IfOk, IfErr, MatchResult, Vec}
pub use Rattle.std.specs.Str.Lines.{lines, lines_of_parts, strip_carriage_return}
pub use Rattle.std.specs.Str.Parse.{digits_value}
pub use Rattle.aig_core.specs.Aig.{Aig, first_and, node_count, pair_of, AreNormal, IsLit}
pub use Rattle.aig_core.specs.Roots.{RootsValue, lits_of}
pub use Rattle.aig_core.specs.Value.{node_value, value_of, FitsGraph, HasOneFit}
pub use Rattle.aig_core.specs.declared.lit.Lit.{Lit}
pub use Rattle.aig_core.specs.declared.lit.Pair.{Pair}
pub use Rattle.list_laws.proofs.Apart.{right_apart, not_in_both, left_apart}
pub use Rattle.list_laws.proofs.Choice.{none_both, choose_one, some_then}
pub use Rattle.list_laws.proofs.Members.{In-get, In-left, In-right, In-get_or, place_in, In-push, In-pushed, In-append, map_agree, In-map}
pub use Rattle.list_laws.proofs.Places.{at_within, same_list, set_here, set_other, set_length, same_or, get_left, drop_past, mapped_at, drop_get, get_pushed}
pub use Rattle.list_laws.proofs.TwoLists.{get_right}
pub use Rattle.list_laws.specs.Members.{In}
pub use Rattle.netlist.proofs.UnderscoreLemmas.{few_underscores, many_underscores, most-append}
pub use Rattle.netlist.specs.CoverValue.{CoverValue, allows, cover_value, RowValue}
pub use Rattle.netlist.specs.Cycle.{Fits}
pub use Rattle.netlist.specs.Flat.{underscores, most_underscores}
pub use Rattle.netlist.specs.FlatValue.{FlatValue}
pub use Rattle.netlist.specs.HasCleanNames.{AreClean, IsCleanBody, HasCleanNames}
pub use Rattle.netlist.specs.LibraryValue.{ModelValue, LibraryValue, Ports, ports_of, input_ports, output_ports, clock_ports}
pub use Rattle.netlist.specs.Models.{Path}
pub use Rattle.netlist.specs.Nets.{IsClock, listed, controls, Net, Drives, cover_output, latch_output, latch_net, cover_net}
pub use Rattle.netlist.specs.Places.{Place, is_latch, own_places, flat, none, FlatOrder, FlatUnder, latch_at, latch_in}
pub use Rattle.netlist.specs.Runs.{state_of, AreLatches, IsCycle, init_state, inits_of, next_state, next_states, library_machine}
pub use Rattle.netlist.specs.declared.cell.Cell.{Cell}
pub use Rattle.netlist.specs.declared.cell.Cell.TheVariants.{One, Zero}
pub use Rattle.netlist.specs.declared.command.Command.{Command}
pub use Rattle.netlist.specs.declared.flat.FlatLatch.{FlatLatch}
pub use Rattle.netlist.specs.declared.flat.OutPort.{OutPort}
pub use Rattle.param_list.specs.Parameters.{regular_names, param_names, ParamsValue}
pub use Rattle.param_list.specs.declared.params.Param.{Param}
pub use Rattle.tl_fault.proofs.OrMemoryLemmas.{OrMemory-map}
pub use Rattle.tl_fault.proofs.PassedOn.{passed_on, passed_err}
pub use Rattle.tl_fault.specs.OrMemory.{OrMemory}
pub use Rattle.tl_piece.proofs.AddedLemmas.{added_to, added_as, added_twice, put_over}
pub use Rattle.tl_piece.proofs.PartLemmas.{added_next, added_part}
pub use Rattle.tl_piece.specs.Added.{IsAdded}
pub use Rattle.tl_text.proofs.NameSetLemmas.{in_has, has_in, has_with_names}
pub use Rattle.tl_text.proofs.WordLemmas.{is_special, ordinary_clean, word_clean, one_clean, more_clean, byte_ordinary, decimal_ordinary, marked_ordinary, number_from-push, AllClean, decimal_form, decimal_value, decimal_clean}
pub use Rattle.tl_text.specs.Clean.{IsClean}
pub use Rattle.tl_text.specs.Decimal.{is_digit, is_decimal, number_from}
pub use Rattle.tl_text.specs.Lines.{is_bad, ends_in}
pub use Rattle.tl_text.specs.NameSets.{has_name, with_name}
pub use Rattle.tl_text.specs.Once.{AreOnce}
pub use Rattle.tl_text.specs.Tokens.{is_blank}
pub use Rattle.tl_text.specs.WrittenText.{words_text, line_text}
pub use Rattle.aiger_io.specs.AigerText.{IsOfFormatWith, IsAigerText, IsOfFormat, IsHeaderRow, IsLaterRow, kind_of_item, AreInSections, by_symbol, IsNumber, AreNumbers, Symbol, IsComment, count_of, IsSymbolRow, MayStand, IsLetterOf, AreSymbolRows, AllStand, header_numbers, AreItemRows, IsSection, IsItemRow, IsNameOf, AreNamesOf}
pub use Rattle.aiger_io.specs.Reader.{capped, capped_numbers, capped_header, capped_result, named_count, capped_item, capped_number, capped_symbol, IsHeaderOf, twice_from, seen_from, symbol_value, is_header, header_with, header_by, header_in, header_of, other_header, kind_at, is_literal, is_variable, item_count, is_in_range, items_from, one_number, init_of, latch_with, latch_of, and_with, and_of, item_of, item_with, item_at, number_of, numbers_of, in_front, and_then, words_of, default_name, input_names, output_names, port_names, first_twice, is_twice, is_port, name_at, names_from, circuit_of, IsLibraryIn, circuit_with, unless, named_circuit, circuit_behind, circuit_under, IsParsed, circuit_in, named_behind, SymbolsValue, no_symbols, symbols_from, no_name, first_of, place_of, may_stand, with_symbol, symbol_of, symbol_at, is_bad_name, kind_of, symbol_by, symbol_with, is_bad_byte}
pub use Rattle.aiger_io.specs.Circuit.{Circuit}
pub use Rattle.aiger_io.specs.CircuitLibrary.{mark_of, own_name, variable_name, next_name, cell_of, cover_command, zero_command, literal_command, latch_command, port_name, model_of, library_of, item_commands, commands_of, commands_from, library_weight}
pub use Rattle.aiger_io.specs.GraphCircuit.{graph_circuit, input_count, lit_at, IsWrittenFrom, input_at, input_item, latch_item, output_item, gate_item, graph_items, IsGraphsCircuit, graph_header, lines_text, symbols_text}
pub use Rattle.aiger_io.specs.Refusals.{refusal_of}
pub use Rattle.aiger_io.specs.Refused.{IsPort, IsAlike, Begins, BeginsWithSymbols, IsItemHere, IsRefused, later, bad_header, missing, malformed, out_of_range, malformed_symbol, bad_symbol, alike, StandsTwice, IsNameRefused}
pub use Rattle.aiger_io.specs.Run.{literal_value, FitsLines, output_literal, next_literal, init_bit, output_literals, next_literals, IsDefined, zero_variable, input, latch, gate, init_bits, IsCircuitCycle, circuit_machine, HasSameRuns}
pub use Rattle.aiger_io.specs.WrittenText.{circuit_text, numbered, numbered_text, header_words, item_words, symbol_text, init_words, item_text}
pub use Rattle.aiger_io.specs.declared.aag_err.AagErr.{AagErr}
pub use Rattle.aiger_io.specs.declared.aag_err.AagErr.TheVariants.{BadSymbol, Malformed}
pub use Rattle.aiger_io.specs.declared.header.Header.{Header}
pub use Rattle.aiger_io.specs.declared.item.Item.{Item}
pub use Rattle.aiger_io.specs.declared.item.Item.TheVariants.{Input, Latch, Output, And}
pub use Rattle.aiger_io.specs.declared.item.LineKind.{LineKind}
pub use Rattle.machine.specs.Machine.{MealyMachine, reading}
pub use Rattle.machine.proofs.RefineLemmas.{refines_by, refines_on}
