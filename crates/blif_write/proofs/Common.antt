-- What the proofs of this crate cite of other crates, and its own definitions, passed on from one place.
pub use Rattle.std.proofs.Common.{Bool, IsTrue, List, None, Option, Some, [], ap, append-nil, append_assoc, ap₂, arith, bytes_eq, codes, cond, decimal, drop, eqb, false, filter, get_or, if◌then◌else◌, inl, inr, is_some, leb, length, length-append, length-take, map, nat_le, nat_lt, not, refl, replicate, reverse, rules, slice_get, slice_index_or, subst, suc, sym, take, true, zero, ℕ, ◌%◌, ◌&&◌, ◌*◌, ◌++◌, ◌+◌, ◌-◌, ◌/◌, ◌<◌, ◌^◌, ◌||◌, ◌∙◌, ◌∷◌, ◌≡◌, ◌≤◌, ◌⊎◌}
pub use Rattle.std.proofs.lemmas.Bool.{and_from, and_parts, cases_Bool, false_from_ne_true, le-leb, leb-true, ne_eqb, not-true, or_cases}
pub use Rattle.std.proofs.lemmas.List.{append_cancel_left, get_or-map, get_or_read, length-map, length-replicate, map-append, reverse-reverse, take_all, take_more}
pub use Rattle.std.proofs.lemmas.List.Concat.{flat_map-append, flat_map_single}
pub use Rattle.std.proofs.lemmas.List.Folds.{flat_map-map}
pub use Rattle.std.proofs.lemmas.List.FromFn.{get_or-map-range_with_len, length-map-range_with_len}
pub use Rattle.std.proofs.lemmas.List.Sums.{sum_by-cons}
pub use Rattle.std.proofs.lemmas.Option.{none-some, same_Some, slice_get-map, slice_get_within}
pub use Rattle.std.proofs.lemmas.Simd.{map-map}
pub use Rattle.std.proofs.lemmas.Slice.Eq.{bytes_eq-Decides}
pub use Rattle.std.specs.List.{flat_map, list_any, range_with_len}
pub use Rattle.std.specs.Option.{option_and_then, option_map, option_map_or}
pub use Rattle.aig_core.specs.Roots.{lits_of}
pub use Rattle.aig_core.specs.declared.lit.Lit.{Lit}
pub use Rattle.blif_read.specs.Denotes.{AreCommands, AreLibrary, Denotes, IsCoverLine, IsModel, names_in}
pub use Rattle.blif_read.specs.Rows.{AreRows, IsRow, behind, cell_character, output_token}
pub use Rattle.cover_pick.specs.Mapping.{AscendByLit, HasLut, HaveBases, bits_of}
pub use Rattle.cover_pick.specs.Template.{TemplateValue}
pub use Rattle.cover_pick.specs.declared.lut.Lut.{Lut}
pub use Rattle.depth_first.specs.DepthFirst.{Posts, PostsAll, posts, skips}
pub use Rattle.list_laws.proofs.Apart.{apart_once, filtered_apart, joined_apart, not_in_both, right_apart}
pub use Rattle.list_laws.proofs.Digits.{half, lowest, number-small}
pub use Rattle.list_laws.proofs.Members.{In-append, In-filter, In-get, In-get_or, In-left, In-map, In-right, from_map, in_filter, in_or, length-filter_le, place_in}
pub use Rattle.list_laws.proofs.Places.{at_within, get_left}
pub use Rattle.list_laws.proofs.Ranges.{in_range, of_range, ranges_join}
pub use Rattle.list_laws.proofs.TwoLists.{get_right}
pub use Rattle.list_laws.specs.Digits.{bit_value, digit, number}
pub use Rattle.list_laws.specs.Members.{In}
pub use Rattle.lut_sim.specs.Cycle.{IsTableCycle, address, leaf_values, lut_machine}
pub use Rattle.lut_sim.specs.Sources.{is_plain, is_regular, last_source, source_value}
pub use Rattle.lut_sim.specs.declared.shape.Shape.{Shape}
pub use Rattle.netlist.proofs.UnderscoreLemmas.{many_underscores, few_underscores}
pub use Rattle.netlist.specs.CoverValue.{CoverValue, RowValue, allows, cover_value, matches, some_row}
pub use Rattle.netlist.specs.Flat.{AreNetsOf, IsControl, IsFlat, IsFlatCover, IsFlatLatch, IsNetOf, IsNumbered, Places, TellsClocks, a_cover, a_latch, an_input, cover_numbers, inputs_at, more as more_nets, most_underscores, no_latch, none as no_nets, some_latch, underscores, with_control_net}
pub use Rattle.netlist.specs.FlatValue.{FlatValue}
pub use Rattle.netlist.specs.HasCleanNames.{HasCleanNames, IsCleanBody}
pub use Rattle.netlist.specs.Instances.{ConnectionAt, CoverAt, IsMainInput, LatchAt}
pub use Rattle.netlist.specs.Law.{HasOneCycle}
pub use Rattle.netlist.specs.LibraryValue.{LibraryValue, ModelValue, Ports, clock_ports, input_ports, output_ports, ports_of}
pub use Rattle.netlist.specs.Models.{Path, body_at, has_name, is_input, model_at, model_named, placed, subckts_of}
pub use Rattle.netlist.specs.Nets.{Drives, IsClock, Net, controls, cover_net, cover_output, from_inside, from_outside, input_net, latch_net, latch_output, listed, main_input}
pub use Rattle.netlist.specs.Places.{FlatOrder, FlatUnder, Place, flat, is_cover, is_latch, latch_at, own_places, none}
pub use Rattle.netlist.specs.Sound.{IsData, IsSound, cover_data, latch_data}
pub use Rattle.netlist.specs.SubcktValue.{SubcktValue}
pub use Rattle.netlist.specs.WellFormed.{IsWellFormed, IsWellFormedBody}
pub use Rattle.netlist.specs.declared.cell.Cell.{Cell}
pub use Rattle.netlist.specs.declared.cell.Cell.TheVariants.{Any, One, Zero}
pub use Rattle.netlist.specs.declared.command.Body.{Body}
pub use Rattle.netlist.specs.declared.command.Body.TheVariants.{Subckt, Cover, Latch}
pub use Rattle.netlist.specs.declared.command.Command.{Command}
pub use Rattle.netlist.specs.declared.flat.FlatLatch.{FlatLatch}
pub use Rattle.netlist.specs.declared.flat.OutPort.{OutPort}
pub use Rattle.netlist.specs.declared.latch.Latch.{Latch as LatchValue}
pub use Rattle.param_list.specs.Parameters.{ParamsValue, param_names, regular_names}
pub use Rattle.param_list.specs.declared.params.Param.{Param}
pub use Rattle.tl_piece.proofs.AddedLemmas.{added_as, added_none, added_to, added_twice, put_over}
pub use Rattle.tl_piece.proofs.PartLemmas.{added_next, added_part}
pub use Rattle.tl_piece.specs.Added.{IsAdded}
pub use Rattle.tl_text.proofs.NameSetLemmas.{has_in, in_has}
pub use Rattle.tl_text.proofs.WordLemmas.{decimal_ordinary, is_special, marked_ordinary, one_clean, ordinary_clean, word_clean}
pub use Rattle.tl_text.specs.Clean.{IsClean}
pub use Rattle.tl_text.specs.Once.{AreOnce}
pub use Rattle.blif_write.specs.Meaning.{HasPorts, free_control, AreTablesOf, Means, driven_by, all_bit_names, input_bits, IsPortName}
pub use Rattle.blif_write.specs.Netlists.{wire_of, wire, wires, written_latches, bit_names, clock_of, written_latch, control_names, with_tables, digit_cell, digit_cells, leaf_names, chosen_cells, fixed_table, tunable_table, specialised_netlist, template_netlist, fixed_rows, tunable_rows}
pub use Rattle.blif_write.specs.OwnNames.{Naming, own_name, table_name, latch_name, literal_name, naming_of, bit_name, source_name}
pub use Rattle.blif_write.specs.PlainNetlist.{PlainNetlist, IsPlain, all_inputs, control_words, latch_line, row_line, cover_lines, netlist_text, read_control, read_latch, latch_commands, cover_commands, model_of, library_of, words_text, line_text}
pub use Rattle.netlist.specs.Runs.{library_machine, AreLatches, AreInits, inits_of, state_of, next_states, IsCycle}
pub use Rattle.machine.specs.Machine.{reading, GivesCycle, GivesRun}
