-- What the proofs of this crate cite of other crates, and its own definitions, passed on from one place.
pub use Rattle.std.proofs.Common.{◌≡◌, ℕ, zero, suc, ◌+◌, ◌-◌, ◌^◌, ◌<◌, ◌≤◌, max, Bool, true, false, cond, not, ◌&&◌, ◌||◌, eqb, ltb, ◌⊎◌, List, [], ◌∷◌, ◌++◌, map, reverse, length, get_or, take, drop, set, replicate, is_some, IfOk, IfErr, if◌then◌else◌, IsTrue, slice_get, slice_set, Some, None, Ok, Err, codes, decimal, All, filter, Option, Result, Vec, MatchOption, option_map, MatchResult, option_and_then, bytes_eq, Global, unwrap_or, sym, refl, ap, ◌∙◌, subst, ap₂, subst₂, inl, inr, append_assoc, arith, drop_of_length-le, drop-cons, rules}
pub use Rattle.std.proofs.Math.Path.{fun_ext}
pub use Rattle.std.proofs.lemmas.Bool.{cases_lt, both_ways, cases_Bool, ltb-true, ltb-false, lt-ltb, le-ltb, or_parts, or_cases, cond-true, cond-false, and_parts, and_from, false≢true, or_left, not_from_false, or_right, false_from_ne_true, eq-eqb, eqb-true}
pub use Rattle.std.proofs.lemmas.List.{length-map, length-replicate, length-append, map-append, take_more, reverse-reverse, append-nil, reverse-append, get_or-set_same, get_or-set_other, length-set, take-append-le}
pub use Rattle.std.proofs.lemmas.List.Folds.{find_at, list_any-append}
pub use Rattle.std.proofs.lemmas.Option.{none-some, same_Some, option_and_then_some, slice_get_within, slice_get-map, slice_get_read, slice_get-get_or, slice_get_past, get_or_from_slice_get}
pub use Rattle.std.proofs.lemmas.Result.{IfErr-weaker, IfOk-weaker, on_ok_weaker}
pub use Rattle.std.specs.List.{position_or_len, range_with_len, position, find}
pub use lib.Pointwise.{bytes_decides}
pub use Rattle.depth_first.proofs.PostLemmas.{nodes_done}
pub use Rattle.depth_first.specs.DepthFirst.{nodes_of}
pub use Rattle.depth_first.specs.Edges.{ways_of, ways_from, successors, AreNodes}
pub use Rattle.depth_first.specs.Walk.{VisitedAll, ending_of, Visited}
pub use Rattle.depth_first.specs.declared.edge.Edge.TheVariants.{Node, Stop, Pass}
pub use Rattle.list_laws.proofs.Apart.{apart_once, AreApart, filtered_apart}
pub use Rattle.list_laws.proofs.Choice.{some_then, choose, none_else, none_both}
pub use Rattle.list_laws.proofs.FirstPlace.{list_any-position_none}
pub use Rattle.list_laws.proofs.Items.{drop_at, member_at}
pub use Rattle.list_laws.proofs.Members.{In-right, In-get, In-left, In-append, place_in, In-map, from_map, length-filter_le, In-filter, in_filter, In-push}
pub use Rattle.list_laws.proofs.Places.{take_get, at_within, drop_get, set_here, set_other, set_length, get_left, drop_past, get_before, get_end, get_pushed, same_or, mapped_at}
pub use Rattle.list_laws.proofs.Ranges.{of_range}
pub use Rattle.list_laws.proofs.Reversed.{reversed_in, in_reversed}
pub use Rattle.list_laws.proofs.TwoLists.{item_there, get_right, pushed_pair}
pub use Rattle.list_laws.specs.Members.{In}
pub use Rattle.netlist.proofs.EvaluateLemmas.{behind_is, flat_evaluates, flat_cycles}
pub use Rattle.netlist.proofs.LoopLemmas.{reaches_depends, HasCover, read_cover, start_cover, walk_ordered}
pub use Rattle.netlist.proofs.NameLemmas.{not_empty, same_first, same_rest, in_input, input_in, all_members, cons_first, cons_rest, same_number}
pub use Rattle.netlist.proofs.NetLemmas.{net_of_driver, one_net, same_nets, nets, are_nets, driver_of}
pub use Rattle.netlist.proofs.OrderLemmas.{flat_all, order_all, order_once, places_apart, IsOfKind, flat_only, AreFrom, from_start, from_first, from_rest, placed_at, order_apart}
pub use Rattle.netlist.proofs.PlaceLemmas.{latch_at-some, one_latch, Inside, inside, child_at, command_of, same_place-is, same_place-refl, cover_at-is, body_of, placed-is}
pub use Rattle.netlist.proofs.PostLemmas.{nodes_only, nodes_after, reversed_forward, reversed_apart, reads_earlier, Reaches, at_once, one_more, reached_only, further, acyclic}
pub use Rattle.netlist.specs.Flat.{none, more}
pub use Rattle.netlist.specs.declared.flat.FlatNet.TheVariants.{Input}
pub use Rattle.tl_fault.proofs.OrMemoryLemmas.{OrMemory-map, Unless-map}
pub use Rattle.tl_fault.proofs.PassedOn.{passed_on}
pub use Rattle.tl_text.proofs.NameSetLemmas.{has_with_names, has_in, place_is, in_has, place_some, name_place_within, with_names-length, no_match, with_names-append, new_names}
pub use Rattle.blif_flat.specs.{LatchValue, ModelValue, Path, model_at, inputs_of, LatchAt, input_net, latch_net, cover_net, Drives, IsDriven, IsRead, latch_control, Place, latch_at, is_cover, is_latch, FlatErr, Gate, Instance, places_at, AreInstances, paths_of, IsWritten, Clocks, NetsValue, table_of, AreAllNets, IsGateAt, AreGatesAt, IsControlled, IsWrittenAt, input_at, CameTo, OrMemory, IsClock, FlatNet, refusal_of, is_gate, ClockData, or_later, Tells, names_fault, has_name, listed, FlatOrder, with_names, input_name, is_control, clock_test, Latch, Cover, place_of, Subckt, Body, body_at, CoverAt, Net, cover_in, latch_in, cover_data, latch_data, IsSound, Command, Connection, with_subckt, subckts_of, ConnectionAt, path_of, IsRow, body_names, commands_names, all_names, Link, line_of, link_of, link_under, link_at, is_input, is_output, IsSoundTable, HasOwn, HasOutputs, HasInputs, AreNetsAt, net_places, HasSlots, AreEmptyNets, IsNext, IsNets, output_of_cover, output_of_latch, with_covers, with_latches, with_inputs, linked_out, linked_in, formal_of, actual_of, links_out, links_in, AreLinesOf, IsWellFormed, Ports, ports_value, IsLight, Start, with_net, name_place, slot_number, slot_at, with_slot, with_found, copied, pair_copied, pairs_copied, most_weight, IsNumbered, an_input, a_latch, a_cover, IsNetFound, IsNetOf, IsKeptIn, main_input, from_inside, from_outside, Driver, by_input, IsDriver, input, latch, cover, output, input_actual, model_output, own_places, itself, model_places, path_under, kind_count, base_of, own_number, body_in, gate_body, distinct_names, count_in, name_count, starts_from, slot_count, TooLarge, Walked, refused, walked, WalksMain, Weighs, models_fault, Repeat, from_node, AreWritten, IsLoop, LoopWalk, IsWalked, IsConnected, IsClocked, IsFault, HasOneFault, in_walk, too_large, in_drivers, in_controls, in_data, in_loops, HasNoFault, IsChecked, models_at, HasWeight, ClockNets, AreClockNets, OutPort, FlatLatch, cover_reads, PostsAll, own_weight, AreNetsOf, most_underscores, IsFlat, regular_numbers, IsRegular, regular_places, AreFlatCovers, AreFlatLatches, AreCounted, root_numbers, input_ports, AreOnce, IsFlatCover, IsFlatLatch, reads_of, roots_of, Meets, met, goes, MeetsAll, InRange, IsNumberLoop, all_starts, IsOrder, AreWrittenAt, leads, WalkValue, cover_numbers, inputs_at, edge_of, cover_edges, IsReady, IsClear, same_place, AreNets, with_cover, covers_among, reads_in, latch_covers, all_latch_covers, AreWalked, latch_nets, number_or_zero, renumbered, renumbered_or, regular_net, regular_nets, cover_input, latch_input, row_model, inputs_or, flat_cover, made_latch, latch_or, flat_latch, underscores, out_port, outputs_or, with_unmarked, unmarked_after, kind_test, numbered_body, place_body, GateKind, with_commands, with_model, with_rows, path_text, of_latch, model_named, input_actuals, read_pairs, control_names, reads, all_drives, driven_names, paths_from, entry_of, with_entry, entries_from, entries_at, IsWaiting, Waits, Listed, model_names, Finds, weighs, WeighAll, flat, InstanceOrder, InstancesUnder, body_weight, commands_weight, FlatUnder, of_input, of_cover, AreUnder, output_or, output_in, output_at, IsTold, output_actuals, twice_in, undriven_in, fault_of, with_numbered, by_latch, by_cover, by_subckt, InstanceAt, unknown_formal, open_input, formals, SubcktLine, is_connected, input_fault, formal_fault, placed_fault, line_fault, UnknownFormal, Unconnected, foreign_formal, open_among, ports_fault, with_name, control_weight, RecursiveModel, chain_from, is_walked, IsModelOf, edge_by, line_edge, with_name_of, with_model_name, names_at, IsPlacing, subckt_lines, IsBehind, AreChildrenFirst, commands_edges, edge_rows, edges_at, lines_fault, output_ports, clock_ports, IsWellFormedModel, driven_pairs, drives, DoublyDriven, Undriven, twice_fault, undriven_fault, model_fault, capped, kept_at, body_kept, commands_kept, model_kept, IsKeptWeight, ReadsCover, Depends, direct, through, Zero, cover_value, cover_output, UnknownModel, Fits, pairs_in, pairs_out, IsFound, Searched, AreOf, ClockNotInput, free, no_input, second, same, IsControl, some_latch, no_latch, IsKeptInput, IsSecond, IsMetInput, IsRefused, not_input, another, ControlNext, ControlFault, IsControlSoFar, data_of, ClockAmong, outputs, here, AreClockMarks, marked_name, clock_named, clock_fault, controls, TellsClocks, cover_at, SecondClock, ClockAsData, data_inputs, IsData, latch_output, with_named, with_gates, with_place, Circuit, with_control_net, IsLogic, IsCircuit, reads_at, IsThere, IsWithinBounds, own_of, InFlatOrder, InFlatOrderUnder, IsControlNet, CoverValue, Places, FlatCoverValue, FlatValue, LibraryValue, SubcktValue}
pub use Rattle.blif_flat.specs.Walk.{stop}
pub use Rattle.blif_flat.specs.declared.flat_err.FlatErr.TheVariants.{Loop}
