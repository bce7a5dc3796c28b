-- The lemmas that answers cite, passed on from one place.
pub use Rattle.blif_flat.proofs.Common.{List, sym, ap, ◌∙◌, slice_get, option_map, same_Some, slice_get-map, passed_on, ports_value, Ports, flat_evaluates, flat_cycles, length, refl, arith, slice_get_read, place_body, ◌≡◌, [], subst, slice_get-get_or, Gate, paths_of, places_at, kind_test, AreGatesAt, with_rows, IsNets, IfOk, ModelValue, commands_names, with_names, distinct_names, ◌+◌, Some, None, option_and_then, slice_get_past, name_place, Start, NetsValue, drop, map, OrMemory, model_at, inputs_of, is_latch, refusal_of, Clocks, is_gate, ClockData, clock_test, input_name, IsControlled, get_or, Option, get_or_from_slice_get, FlatErr, names_fault, LibraryValue, Unless-map, Bool, ltb, place_of, IfOk-weaker, IfErr-weaker, input_at, ◌<◌, table_of, ◌≤◌, most_weight, regular_numbers, regular_places, AreFlatCovers, flat_cover, AreFlatLatches, flat_latch, ◌++◌, ℕ, In, In-left, In-right, most_underscores, unmarked_after, OutPort, is_cover, IsFound, IsNumberLoop, all_starts, AreWrittenAt, cover_edges, VisitedAll, reverse, WalkValue, Searched, IsReady, In-get, AreWritten, path_text, reverse-reverse, at_within, reversed_in, models_fault, Tells, models_at, ◌∷◌, Connection, twice_in, output_actuals, both_ways, SubcktValue, IsModelOf, names_at, Finds, model_names, new_names, has_name}
pub use Rattle.blif_flat.proofs.FaultOnceLemmas.{loop_refused, all_sound, none_stands, controls_refused, data_refused, walk_fault, heavy_fault, driver_fault, comes_past}
pub use Rattle.blif_flat.proofs.Fields.AssembleLemmas.{flat_bounds, few_covers, counted_as, fields, few_marks, logic_known}
pub use Rattle.blif_flat.proofs.Hierarchy.GateLemmas.{row_within, row_body, found_by, all_listed, all_gates, few_gates, row_commands, gate_within, latch_stands, latch_written}
pub use Rattle.blif_flat.proofs.Connections.NetCopyLemmas.{with_slot-nets, slot_found, slot_fits}
pub use Rattle.blif_flat.proofs.Models.ModelNameLemmas.{model_split, commands_split}
pub use Rattle.blif_flat.proofs.Clocking.ClockStepLemmas.{clocks_told, tells_ok, tells_err, data_place, data_passed, gate_data_refused, outputs_said, marked_inputs, unlisted, listed_at, control_read, control_met, control_refused, gate_passed, gate_refused, all_passed, came_end, none_read, met_input, met_another, met_latch, met_cover, input_within, latch_within, cover_within, kept_within}
pub use Rattle.blif_flat.proofs.Hierarchy.PlaceLemmas.{rows_under, path_text-last}
pub use Rattle.blif_flat.proofs.Fields.RegularNetLemmas.{all_mapped, covers_are, latches_are, most_of_three, regular_names, unmarked_step}
pub use Rattle.blif_flat.proofs.Fields.LoopOrderLemmas.{walked_range, walked_roots, walked_clean, loop_inside, loop_told, written_next}
pub use Rattle.blif_flat.proofs.Fields.NumberWalkLemmas.{cover_nodes, clear, not_stopped, closed, range_below, loop_of_roots, loop_of_others, order_of_roots}
pub use Rattle.blif_flat.proofs.Models.DrivenLemmas.{read_split, told, gone_on, models_split, drive_split, names_split}
pub use Rattle.blif_flat.proofs.Models.ModelPathLemmas.{recursive_err, child_err, child_ok, names_next}
pub use Rattle.blif_flat.proofs.Models.NameSetLemmas.{finds, few_model_names, all_names, has_inputs, ports_of_parts}
pub use Rattle.blif_flat.proofs.Models.WeightLemmas.{weight_told, order_inside, kept_next}
