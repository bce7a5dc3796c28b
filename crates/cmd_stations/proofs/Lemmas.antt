-- The lemmas that answers cite, passed on from one place.
pub use Rattle.cmd_stations.proofs.Common.{source_seen, ToGraph, HasTooManyNodes, most_nodes, IsLabellingSettled, HasOneLimit, ToLabels, ◌≡◌, Some, sym, ◌∙◌, LibraryRefusal, ToTables, roots_of, IsTooMuch, IsUnchosen, work, LeastCost, Sets, refl, subst, subst₂, ℕ, List, Aig, label_at, AreLeastHeights, AreLowsOf, IsLimit, label_of, cuts, IsGraphSettled, FewestLeaves, Rows, IsMappingSettled, ◌+◌, length, ap, arith, Kind, Shape, HasShape, Source, width_of, shape_of, inr, IsPlayable, rules, netlist_text, specialised_of, template_of, IsFault, IsTextSettled, NetlistRefusal, present_bytes, most_bytes, HasBytes, IsParamsFault, IsParamsRefusal, HasText, IsScriptFault, IsScriptRefusal}
pub use Rattle.cmd_stations.proofs.StationLemmas.{made_explains, making_settles, netlist_unread, netlist_explains, params_unread, params_explains, script_unread, script_explains}
pub use Rattle.cmd_stations.proofs.StopLemmas.{stops_anyway, passed_settled, passed_anyway, passed_stop, settled_anyway, passed_stops, passed_settles}
pub use Rattle.cmd_stations.proofs.GraphLemmas.{full_labelling, labelling_settled, least_mapping, one_of_flow, supply_settled, work_is, differ, limit_settled, one_of_cuts, full_settled, mapping_settled, tables_as}
pub use Rattle.cmd_stations.proofs.SourceLemmas.{three_count, shape_is, source_shape, source_params}
pub use Rattle.cmd_stations.proofs.ShowLemmas.{outputs_among, next_among, next_count, pack_param_names, pack_inits, pack_bits, tables_play}
pub use Rattle.cmd_stations.proofs.WriteLemmas.{written_over}
pub use Rattle.cmd_stations.proofs.WrittenCycleLemmas.{specialised_runs, template_tuned}
pub use Rattle.cmd_stations.proofs.PackLemmas.{pack_unread, pack_explains, made_names}
