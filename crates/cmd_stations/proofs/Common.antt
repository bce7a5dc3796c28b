-- What the proofs of this crate cite of other crates, and its own definitions, passed on from one place.
pub use Rattle.std.proofs.Common.{◌≡◌, ℕ, Bool, not, List, [], ◌∷◌, length, get_or, drop, refl, sym, ap, ◌∙◌, subst, arith, ◌+◌, ◌++◌, map, ◌<◌, take, Option, append-nil, ◌≤◌, Some, suc, true, false, cond, bytes_eq, ◌/◌, inl, inr, None, Ok, subst₂, zero, ◌-◌, ◌&&◌, leb, ltb, replicate, ◌⊎◌, append_assoc, Result, Err, ◌*◌, ◌^◌, rules}
pub use Rattle.std.proofs.Math.Path.{fun_ext}
pub use Rattle.std.proofs.lemmas.Bool.{and_parts, and_from, or_cases, or_left, or_right, leb-true, le-leb, lt-ltb, ltb-true, cases_lt}
pub use Rattle.std.proofs.lemmas.List.{length-map, length-append, map-append, take_more, take-append-drop, length-replicate}
pub use Rattle.std.proofs.lemmas.Option.{same_Some, none-some, slice_get_within, slice_get-map, get_or_from_slice_get}
pub use Rattle.std.specs.List.{concat}
pub use Rattle.std.specs.Option.{option_and_then, option_map}
pub use Rattle.std.specs.Prelude.{slice_get, if◌then◌else◌, IsErrAnd, IfErr, MatchResult, slice_index_or}
pub use Rattle.aig_build.specs.CoverGraph.{Literals}
pub use Rattle.aig_build.specs.NetlistCycle.{source_values, literal_values}
pub use Rattle.aig_build.specs.NetlistGraph.{none, more, MakesAll, IsGraphOf, HasTooManyNodes, HasOneGraph, input_names, source_kinds, IsSourceLiteral, Makes, a_source}
pub use Rattle.cmd_stations.specs.declared.limits.TheConstants.{GRAPH_ROOM}
pub use Rattle.aig_core.specs.Aig.{Aig, node_count, IsSource, first_and, AreNormal}
pub use Rattle.aig_core.specs.Roots.{RootsValue, roots_of, lits_of}
pub use Rattle.aig_core.specs.Value.{FitsGraph, value_of, HasOneFit}
pub use Rattle.aig_core.specs.declared.lit.Kind.{Kind}
pub use Rattle.aig_core.specs.declared.lit.Kind.TheVariants.{Regular, Parameter}
pub use Rattle.aig_core.specs.declared.lit.Lit.{Lit}
pub use Rattle.aig_core.specs.declared.lit.Pair.{Pair}
pub use Rattle.bit_fun.specs.PackOf.{pack_param, IsPackOf}
pub use Rattle.blif_flat.specs.Faults.{IsFault, HasOneFault}
pub use Rattle.blif_flat.specs.declared.flat_err.FlatErr.{FlatErr}
pub use Rattle.blif_read.specs.Denotes.{Denotes}
pub use Rattle.blif_write.specs.Meaning.{Means, free_control, all_bit_names, input_bits, HasPorts, AreTablesOf}
pub use Rattle.blif_write.specs.OwnNames.{naming_of, literal_name, latch_name}
pub use Rattle.blif_write.specs.PlainNetlist.{library_of, PlainNetlist, netlist_text}
pub use Rattle.cmd_base.proofs.EndLemmas.{IsPart, Explains_lift, Explains_from}
pub use Rattle.cmd_base.specs.Walk.{Told, Explains, HasWriteFault, IsBegun, IsBegunFrom, Ends, InFiles, Outside, outside, CommandWalk, FileReading}
pub use Rattle.cmd_base.specs.Refusals.{too_long, most_bytes}
pub use Rattle.cmd_base.specs.Writing.{FileText, with_texts, HasPrefix, IsCut, AreWritten, writing_outcome}
pub use Rattle.cmd_base.specs.declared.outcome.File.{File}
pub use Rattle.cmd_base.specs.declared.outcome.Outcome.{Outcome}
pub use Rattle.cover_pick.specs.Mapping.{IsMapping, IsLeast, IsTableOf, source, free, node, bits_of}
pub use Rattle.cover_pick.specs.Template.{TemplateValue, IsTemplate, IsTooMuch}
pub use Rattle.cover_pick.specs.declared.lut.Lut.{Lut}
pub use Rattle.cover_pick.specs.declared.lut.PickErr.{PickErr}
pub use Rattle.cover_pick.specs.Rounds.{Supply, Rows, Sets}
pub use Rattle.cover_pick.specs.declared.rule.Rule.{Rule}
pub use Rattle.cover_pick.specs.declared.rule.Rule.TheVariants.{FewestLeaves, LeastCost}
pub use Rattle.cut_enum.specs.Limits.{IsLimit}
pub use Rattle.cut_enum.specs.declared.table.CutErr.{CutErr}
pub use Rattle.cut_sets.specs.Labels.{AreLeastHeights, label_at}
pub use Rattle.depth_label.specs.Label.{LabelsValue, label_of, AreLabelled, HasOneLabelling}
pub use Rattle.flow_label.specs.Lows.{AreLowsOf, HasOneLow}
pub use Rattle.list_laws.proofs.Members.{map_agree, In-left, In-right, place_in, length-filter_le, In-filter, In-map}
pub use Rattle.list_laws.proofs.Places.{get_left, replicate_at}
pub use Rattle.list_laws.specs.Members.{In}
pub use Rattle.lut_sim.specs.Cycle.{FitsTables, lut_machine, under}
pub use Rattle.lut_sim.specs.GraphShape.{HasShape, AreSourceValues}
pub use Rattle.lut_sim.specs.Playable.{IsPlayable}
pub use Rattle.lut_sim.specs.Sources.{is_regular, last_source}
pub use Rattle.lut_sim.specs.declared.shape.Shape.{Shape}
pub use Rattle.netlist.specs.Flat.{Places, IsFlat, IsNumbered, IsNetOf, AreNetsOf}
pub use Rattle.netlist.specs.FlatCycle.{flat_inits}
pub use Rattle.netlist.specs.FlatValue.{FlatValue}
pub use Rattle.netlist.specs.LibraryValue.{LibraryValue}
pub use Rattle.netlist.specs.Places.{Place, latch_at}
pub use Rattle.netlist.specs.Runs.{IsCycle, AreInits}
pub use Rattle.netlist.specs.declared.flat.FlatLatch.{FlatLatch}
pub use Rattle.netlist.specs.declared.flat.FlatNet.{FlatNet}
pub use Rattle.netlist.specs.declared.flat.OutPort.{OutPort}
pub use Rattle.param_list.proofs.RegularLemmas.{is_split}
pub use Rattle.param_list.specs.Parameters.{regular_names, param_inits, param_names}
pub use Rattle.param_list.specs.ParamsText.{IsParamsText, IsParamsFault}
pub use Rattle.param_list.specs.declared.params.Param.{Param}
pub use Rattle.ppc_file.specs.PackFile.{HasOneReading, IsPackFile, AreSame}
pub use Rattle.ppc_pack.specs.Pack.{PackValue, IsConf, HasOneConf, inits_of}
pub use Rattle.ppc_pack.specs.declared.pack.PackParam.{PackParam}
pub use Rattle.run_core.specs.Events.{host_line, event_line, IsHostPlayed, IsOfHost}
pub use Rattle.run_text.specs.EventValue.{EventValue, Set, Cycle, Upset, Scrub, Image, event_values, each_of}
pub use Rattle.run_text.specs.NamesValue.{NamesValue}
pub use Rattle.run_text.specs.ScriptText.{IsScript, event_of, line_event, IsScriptFault}
pub use Rattle.spec_core.specs.Specialiser.{SpecialiserValue}
pub use Rattle.tl_fault.specs.RefusalValue.{RefusalValue}
pub use Rattle.tl_io.specs.Content.{extended, Puts}
pub use Rattle.tl_io.specs.Port.{PortSeen}
pub use Rattle.tl_io.specs.Shelf.{Files, ShelfSeen, apart, written, emptied}
pub use Rattle.tl_io.specs.Sink.{SinkSeen, IsPut}
pub use Rattle.tl_text.specs.Once.{AreOnce}
pub use Rattle.tl_text.specs.declared.logical_lines.TheConstants.{MOST_BYTES}
pub use Rattle.cmd_stations.specs.Mapped.{most_nodes, Aim, ToTables, IsUnmade, IsBuilt, IsUnlabelled, unbuilt, many_cuts, ToGraph, ToLabels, HasSupply, AreLabelsBy, HasOneLimit, IsChosen, IsUnchosen, cuts, work, IsLeastMapping, IsMapped, IsUnmappedGraph, IsUnmapped, too_many, unchosen, HasFewLeaves}
pub use Rattle.cmd_stations.specs.FileWrites.{WritesAll, WritesFile}
pub use Rattle.cmd_stations.specs.Host.{IsHostStart, SamePacksReplay, AreHostSteps, IsHostStep, host_machine}
pub use Rattle.cmd_stations.specs.Texts.{LibraryRefusal, is_aag, DenotesLibrary, HasOneLibrary, HasText, IsNetlistText, NetlistRefusal, IsParamsRefusal, HasBytes, IsOverlong, fault, unsound, IsScriptRefusal, IsLongText}
pub use Rattle.cmd_stations.specs.Packs.{IsPackItself, IsPackRefusal, HasPack, IsPackRefused, IsPackSettled, pack_reading, names_on, pack_names, present_bytes}
pub use Rattle.cmd_stations.specs.Script.{HasScript, IsScriptRefused, IsScriptSettled, IsScriptFile, IsSplit, names_in, names_of, script_reading, ScriptedWords, HasScripted, IsScriptedRefused, IsScriptedSettled, IsOfScripted, scripted_word, scripted_reading, scripted_seen}
pub use Rattle.cmd_stations.specs.Source.{IsSourceSettled, IsOfSource, IsGraphSettled, IsMappingSettled, IsBuildingSettled, IsLabellingSettled, IsNetlistSettled, AreParamsSettled, IsMakingSettled, source_word, source_reading, IsTextSettled, HasNetlist, HasParams, HasSource, HasMapped, IsSourceRefused, long_netlist, netlist, long_params, params, unmade, IsLeastMapped, ReachesSource, SourceWords, source_seen}
pub use Rattle.cmd_stations.specs.SourceCircuit.{width_of, shape_of, IsSourceCycle, source_machine}
pub use Rattle.cmd_stations.specs.Stops.{Stops, outcome_at, refusal_of, IsUnread}
pub use Rattle.cmd_stations.specs.Tables.{AreMade, AreTables, ComesPast, HasTables, IsReadSource, ComesFrom, ComesWith, ComesScripted}
pub use Rattle.cmd_stations.specs.Tunable.{IsTunable, HasSourceTables}
pub use Rattle.cmd_stations.specs.Written.{regular_values, RunsAs, HasConfiguration, IsTuned, specialised_of, template_of}
pub use Rattle.cmd_stations.specs.declared.netlist_text.Netlist.{Netlist}
pub use Rattle.cmd_stations.specs.declared.source.Source.{Source}
pub use Rattle.cmd_stations.specs.declared.stop.Stop.{Stop}
pub use Rattle.cmd_stations.specs.declared.stop.Stop.TheVariants.{Refused, Memory}
pub use Rattle.cmd_stations.specs.declared.tables.SourceTables.{SourceTables}
pub use Rattle.tl_io.proofs.ContentLemmas.{extended_twice, extended_none}
pub use Rattle.cmd_stations.specs.Machine.{Stage, IsStep, script_machine, AreSteps, IsSourceStart}
pub use Rattle.machine.proofs.RefineLemmas.{refines_by}
