-- What the proofs of this crate cite of other crates, and its own definitions, passed on from one place.
pub use Rattle.std.proofs.Common.{◌≡◌, ℕ, ◌<◌, ◌≤◌, List, length, Some, Result, Ok, Err, codes, refl, sym, ap, ◌∙◌, subst, arith, ◌+◌, ◌^◌, true, false, leb, [], ◌∷◌, map, Option, None, inl, inr, ◌-◌, ◌*◌, Bool, ◌&&◌, not, eqb, ltb, ◌++◌, get_or, slice_get, append_assoc, append-nil, length-append, take, drop, length-drop, cond, filter}
pub use Rattle.std.proofs.lemmas.Bool.{cases_lt, le-leb, and_parts, and_left, or_from, leb-true, eqb-false, le-ltb, ne_eqb, not-true}
pub use Rattle.std.proofs.lemmas.List.{length-map, map-append, length-take-le, take_all}
pub use Rattle.std.proofs.lemmas.List.FromFn.{length-map-range_with_len, length-range_with_len}
pub use Rattle.std.proofs.lemmas.Option.{same_Some, none-some, slice_get-get_or}
pub use Rattle.std.specs.List.{flat_map, list_all, concat, range_with_len}
pub use Rattle.aig_core.specs.Roots.{lits_of}
pub use Rattle.aig_core.specs.Value.{value_of}
pub use Rattle.aig_core.specs.declared.lit.Lit.{Lit}
pub use Rattle.blif_read.specs.Denotes.{Denotes}
pub use Rattle.cmd_base.proofs.EndLemmas.{explained_ends, unbegun_ends}
pub use Rattle.cmd_base.specs.Writing.{AreWritten, IsCutInLine}
pub use Rattle.cmd_base.specs.Walk.{Told, Explains, IsBegun, IsBegunFrom, Ends, Outside, outside, KeepsFiles, HasLaws}
pub use Rattle.cmd_base.specs.declared.outcome.Outcome.{Outcome}
pub use Rattle.cmd_stations.proofs.EventLemmas.{then_step, split_by, more_by, value_has}
pub use Rattle.cmd_stations.proofs.InitLemmas.{init_count, init_params, cycle_count, param_count, source_starts}
pub use Rattle.cmd_stations.proofs.RefusedLemmas.{least_mapped}
pub use Rattle.cmd_stations.proofs.ScriptedLemmas.{scripted_or_not, scripted_refused_once, source_to_scripted, script_to_scripted, comes_scripted}
pub use Rattle.cmd_stations.proofs.StationLemmas.{text_settles, netlist_explains, params_explains, made_explains, script_explains, making_settles}
pub use Rattle.cmd_stations.specs.Mapped.{ToTables, IsUnmapped, template_header}
pub use Rattle.cmd_stations.specs.Machine.{machine_header, Job, IsStart, Stage, HasCome, IsStep, AreSteps, IsLoaded}
pub use Rattle.cmd_stations.specs.Script.{script_reading, names_of, HasScript, IsSplit, ScriptedWords, scripted_reading}
pub use Rattle.cmd_stations.specs.Tables.{ComesScripted, ComesFrom, ComesWith}
pub use Rattle.cmd_stations.specs.Source.{IsTextSettled, IsMappingSettled, IsSourceSettled, HasNetlist, HasMapped}
pub use Rattle.cmd_stations.specs.SourceCircuit.{shape_of, IsSourceCycle}
pub use Rattle.cmd_stations.specs.Stops.{Stops, outcome_at}
pub use Rattle.cmd_stations.specs.Tunable.{IsTunable}
pub use Rattle.cmd_stations.specs.declared.scripted.Scripted.{Scripted}
pub use Rattle.cmd_stations.specs.declared.source.Source.{Source}
pub use Rattle.cover_pick.specs.Mapping.{bits_of}
pub use Rattle.cover_pick.specs.Template.{TemplateValue}
pub use Rattle.gen_case.specs.Case.{CaseValue, IsShort}
pub use Rattle.gen_case.specs.Lines.{text_of, line_text, below}
pub use Rattle.list_laws.proofs.Members.{In-get_or, length-filter_le}
pub use Rattle.list_laws.specs.Digits.{bit_value, number}
pub use Rattle.list_laws.specs.Members.{In}
pub use Rattle.lut_sim.specs.Cycle.{IsOnlyTableCycle, IsTableCycle}
pub use Rattle.lut_sim.specs.Sim.{SimValue}
pub use Rattle.lut_sim.specs.declared.shape.Shape.{Shape}
pub use Rattle.port_bank.specs.Bank.{BankSeen, all_ports}
pub use Rattle.port_bank.specs.Image.{Holds}
pub use Rattle.port_bank.specs.Seen.{bank_seen}
pub use Rattle.ppc_pack.specs.Pack.{IsConf, PackValue, HasOneConf}
pub use Rattle.run_core.specs.Events.{event_line, MachineValue, IsPlayed, IsRight, IsSteady, FitsShape, FitsPack}
pub use Rattle.run_core.specs.declared.step_err.StepErr.{StepErr}
pub use Rattle.run_core.specs.declared.step_err.StepErr.TheVariants.{WriteFault, PortFault}
pub use Rattle.run_text.specs.EventValue.{EventValue, event_values, Set, Cycle, Upset, Scrub, Image, event_value, in_front, each_of}
pub use Rattle.run_text.specs.Fits.{Fits}
pub use Rattle.run_text.specs.NamesValue.{NamesValue}
pub use Rattle.run_text.specs.declared.event.Event.{Event}
pub use Rattle.spec_core.specs.Differences.{differs_at, write_of, differences, config_bit}
pub use Rattle.spec_core.specs.Specialiser.{SpecialiserValue}
pub use Rattle.tl_io.specs.Assigns.{assigned, AreAssigned}
pub use Rattle.tl_io.specs.Causes.{Rose}
pub use Rattle.tl_io.specs.Content.{extended}
pub use Rattle.tl_io.specs.Port.{PortSeen}
pub use Rattle.tl_io.specs.Shelf.{Files, ShelfSeen}
pub use Rattle.tl_io.specs.Sink.{SinkSeen}
pub use Rattle.tl_text.specs.LineValue.{WordsLine, words_line, LineValue}
pub use Rattle.tl_text.specs.declared.logical_lines.TheConstants.{MOST_BYTES}
pub use Rattle.cmd_stations.specs.Texts.{HasText, IsNetlistText, NetlistRefusal, IsParamsRefusal, IsScriptRefusal, is_aag, DenotesLibrary}
pub use Rattle.cmd_run.specs.GenCommand.Case.{case_words, case_files, HasDigits}
pub use Rattle.cmd_run.specs.GenCommand.Texts.{shelf_of, HaveSource, HaveCase, OfCase, StopsIn, StopsSource}
pub use Rattle.cmd_run.specs.GenCommand.Totals.{IsSmall, writes_of, output_of, TalliedMachine, tally_machine, Totals}
pub use Rattle.machine.specs.Machine.{Passes, none, more}
pub use Rattle.machine.proofs.PassLemmas.{then_one, passes_keep}
pub use Rattle.cmd_run.specs.GenCommand.Verdict.{gen_reading, first_line, last_line, gen_text, HasGen, gen_walk}
pub use Rattle.cmd_run.specs.Run.Job.{bank_of, IsRefused, IsSettled, run_reading, IsJob, scripted_of, RunWords, run_seen}
pub use Rattle.cmd_run.specs.Run.Ends.{HasRun, IsPlayEnd, RunEnd, HaveFailed}
pub use Rattle.cmd_run.specs.Run.Headline.{IsNoUpset, ShowsSource, HasHeadline, ShownSource, Shows, ShowsSet, ShowsCycle, ShowsScrub, ShowsImage, ShowAll}
pub use Rattle.cmd_run.specs.Run.Ready.{IsReadyFor, EventsEnd, PlaysOut, IsServed, CanPlay, StartsOn, played_outcome}
pub use Rattle.cmd_run.specs.Run.Verdict.{run_walk}
pub use Rattle.cmd_run.specs.declared.gen_command.words.GenWords.{GenWords}
pub use Rattle.cmd_run.specs.declared.run.prepare.Ready.{Ready}
pub use Rattle.cmd_run.specs.declared.run.words.PortCounts.{PortCounts}
pub use Rattle.cmd_stations.specs.Playing.{AreAllPut}
pub use Rattle.cmd_stations.proofs.PlayingLemmas.{all_behind, cut_behind, put_none, put_more}
