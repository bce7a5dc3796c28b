-- What the proofs of this crate cite of other crates, and its own definitions, passed on from one place.
pub use Rattle.std.proofs.Common.{ℕ, List, length, refl, subst, ◌≡◌, ◌≤◌, ◌∷◌, map, ap, ◌∙◌, sym, [], ◌++◌, take, inl, inr, Bool, arith}
pub use Rattle.std.proofs.lemmas.List.{length-map, map-append, length-take, take_all}
pub use Rattle.std.specs.List.{concat}
pub use Rattle.cmd_base.specs.Walk.{IsBegun, Explains, Outside, outside, HasLaws}
pub use Rattle.cmd_stations.proofs.EventLemmas.{split_by, more_by, value_has}
pub use Rattle.cmd_stations.proofs.InitLemmas.{init_count, init_params, cycle_count, param_count, source_starts}
pub use Rattle.cmd_stations.specs.Script.{names_in, ScriptedWords, scripted_reading}
pub use Rattle.cmd_stations.specs.Tables.{ComesScripted}
pub use Rattle.cmd_stations.specs.SourceCircuit.{width_of, shape_of, IsSourceCycle}
pub use Rattle.cmd_stations.specs.Tunable.{IsTunable}
pub use Rattle.cmd_stations.specs.declared.source.Source.{Source}
pub use Rattle.cover_pick.specs.Template.{TemplateValue}
pub use Rattle.list_laws.specs.Members.{In}
pub use Rattle.lut_sim.specs.declared.shape.Shape.{Shape}
pub use Rattle.pace_core.specs.EventValue.{PaceValue, asks_and_ticks, pace_values, Ask, Tick, pace_value}
pub use Rattle.pace_core.specs.Pace.{pacer_machine, ArePaced, PacerValue, shown_line, Shown, IsTicked, steps, waits, IsPaced, FitsPacer, IsAsked, IsStep, IsWait}
pub use Rattle.param_list.specs.Parameters.{param_inits}
pub use Rattle.ppc_pack.specs.Pack.{PackValue, IsConf, HasOneConf}
pub use Rattle.run_text.specs.EventValue.{EventValue, event_values}
pub use Rattle.run_text.specs.Fits.{Fits}
pub use Rattle.spec_core.proofs.AssignLemmas.{length-assigned}
pub use Rattle.spec_core.specs.Differences.{differences}
pub use Rattle.tl_io.specs.Content.{extended}
pub use Rattle.tl_io.specs.Shelf.{Files}
pub use Rattle.cmd_pace.specs.Verdict.{HaveShown, IsAllPaced, HasPace, IsPaceCut, pace_walk, IsShown}
pub use Rattle.cmd_pace.specs.Headline.{stage_of, IsFirst, shown_pace_machine, ShowAll, HasPaceHeadline, PaceStage, ShowsAsk, ShowsStep, ShowsWait, ShowsTick, Shows, StallsAnywhere}
pub use Rattle.machine.proofs.PassLemmas.{then_one, passes_keep, passes_over}
pub use Rattle.cmd_pace.specs.Job.{PaceJob, StartsPace, IsPaceStart, pacer_header, PaceWords, scripted_of, pace_seen}
pub use Rattle.cmd_pace.specs.Ready.{IsReadyFor, CanPace, StartsAt, EventsEnd}
pub use Rattle.cmd_pace.specs.declared.prepare.ReadyPace.{ReadyPace}
pub use Rattle.cmd_stations.proofs.PlayingLemmas.{puts_behind, put_none, put_more}
pub use Rattle.cmd_stations.specs.Playing.{AreAllPut}
