-- The lemmas that answers cite, passed on from one place.
pub use Rattle.cmd_run.proofs.Common.{refl, outside, gen_walk, explained_ends, ◌∙◌, inl, AreWritten, IsCutInLine, [], ◌≡◌, List, take, sym, subst, take_all, Event, event_value, event_values, FitsPack, FitsShape, Totals, none, more_by, codes, Explains, script_reading, shelf_of, ToTables, case_words, making_settles, ap, CaseValue, Scripted, HasMapped, IsSourceSettled, scripted_of, source_to_scripted, script_to_scripted, comes_scripted, ℕ, ◌+◌, ◌*◌, ◌^◌, ◌<◌, ◌≤◌, arith, bit_value, number, bank_seen, MachineValue, EventsEnd, IsLoaded, Stage, IsStep, split_by, event_line, then_step, AreSteps, AreAllPut, put_none, put_more, ComesScripted, run_seen, ScriptedWords, scripted_reading}
pub use Rattle.cmd_run.proofs.GenLemmas.{gen_laws, case_begun, case_told, total_more}
pub use Rattle.cmd_run.proofs.PlayLemmas.{still_fits, headed_end, events_end}
pub use Rattle.cmd_run.proofs.TotalLemmas.{next_fits, number_below, below_zero, below_none, below_last, below_more}
pub use Rattle.cmd_run.proofs.CaseLemmas.{script_stops, mapping_stops, have_case, case_ready, case_stopped, told_of}
pub use Rattle.cmd_run.proofs.StartLemmas.{ready_for, can_play_ready}
