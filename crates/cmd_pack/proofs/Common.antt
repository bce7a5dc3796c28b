-- What the proofs of this crate cite of other crates, and its own definitions, passed on from one place.
pub use Rattle.std.proofs.Common.{◌≡◌, ℕ, ◌+◌, ◌≤◌, List, [], ◌∷◌, length, take, Option, Result, Ok, Err, OnErr, refl, sym, ap, ◌∙◌, subst, inl, inr, arith, Some}
pub use Rattle.std.proofs.lemmas.List.{length-map, take_all}
pub use Rattle.std.proofs.lemmas.Option.{none-some, same_Some}
pub use Rattle.std.specs.List.{concat}
pub use Rattle.cmd_base.proofs.EndLemmas.{Rose_from, only_read, IsPart, Explains_lift, unbegun_ends, Explains_from, memory_ends}
pub use Rattle.cmd_base.specs.Walk.{Told, IsBegun, IsBegunFrom, Ends, Explains, Outside, outside, KeepsFiles, HasLaws}
pub use Rattle.cmd_base.specs.Writing.{writing_outcome, FileText, HasPrefix, AreWritten, IsCut}
pub use Rattle.cmd_base.specs.declared.outcome.Outcome.{Outcome}
pub use Rattle.cmd_stations.proofs.EventLemmas.{then_host_step, split_by, more_by, value_has}
pub use Rattle.cmd_stations.proofs.PackLemmas.{pack_or_not, pack_refused_once, pack_once, same_names}
pub use Rattle.cmd_stations.proofs.WriteLemmas.{cut_in_file, cut_cause, line_ends}
pub use Rattle.cmd_stations.specs.Host.{IsHostStep, AreHostSteps}
pub use Rattle.machine.specs.Machine.{none}
pub use Rattle.cmd_stations.specs.Packs.{HasPack, IsPackSettled, pack_names, pack_reading, present_bytes}
pub use Rattle.cmd_stations.specs.Script.{HasScript, IsScriptSettled, IsSplit, IsScriptRefused, script_reading}
pub use Rattle.port_bank.specs.Seen.{bank_seen}
pub use Rattle.ppc_pack.specs.Pack.{PackValue}
pub use Rattle.run_core.specs.Events.{FitsPack, IsOfHost, host_line}
pub use Rattle.run_text.specs.EventValue.{EventValue, Set, Cycle, Upset, event_values, event_value}
pub use Rattle.spec_core.specs.Specialiser.{SpecialiserValue}
pub use Rattle.tl_io.specs.Causes.{Rose}
pub use Rattle.tl_io.specs.Content.{extended}
pub use Rattle.tl_io.specs.Port.{PortSeen}
pub use Rattle.tl_io.specs.Shelf.{Files, ShelfSeen}
pub use Rattle.tl_io.specs.Sink.{SinkSeen}
pub use Rattle.cmd_pack.specs.Bits.{IsBitsRefused, IsBitsSettled, IsOfBits, bits_word, ReachesBits, bits_reading, pack_header, PutsHostStep, AreLinesPut, AreLinesCut, HasBits, bits_walk, HasBitsJob, BitsWords, bits_seen, PutTheSame, ReplaysFile}
pub use Rattle.cmd_pack.specs.Repack.{repack_walk, HasRepack, RepackWords, repack_seen, present_text}
pub use Rattle.cmd_stations.specs.Playing.{AreAllPut, IsCutInLine}
pub use Rattle.cmd_stations.proofs.PlayingLemmas.{all_behind, puts_behind, put_none, put_more}
