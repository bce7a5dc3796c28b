-- What the proofs of this crate cite of other crates, and its own definitions, passed on from one place.
pub use Rattle.std.proofs.Common.{◌≡◌, ℕ, Bool, true, false, cond, List, Some, None, length, refl, sym, ap, ◌∙◌, subst, inl, inr, ◌⊎◌, [], ◌∷◌, ◌++◌, Option, arith, get_or, suc, Ok, subst₂, map, string_bytes}
pub use Rattle.std.proofs.lemmas.List.{append_cancel_left, length-map}
pub use Rattle.std.proofs.lemmas.Option.{none-some, same_Some}
pub use Rattle.std.specs.List.{concat}
pub use Rattle.cmd_base.specs.Walk.{Outside, HasLaws}
pub use Rattle.cmd_base.specs.declared.outcome.Outcome.{Outcome}
pub use Rattle.cmd_map.specs.Map.{MapWords, HasMap}
pub use Rattle.cmd_pack.specs.Bits.{BitsWords, IsPlayedOn, pack_header}
pub use Rattle.cmd_run.specs.Run.Job.{RunWords, bank_of}
pub use Rattle.cover_pick.specs.declared.rule.Rule.{Rule}
pub use Rattle.run_text.specs.EventValue.{EventValue}
pub use Rattle.tl_io.specs.Content.{extended}
pub use Rattle.tl_io.specs.Shelf.{Files}
pub use Rattle.tlut_cli.specs.Call.{World, outside_of, WalkEnds, IsEnd, HasCommand, HasRefusal, HasDone, HasCutOff, HasLost, HasKeptPorts, HasFault, HasPortCause, HasWriteCause, IsAnswered, IsComplete, IsFinished, HasNoFault, HasBegun}
pub use Rattle.tlut_cli.specs.CommandEnds.{HasWalkLaws, HasEnded}
pub use Rattle.tlut_cli.specs.Commands.{Subcommand, Run, Map, Pace, command_of, command_seen, walk_of}
pub use Rattle.tlut_cli.specs.Meaning.{HasMeaning}
pub use Rattle.tlut_cli.specs.Replay.{ReplaysRun, PutTheSameLines, HaveTheSameSource}
pub use Rattle.tlut_cli.specs.declared.command.Subcommand.{Subcommand as CommandRead}
