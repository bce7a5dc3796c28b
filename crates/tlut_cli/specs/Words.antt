-- The words of other crates that the definitions say, passed on from one place.
pub use Rattle.cover_pick.specs.declared.rule.Rule.{Rule}
pub use Rattle.tl_io.specs.Port.{PortSeen}
pub use Rattle.tl_io.specs.Shelf.{Files, ShelfSeen}
pub use Rattle.tl_io.specs.Sink.{SinkSeen}
pub use Rattle.cmd_base.specs.Walk.{Outside, outside, CommandWalk, InFiles, Ends, IsReadFault, HasWriteFault, HasLaws, Told}
pub use Rattle.cmd_base.specs.Statuses.{refusal_status, status_of}
pub use Rattle.cmd_base.specs.declared.outcome.Outcome.{Outcome}
pub use Rattle.cmd_base.specs.declared.status.Status.{Status}
pub use Rattle.cmd_run.specs.Run.Job.{RunWords, run_of, run_seen, IsInRange}
pub use Rattle.cmd_map.specs.Map.{MapWords, map_of, map_seen, map_walk, HasMap}
pub use Rattle.cmd_pack.specs.Bits.{BitsWords, bits_of, bits_seen, bits_walk, IsPlayedOn, pack_header}
