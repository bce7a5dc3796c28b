-- The words of other crates that the definitions say, passed on from one place.
pub use Rattle.tl_io.specs.Shelf.{Files, ShelfSeen}
pub use Rattle.ppc_pack.specs.Pack.{PackValue}
pub use Rattle.run_text.specs.EventValue.{EventValue, event_values}
pub use Rattle.cmd_base.specs.Walk.{FileReading, shelf_reading, CommandWalk, portless_walk, Outside, outside}
pub use Rattle.cmd_stations.specs.Packs.{HasPack, IsPackRefused, IsPackSettled, pack_names, present_bytes, pack_reading}
pub use Rattle.cmd_stations.specs.Playing.{AreAllPut, IsCutInFront, IsCutInLine, PutsAll}
pub use Rattle.run_core.specs.Events.{host_line, FitsPack, IsOfHost}
pub use Rattle.spec_core.specs.Specialiser.{SpecialiserValue}
pub use Rattle.cmd_stations.specs.Host.{IsHostStart, IsHostStep, AreHostSteps}
pub use Rattle.tl_io.specs.Port.{PortSeen}
pub use Rattle.tl_io.specs.Sink.{SinkSeen}
