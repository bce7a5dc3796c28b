-- The words of other crates that the definitions say, passed on from one place.
pub use Rattle.tl_io.specs.Shelf.{Files}
pub use Rattle.cover_pick.specs.Template.{TemplateValue}
pub use Rattle.pace_core.specs.EventValue.{PaceValue, Ask, Tick, pace_values}
pub use Rattle.pace_core.specs.Pace.{PacerValue, Shown, shown_line, ArePaced, FitsPacer, IsPaced}
pub use Rattle.cmd_base.specs.Walk.{Outside, CommandWalk, portless_walk}
pub use Rattle.cmd_stations.specs.declared.source.Source.{Source}
pub use Rattle.cmd_stations.specs.Mapped.{IsLeastMapping, template_header}
pub use Rattle.cmd_stations.specs.Source.{SourceWords, source_words, k_of, source_seen, IsTableSize, IsLeastMapped}
pub use Rattle.cmd_stations.specs.Script.{ScriptedWords, HasScripted, IsScriptedSettled, scripted_reading}
pub use Rattle.cmd_stations.specs.Playing.{PutsAll, AreAllPut, IsCutInFront, IsCutInLine}
