-- The words of other crates that the definitions say, passed on from one place.
pub use Rattle.cover_pick.specs.declared.rule.Rule.{Rule}
pub use Rattle.cmd_stations.specs.Source.{SourceWords, source_words, k_of, source_seen, HasMapped, IsLeastMapped, IsMappedFrom}
pub use Rattle.tl_io.specs.Shelf.{Files, ShelfSeen}
pub use Rattle.cover_pick.specs.Template.{TemplateValue}
pub use Rattle.cmd_stations.specs.declared.source.Source.{Source}
pub use Rattle.cmd_stations.specs.Packs.{HasPack, present_bytes}
pub use Rattle.blif_write.specs.PlainNetlist.{netlist_text}
pub use Rattle.cmd_base.specs.Walk.{CommandWalk, outside}
pub use Rattle.cmd_base.specs.Writing.{FileText}
pub use Rattle.cmd_stations.specs.Mapped.{template_header, ToTables}
pub use Rattle.cmd_stations.specs.WritingWalk.{writing_walk}
pub use Rattle.cmd_stations.specs.Written.{IsTuned, template_of, RunsAs, specialised_of}
