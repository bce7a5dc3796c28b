-- The words of other crates that the definitions say, passed on from one place.
pub use Rattle.tl_fault.specs.RefusalValue.{RefusalValue}
pub use Rattle.tl_io.specs.Shelf.{Files, ShelfSeen}
pub use Rattle.aig_core.specs.Aig.{Aig}
pub use Rattle.aig_core.specs.Roots.{RootsValue, roots_of}
pub use Rattle.netlist.specs.Sound.{IsSound}
pub use Rattle.cert_check.specs.CertificateValue.{CertificateValue}
pub use Rattle.cert_check.specs.Valid.{IsValid, IsLowerBound}
pub use Rattle.cmd_base.specs.Walk.{FileReading, shelf_reading, CommandWalk, portless_walk, outside}
pub use Rattle.cmd_base.specs.Writing.{AreWritten, IsCutInLine, FileText}
pub use Rattle.cmd_base.specs.declared.outcome.File.{File}
pub use Rattle.cmd_base.specs.declared.outcome.File.TheVariants.{Netlist, Params, Script, Pack, Cert}
pub use Rattle.cmd_stations.specs.declared.source.Source.{Source}
pub use Rattle.cmd_stations.specs.Texts.{HasText, IsLongText}
pub use Rattle.cmd_stations.specs.Mapped.{ToGraph, AreLabelsBy, ToLabels}
pub use Rattle.cmd_stations.specs.Source.{HasGraph, IsSourceRefused, ReachesSource, IsSourceSettled, SourceWords, source_words, k_of, source_seen, source_word, HasLabels}
pub use Rattle.cert_check.specs.CertText.{IsCertText, IsCertTextFault, HasOneReading}
pub use Rattle.cover_pick.specs.declared.rule.Rule.{Rule}
pub use Rattle.cut_sets.specs.Covers.{IsLeastDepth}
pub use Rattle.cut_sets.specs.Labels.{label_at}
pub use Rattle.cert_check.specs.WrittenText.{IsWritable, cert_text}
pub use Rattle.flow_cert.specs.Needed.{AreLabelClaims, AreNeeded}
