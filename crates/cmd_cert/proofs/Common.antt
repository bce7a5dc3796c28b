-- What the proofs of this crate cite of other crates, and its own definitions, passed on from one place.
pub use Rattle.std.proofs.Common.{◌≡◌, ◌≤◌, ℕ, List, Some, sym, ap, ◌∙◌, subst, false, Option, None, refl, [], ◌∷◌, Result, inl, rules}
pub use Rattle.std.specs.Prelude.{string_bytes}
pub use Rattle.aig_core.specs.Aig.{Aig, first_and, AreNormal}
pub use Rattle.aig_core.specs.Roots.{RootsValue, roots_of}
pub use Rattle.cert_check.specs.CertText.{IsCertText, IsCertTextFault}
pub use Rattle.cert_check.specs.CertificateValue.{CertificateValue}
pub use Rattle.cert_check.specs.Faults.{IsFault}
pub use Rattle.cert_check.specs.Refusals.{refusal_of}
pub use Rattle.cert_check.specs.WrittenText.{cert_text, bare}
pub use Rattle.cert_check.specs.declared.cert_err.CertErr.{CertErr}
pub use Rattle.cmd_base.proofs.EndLemmas.{IsPart, Explains_lift, memory_ends, unbegun_ends, Explains_from, only_read}
pub use Rattle.cmd_base.specs.Walk.{Told, IsBegunFrom, Explains, IsBegun, Ends, outside, Outside, HasLaws}
pub use Rattle.cmd_base.specs.Writing.{FileText, writing_outcome, AreWritten, IsCutInLine}
pub use Rattle.cmd_base.specs.declared.outcome.File.{File}
pub use Rattle.cmd_base.specs.declared.outcome.Outcome.{Outcome}
pub use Rattle.cmd_stations.proofs.RefusedLemmas.{refused_unmade, settled_once, source_refused_once}
pub use Rattle.cmd_stations.proofs.GraphLemmas.{same_roots, same_graph}
pub use Rattle.cmd_stations.specs.Mapped.{ToGraph, IsBuilt, ToLabels}
pub use Rattle.cmd_stations.specs.Tables.{IsBuiltSource, ComesToGraph, ComesToLabels}
pub use Rattle.cmd_stations.specs.Source.{source_word, source_reading, IsSourceSettled, HasGraph, IsSourceRefused, ReachesSource}
pub use Rattle.cmd_stations.specs.Texts.{HasText}
pub use Rattle.cmd_stations.specs.declared.source.Source.{Source}
pub use Rattle.tl_fault.proofs.OrMemoryLemmas.{or_memory, OrMemory-map}
pub use Rattle.tl_fault.specs.OrMemory.{OrMemory}
pub use Rattle.tl_fault.specs.RefusalValue.{RefusalValue}
pub use Rattle.tl_io.specs.Shelf.{Files, ShelfSeen}
pub use Rattle.tl_text.specs.declared.logical_lines.TheConstants.{MOST_BYTES}
pub use Rattle.cmd_stations.proofs.StopLemmas.{of_source, text_once, short_or_long}
pub use Rattle.cmd_stations.proofs.WriteLemmas.{writing_ends, cut_in_file, line_ends, written_over}
pub use Rattle.cmd_cert.specs.Proofs.{outcome_by, IsProof}
pub use Rattle.cmd_cert.specs.Audit.{IsAudit, HasAudit, HasAuditJob, IsAuditRefused, source, long_cert, cert, IsAuditSettled, audit_walk, audit_reading, IsOfAudit, ReachesAudit}
pub use Rattle.cmd_cert.specs.Certs.{HasCert, IsCertFault, malformed, invalid, IsCertRefusal, IsCertSettled, audited_line, proved_line, CertWords, cert_word, cert_seen}
pub use Rattle.cmd_cert.specs.Prove.{HasProof, HasProveJob, prove_walk}
pub use Rattle.cmd_cert.specs.declared.audit.job.Audited.{Audited}
