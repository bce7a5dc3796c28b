-- The words of other crates that the definitions say, passed on from one place.
pub use Rattle.list_laws.specs.Members.{In}
pub use Rattle.cert_check.specs.CertificateValue.{PathValue, StepValue, CertificateValue}
pub use Rattle.aig_core.specs.Aig.{Aig, IsAnd, node_count, IsSource}
pub use Rattle.cert_check.specs.Valid.{Needs, IsJustified}
