-- What a certificate's file is refused for explains how `audit` ends.
use Rattle.cmd_cert.proofs.Common.{◌≡◌, ◌≤◌, ℕ, false, List, Option, Some, None, refl, MOST_BYTES, RefusalValue, OrMemory, or_memory, ShelfSeen, refusal_of, CertErr, Told, Explains, Outcome, HasText, IsBuiltSource, ComesToGraph, CertWords, IsCertFault, audit_reading, outcome_by}
use Rattle.cert_check.specs.declared.cert_err.CertErr.TheVariants as cert_err
use Rattle.cmd_base.specs.declared.outcome.File.TheVariants as file
use Rattle.cmd_stations.specs.declared.graphs.BuiltSource.{BuiltSource}
use Rattle.cmd_stations.specs.Stops.{IsUnread}
use Rattle.cmd_stations.proofs.LengthLemmas.{is_long, other_code}
use Rattle.cmd_stations.proofs.StationLemmas.{unread_ends}
use Rattle.cmd_cert.specs.Audit as audit
use Rattle.cmd_cert.proofs.GraphWalkLemmas.{cert_settles}

-- no certificate is refused for its length: that is told by the count of its bytes
cert_code : (e : CertErr) → is_long (refusal_of e) ≡ false
cert_code cert_err.Memory = refl
cert_code e = refl

module _ (words : CertWords) (b : BuiltSource) (is : IsBuiltSource b) (old new : ShelfSeen) (comes : Told old.files (λ files. ComesToGraph files words.source b)) where
  pub cert_unread : (o : Outcome) → IsUnread words.cert file.Cert old new o → Explains (audit_reading words) old new o
  cert_unread o u = unread_ends (audit_reading words) file.Cert old new tt (λ g. g)
      (λ long files told. (audit.IsAuditRefused.long_cert refl b.source b.graph b.roots (comes files told).has (long files told) refl, cert_settles files words (comes files told).settled b.source b.graph b.roots (comes files told).has is.normal))
      (λ files told. (b.source, b.graph, b.roots, (comes files told).has)) o u

  module _ (text : List ℕ) (given : new.given ≤ MOST_BYTES) (there : Told old.files (λ files. HasText files words.cert text)) (e : CertErr) where
    refused_for : (told : Option RefusalValue) → refusal_of e ≡ told → OrMemory refusal_of (IsCertFault b.graph b.roots words.source.k text) e → Explains (audit_reading words) old new (outcome_by told)
    refused_for (Some r) tells said = record {
      given = given;
      is_read = tt;
      not_long = λ same. other_code tells same (cert_code e);
      is = λ files told. audit.IsAuditRefused.cert refl b.source b.graph b.roots text (comes files told).has (there files told)
          (record { e = e; fault = or_memory refusal_of (IsCertFault b.graph b.roots words.source.k text) e r said tells; tells = tells });
      settled = λ files told. cert_settles files words (comes files told).settled b.source b.graph b.roots (comes files told).has is.normal;
    }
    refused_for None tells said = tt

    pub cert_explains : OrMemory refusal_of (IsCertFault b.graph b.roots words.source.k text) e → Explains (audit_reading words) old new (outcome_by (refusal_of e))
    cert_explains said = refused_for (refusal_of e) refl said
