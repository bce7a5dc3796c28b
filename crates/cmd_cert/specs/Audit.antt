-- The walk of `audit`: the graph of a source circuit is made, and a certificate is checked against it.
use Rattle.std.specs.Prelude.{◌≡◌, ℕ, List, []}
use Rattle.cmd_cert.specs.Words.{RefusalValue, Files, Aig, RootsValue, roots_of, IsSound, CertificateValue, IsValid, IsLowerBound, FileReading, shelf_reading, CommandWalk, portless_walk, AreWritten, IsCutInLine, File, Netlist, Params, Script, Pack, Cert, Source, HasText, IsLongText, ToGraph, HasGraph, IsSourceRefused, ReachesSource, IsSourceSettled}
use Rattle.cmd_base.specs.Refusals.{too_long}
use Rattle.cmd_cert.specs.Certs.{CertWords, cert_word, HasCert, IsCertRefusal, IsCertSettled, audited_line}

-- the files hold a certificate that is valid for the graph of their source circuit
pub record IsAudit (files : Files) (words : CertWords) (source : Source) (graph : Aig) (roots : RootsValue) (cert : CertificateValue) : Type 0 where
  pub has : HasGraph files words.source source graph roots
  pub has_cert : HasCert files words.cert cert
  pub valid : IsValid graph (roots_of roots) words.source.k cert

-- so no cover of the graph is less deep than the certificate says, and its depth is told
pub record HasAudit (files : Files) (words : CertWords) (Ends : List ℕ → Type 0) : Type 0 where
  pub source : Source
  pub graph : Aig
  pub roots : RootsValue
  pub cert : CertificateValue
  pub audit : IsAudit files words source graph roots cert
  pub sound : IsSound source.netlist.library
  pub least : IsLowerBound graph words.source.k (roots_of roots) cert.depth
  pub ends : Ends (audited_line cert.depth)

-- an accepted job
pub record HasAuditJob (files : Files) (words : CertWords) : Type 0 where
  pub source : Source
  pub graph : Aig
  pub roots : RootsValue
  pub cert : CertificateValue
  pub audit : IsAudit files words source graph roots cert

-- the first refusal, at a file: the source circuit's up to its graph, then the certificate's
pub data IsAuditRefused (files : Files) (words : CertWords) (file : File) (refusal : RefusalValue) : Type 0 where
  source : IsSourceRefused ToGraph files words.source file refusal → IsAuditRefused files words file refusal
  long_cert : file ≡ Cert → (source : Source) (graph : Aig) (roots : RootsValue) → HasGraph files words.source source graph roots → IsLongText files words.cert → refusal ≡ too_long → IsAuditRefused files words file refusal
  cert : file ≡ Cert → (source : Source) (graph : Aig) (roots : RootsValue) (text : List ℕ) → HasGraph files words.source source graph roots → HasText files words.cert text
      → IsCertRefusal graph roots words.source.k text refusal → IsAuditRefused files words file refusal

-- each of its files says one thing, or is refused for one reason
pub record IsAuditSettled (files : Files) (words : CertWords) : Type 0 where
  pub source : IsSourceSettled ToGraph files words.source
  pub cert : (source : Source) (graph : Aig) (roots : RootsValue) (text : List ℕ) → HasGraph files words.source source graph roots → HasText files words.cert text → IsCertSettled graph roots words.source.k text

-- its files
abbrev pub IsOfAudit : File → Type 0
IsOfAudit Netlist = Unit {0}
IsOfAudit Params = Unit {0}
IsOfAudit Script = ⊥
IsOfAudit Pack = ⊥
IsOfAudit Cert = Unit {0}

-- the walk comes to a file
abbrev pub ReachesAudit : Files → CertWords → File → Type 0
ReachesAudit files words Cert = (source : Source) × (graph : Aig) × (roots : RootsValue) × HasGraph files words.source source graph roots
ReachesAudit files words file = ReachesSource files words.source file

-- how they are read
abbrev pub audit_reading : CertWords → FileReading
audit_reading words = shelf_reading IsOfAudit (cert_word words) Cert (λ files. ReachesAudit files words) (λ files. IsAuditRefused files words) (λ files. IsAuditSettled files words)

abbrev pub audit_walk : CertWords → CommandWalk
audit_walk words =
    portless_walk (audit_reading words) (λ files. HasAuditJob files words) (λ files old new. HasAudit files words (λ line. AreWritten [] line old new)) (λ files old new. HasAudit files words (λ line. IsCutInLine [] line old new))
    (λ files old new. Unit {0}) ⊥
