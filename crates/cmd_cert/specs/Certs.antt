-- The arguments of `prove` and `audit`, and what a certificate's file says and is refused for.
use Rattle.std.specs.Prelude.{◌≡◌, ℕ, List, [], ◌∷◌, Some, codes, decimal, if◌then◌else◌, bytes_eq, Option, None}
use Rattle.std.specs.List.{concat}
use Rattle.cmd_cert.specs.Words.{RefusalValue, Files, Aig, RootsValue, roots_of, CertificateValue, IsCertText, IsCertTextFault, HasOneReading, HasText, Rule, File, Cert, SourceWords, source_words, k_of, source_seen, source_word}
use Rattle.cert_check.specs.Faults.{IsFault, HasOneVerdict}
use Rattle.cert_check.specs.Refusals.{refusal_of}
use Rattle.cert_check.specs.declared.cert_err.CertErr.{CertErr}
use Rattle.cmd_cert.specs.declared.words.CertWords.{CertWords as CertWordsRead}

-- the certificate that a file has
pub record HasCert (files : Files) (name : List ℕ) (cert : CertificateValue) : Type 0 where
  pub text : List ℕ
  pub there : HasText files name text
  pub is : IsCertText text cert

-- a text has a fault as a certificate of a graph and its roots: its lines', else the certificate's first one
pub data IsCertFault (g : Aig) (roots : RootsValue) (k : ℕ) (text : List ℕ) (e : CertErr) : Type 0 where
  malformed : IsCertTextFault text e → IsCertFault g roots k text e
  invalid : (cert : CertificateValue) → IsCertText text cert → IsFault g (roots_of roots) k cert e → IsCertFault g roots k text e

-- and is refused for it
pub record IsCertRefusal (g : Aig) (roots : RootsValue) (k : ℕ) (text : List ℕ) (refusal : RefusalValue) : Type 0 where
  pub e : CertErr
  pub fault : IsCertFault g roots k text e
  pub tells : refusal_of e ≡ Some refusal

-- a text is one certificate, which is valid or has one fault, or it is refused for one reason
pub record IsCertSettled (g : Aig) (roots : RootsValue) (k : ℕ) (text : List ℕ) : Type 0 where
  pub one_reading : HasOneReading text
  pub one_verdict : (cert : CertificateValue) → IsCertText text cert → HasOneVerdict g (roots_of roots) k cert

-- the line that `prove` prints, and that of `audit`
abbrev pub proved_line : ℕ → List ℕ
proved_line depth = concat (codes "depth " ∷ decimal depth ∷ codes "\n" ∷ [])

abbrev pub audited_line : ℕ → List ℕ
audited_line depth = concat (codes "depth at least " ∷ decimal depth ∷ codes "\n" ∷ [])

-- the source circuit, and the word that names the certificate's file
pub record CertWords : Type 0 where
  pub source : SourceWords
  pub cert : List ℕ

abbrev pub cert_words : Option SourceWords → List ℕ → Option CertWords
cert_words None cert = None
cert_words (Some source) cert = Some (record { source = source; cert = cert })

-- the words NAME K NETLIST PARAMS CERT, and the rule that says how many nodes are too many, and how they are labelled
abbrev pub cert_words_of : Rule → List ℕ → List (List ℕ) → Option CertWords
cert_words_of rule name (command ∷ k ∷ netlist ∷ params ∷ cert ∷ []) = if bytes_eq command name then cert_words (source_words rule (k_of k) netlist params) cert else None
cert_words_of rule name words = None

-- words as they are read
abbrev pub cert_seen : CertWordsRead → CertWords
cert_seen words = record { source = source_seen words.source; cert = words.cert.now }

-- the word that names a file
abbrev pub cert_word : CertWords → File → List ℕ
cert_word words Cert = words.cert
cert_word words file = source_word words.source file
