-- The walk of `prove`: a source circuit is labelled, and the certificate of its least depth is written.
use Rattle.std.specs.Prelude.{ℕ, List, [], ◌∷◌}
use Rattle.cmd_cert.specs.Words.{Files, Aig, RootsValue, roots_of, IsSound, IsLeastDepth, CertificateValue, IsCertText, IsValid, cert_text, label_at, AreLabelClaims, AreNeeded, CommandWalk, FileText, Source, SourceWords, HasLabels, ToLabels}
use Rattle.cmd_stations.specs.WritingWalk.{writing_walk}
use Rattle.cmd_cert.specs.Certs.{CertWords, proved_line}

-- The source circuit that the files hold has this graph, with these labels. The file's bytes are those that a certificate is written as, and
-- read as this certificate. It is valid for the graph, its depth is the least of all covers, each of its claims is the label of a node, and
-- it claims exactly the nodes whose claims are needed; so only its paths are free.
pub record HasProof (files : Files) (words : CertWords) (Ends : List FileText → List ℕ → Type 0) : Type 0 where
  pub source : Source
  pub graph : Aig
  pub roots : RootsValue
  pub has : HasLabels files words.source source graph roots
  pub sound : IsSound source.netlist.library
  pub cert : CertificateValue
  pub valid : IsValid graph (roots_of roots) words.source.k cert
  pub least : IsLeastDepth graph words.source.k (roots_of roots) cert.depth
  pub claims : AreLabelClaims (label_at has.labels) cert
  pub needed : AreNeeded graph (roots_of roots) (label_at has.labels) cert
  pub is_text : IsCertText (cert_text cert) cert
  pub ends : Ends (record { name = words.cert; bytes = cert_text cert } ∷ []) (proved_line cert.depth)

-- the files hold a source circuit whose graph can be labelled
pub record HasProveJob (files : Files) (words : SourceWords) : Type 0 where
  pub source : Source
  pub graph : Aig
  pub roots : RootsValue
  pub has : HasLabels files words source graph roots

abbrev pub prove_walk : CertWords → CommandWalk
prove_walk words = writing_walk ToLabels words.source (λ files. HasProveJob files words.source) (λ files P. HasProof files words P)
