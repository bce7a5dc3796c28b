-- The certificate of a labelled source circuit, as the code makes it, and the outcome of a certificate's refusal; out of memory has none.
use Rattle.std.specs.Prelude.{◌≡◌, ℕ, List, [], ◌∷◌, string_bytes, Option, Some, None, Result}
use Rattle.tl_io.specs.Port.{PortSeen}
use Rattle.cmd_cert.specs.Words.{ShelfSeen, roots_of, IsLeastDepth, label_at, Rule, IsValid, IsWritable, cert_text, AreLabelClaims, AreNeeded, outside, AreLabelsBy, RefusalValue, Cert}
use Rattle.tl_io.specs.Sink.{SinkSeen}
use Rattle.cmd_stations.specs.FileWrites.{WritesAll}
use Rattle.cmd_cert.specs.declared.prove.job.Proof.{Proof}
use Rattle.cmd_cert.specs.Certs.{proved_line}
use Rattle.cmd_base.specs.declared.outcome.Outcome.{Outcome}
use Rattle.cmd_base.specs.declared.outcome.Outcome.TheVariants as outcome

-- The labels are those of its graph. The certificate is valid and of the least depth, claims the labels of the needed nodes, can be written,
-- and has its line.
pub record IsProof (rule : Rule) (k : ℕ) (p : Proof) : Type 0 where
  pub labelled : AreLabelsBy rule p.labelled.built.graph k p.labelled.labels
  pub valid : IsValid p.labelled.built.graph (roots_of p.labelled.built.roots) k p.cert
  pub least : IsLeastDepth p.labelled.built.graph k (roots_of p.labelled.built.roots) p.cert.depth
  pub claims : AreLabelClaims (label_at p.labelled.labels) p.cert
  pub needed : AreNeeded p.labelled.built.graph (roots_of p.labelled.built.roots) (label_at p.labelled.labels) p.cert
  pub writable : IsWritable p.cert
  pub line : string_bytes p.line ≡ proved_line p.cert.depth

-- The certificate's file is written and then the line, whatever ports there are.
abbrev pub WritesProof : {E : Type 0} → List ℕ → Proof → ShelfSeen → ShelfSeen → SinkSeen → SinkSeen → Result Unit E → Type 0
WritesProof name p old new before after result =
    (ports : List PortSeen) → WritesAll (record { name = name; bytes = cert_text p.cert } ∷ []) (string_bytes p.line) (outside old before ports) (outside new after ports) result

-- The outcome of a certificate's refusal; out of memory has none.
abbrev pub outcome_by : Option RefusalValue → Outcome
outcome_by (Some refusal) = outcome.Refused Cert refusal
outcome_by None = outcome.Memory
