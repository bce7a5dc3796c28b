-- A job of `prove`: a source circuit that is labelled is accepted, and its certificate is the verdict's, whole or cut off.
use Rattle.cmd_cert.proofs.Common.{◌≡◌, ◌≤◌, ℕ, List, [], ◌∷◌, Some, sym, ap, ◌∙◌, subst, Result, string_bytes, MOST_BYTES, RefusalValue, Files, ShelfSeen, roots_of, CertificateValue, IsCertText, cert_text, bare, outside, FileText, writing_outcome, Told, IsBegun, Ends, HasLaws, File, Outcome, ToLabels, IsSourceRefused, IsSourceSettled, ComesToLabels, refused_unmade, source_refused_once, CertWords, proved_line, HasProof, HasProveJob, prove_walk, IsProof, writing_ends}
use Rattle.tl_io.specs.Port.{PortSeen}
use Rattle.tl_io.specs.Sink.{SinkSeen}
use Rattle.cut_sets.specs.Covers.{IsLeastDepth}
use Rattle.cert_check.proofs.BareLemmas.{same_valid, same_text}
use Rattle.cert_check.proofs.RoundTrip.{reads_back}
use Rattle.cut_sets.specs.Labels.{label_at}
use Rattle.flow_cert.proofs.NeededLemmas.{same_label_claims, same_needed}
use Rattle.cmd_stations.specs.FileWrites.{WritesAll}
use Rattle.cmd_stations.specs.declared.labelling.LabelledSource.{LabelledSource}
use Rattle.cmd_cert.specs.declared.prove.job.Proof.{Proof}

prove_begun : (files : Files) (words : CertWords) (l : LabelledSource) → ComesToLabels files words.source l → IsBegun (prove_walk words) files
prove_begun files words l past = record { accepted = record { source = l.built.source; graph = l.built.graph; roots = l.built.roots; has = past.has }; settled = past.settled }

module _ (words : CertWords) (p : Proof) (is : IsProof words.source.rule words.source.k p) where
  abbrev texts : List FileText
  texts = record { name = words.cert; bytes = cert_text p.cert } ∷ []

  -- a job that came past its labels, and wrote
  module _ (old mid new : ShelfSeen) (same : (out : SinkSeen) (ports : List PortSeen) → outside mid out ports ≡ outside old out ports) (few : mid.given ≤ MOST_BYTES) (given : new.given ≡ mid.given) (comes : Told old.files (λ files. ComesToLabels files words.source p.labelled))
      (before after : SinkSeen) (ports : List PortSeen) where
    has_proof : (files : Files) → old.files ≡ Some files → (P : List FileText → List ℕ → Type 0) → P texts (string_bytes p.line) → HasProof files words P
    has_proof files told P ends =
        let past = comes files told in
        let built = p.labelled.built in
        let netlist = past.has.graph_is.has.netlist in
        let back = reads_back p.cert is.writable in
        let same : bare p.cert ≡ bare back.read = sym back.same in
        let text : cert_text p.cert ≡ cert_text back.read = same_text p.cert back.read same in
        let depth : p.cert.depth ≡ back.read.depth = ap (λ (c : CertificateValue). c.depth) same in
        record {
          source = built.source;
          graph = built.graph;
          roots = built.roots;
          has = record { graph_is = past.has.graph_is; labels = p.labelled.labels; labelled = is.labelled };
          sound = (past.settled.netlist netlist.text netlist.there).sound built.source.netlist netlist.is;
          cert = back.read;
          valid = same_valid built.graph (roots_of built.roots) words.source.k p.cert back.read same is.valid;
          least = subst (λ d. IsLeastDepth built.graph words.source.k (roots_of built.roots) d) depth is.least;
          claims = same_label_claims (label_at p.labelled.labels) p.cert back.read same is.claims;
          needed = same_needed built.graph (roots_of built.roots) (label_at p.labelled.labels) p.cert back.read same is.needed;
          is_text = subst (λ bytes. IsCertText bytes back.read) text back.is;
          ends = subst (λ line. P (record { name = words.cert; bytes = cert_text back.read } ∷ []) line) (is.line ∙ ap proved_line depth)
              (subst (λ bytes. P (record { name = words.cert; bytes = bytes } ∷ []) (string_bytes p.line)) text ends);
        }

    pub prove_ends : {E : Type 0} (r : Result Unit E) → WritesAll texts (string_bytes p.line) (outside mid before ports) (outside new after ports) r → (o : Outcome) → o ≡ writing_outcome r
        → Ends (prove_walk words) old new (outside old before ports) (outside new after ports) o
    prove_ends r all o is = writing_ends ToLabels words.source (λ files. HasProveJob files words.source) (λ files P. HasProof files words P) texts (string_bytes p.line) old mid new same few given
        (λ files told. prove_begun files words p.labelled (comes files told)) has_proof before after ports r all o is

-- a source circuit that is labelled isn't refused
labelled_or : (files : Files) (words : CertWords) → IsSourceSettled ToLabels files words.source → (job : HasProveJob files words.source) (f : File) (r : RefusalValue) → IsSourceRefused ToLabels files words.source f r → ⊥
labelled_or files words settled job f r refused =
    let has = job.has in
    (settled.made job.source has.graph_is.has).not_both job.graph job.roots has.labels r has.graph_is.built has.labelled (refused_unmade files words.source settled job.source f r has.graph_is.has refused)

pub prove_laws : (words : CertWords) → HasLaws (prove_walk words)
prove_laws words = record {
  not_both = λ files settled job f r refused. labelled_or files words settled job f r refused;
  one_refusal = λ files settled f e r s one other. source_refused_once files words.source settled f e r s one other;
  shows = λ files old new done. tt;
}
