-- The laws of the walk of `audit`: a certificate that is valid isn't refused, and one is refused for one reason; and how its job ends.
use Rattle.cmd_cert.proofs.Common.{◌≡◌, ◌≤◌, ℕ, List, Some, sym, ap, ◌∙◌, subst, MOST_BYTES, RefusalValue, Files, ShelfSeen, Aig, RootsValue, roots_of, CertificateValue, IsCertText, IsFault, refusal_of, CertErr, Told, IsBegunFrom, HasLaws, File, Source, ToGraph, IsBuilt, HasGraph, IsSourceRefused, IsBuiltSource, ComesToGraph, refused_unmade, same_roots, settled_once, source_refused_once, Audited, CertWords, HasCert, IsCertFault, malformed, invalid, IsCertRefusal, IsCertSettled, audited_line, IsAudit, HasAudit, HasAuditJob, IsAuditRefused, source, long_cert, cert, IsAuditSettled, audit_walk, text_once, short_or_long}
use Rattle.std.proofs.lemmas.Option.{same_Some}
use Rattle.cert_check.specs.Valid.{IsValid}
use Rattle.cert_check.proofs.LeastLemmas.{valid_bound}
use Rattle.cmd_cert.proofs.GraphWalkLemmas.{graph_once, cert_settles}

-- a text has one fault as a certificate, and none where its certificate is valid
module _ (g : Aig) (roots : RootsValue) (k : ℕ) (text : List ℕ) (settled : IsCertSettled g roots k text) where
  valid_or : (c : CertificateValue) (e : CertErr) → IsCertText text c → IsValid g (roots_of roots) k c → IsCertFault g roots k text e → ⊥
  valid_or c e is valid (malformed fault) = settled.one_reading.not_both c e is fault
  valid_or c e is valid (invalid d other fault) =
      (settled.one_verdict c is).not_both e valid (subst (λ x. IsFault g (roots_of roots) k x e) (settled.one_reading.one_value d c other is) fault)

  fault_once : (e f : CertErr) → IsCertFault g roots k text e → IsCertFault g roots k text f → e ≡ f
  fault_once e f (malformed a) (malformed b) = settled.one_reading.one_fault e f a b
  fault_once e f (malformed a) (invalid c is b) = absurd (settled.one_reading.not_both c e is a)
  fault_once e f (invalid c is a) (malformed b) = absurd (settled.one_reading.not_both c f is b)
  fault_once e f (invalid c is a) (invalid d other b) =
      (settled.one_verdict c is).one_fault e f a (subst (λ x. IsFault g (roots_of roots) k x f) (settled.one_reading.one_value d c other is) b)

  refusal_once : (r s : RefusalValue) → IsCertRefusal g roots k text r → IsCertRefusal g roots k text s → r ≡ s
  refusal_once r s a b = same_Some r s (sym a.tells ∙ (ap refusal_of (fault_once a.e b.e a.fault b.fault) ∙ b.tells))

module _ (files : Files) (words : CertWords) (settled : IsAuditSettled files words) where
  -- files hold one list of roots
  roots_once : (a b : Source) (g h : Aig) (roots others : RootsValue) → HasGraph files words.source a g roots → HasGraph files words.source b h others → roots ≡ others
  roots_once a b g h roots others x y =
      let here : IsBuilt words.source.rule b g roots = subst (λ s. IsBuilt words.source.rule s g roots) (settled_once files words.source a b settled.source x.has y.has) x.built in
      same_roots b (settled.source.made b y.has).one_graph g h roots others here.is_graph y.built.is_graph

  -- a refusal of the certificate for a graph is one for another that the files hold
  refusal_here : (a b : Source) (g h : Aig) (roots others : RootsValue) (text : List ℕ) (r : RefusalValue) → HasGraph files words.source a g roots → HasGraph files words.source b h others
      → IsCertRefusal g roots words.source.k text r → IsCertRefusal h others words.source.k text r
  refusal_here a b g h roots others text r x y refused =
      subst (λ z. IsCertRefusal h z words.source.k text r) (roots_once a b g h roots others x y) (subst (λ z. IsCertRefusal z roots words.source.k text r) (graph_once files words settled.source a b g h roots others x y) refused)

  built_or : {A : Type 0} (s : Source) (g : Aig) (roots : RootsValue) (f : File) (r : RefusalValue) → HasGraph files words.source s g roots → IsSourceRefused ToGraph files words.source f r → A
  built_or s g roots f r has refused = absurd ((settled.source.made s has.has).not_both g roots r has.built (refused_unmade files words.source settled.source s f r has.has refused))

  pub audited_or : (job : HasAuditJob files words) (f : File) (r : RefusalValue) → IsAuditRefused files words f r → ⊥
  audited_or job f r (source refused) = built_or job.source job.graph job.roots f r job.audit.has refused
  audited_or job f r (long_cert at s g roots has long is) = short_or_long files words.cert job.audit.has_cert.text job.audit.has_cert.there long
  audited_or job f r (cert at s g roots text has there refused) =
      let own = job.audit.has_cert in
      let same : text ≡ own.text = text_once files words.cert text own.text there own.there in
      let here : IsCertRefusal job.graph job.roots words.source.k own.text r = subst (λ t. IsCertRefusal job.graph job.roots words.source.k t r) same (refusal_here s job.source g job.graph roots job.roots text r has job.audit.has refused) in
      valid_or job.graph job.roots words.source.k own.text (settled.cert job.source job.graph job.roots own.text job.audit.has own.there) job.cert here.e own.is job.audit.valid here.fault

  pub audit_refused_once : (f e : File) (r s : RefusalValue) → IsAuditRefused files words f r → IsAuditRefused files words e s → r ≡ s
  audit_refused_once f e r s (source a) (source b) = source_refused_once files words.source settled.source f e r s a b
  audit_refused_once f e r s (source a) (long_cert at m g roots has long is) = built_or m g roots f r has a
  audit_refused_once f e r s (source a) (cert at m g roots text has there refused) = built_or m g roots f r has a
  audit_refused_once f e r s (long_cert at m g roots has long is) (source b) = built_or m g roots e s has b
  audit_refused_once f e r s (long_cert at m g roots has long is) (long_cert at2 m2 g2 roots2 has2 long2 is2) = is ∙ sym is2
  audit_refused_once f e r s (long_cert at m g roots has long is) (cert at2 m2 g2 roots2 text has2 there refused) = absurd (short_or_long files words.cert text there long)
  audit_refused_once f e r s (cert at m g roots text has there refused) (source b) = built_or m g roots e s has b
  audit_refused_once f e r s (cert at m g roots text has there refused) (long_cert at2 m2 g2 roots2 has2 long is2) = absurd (short_or_long files words.cert text there long)
  audit_refused_once f e r s (cert at m g roots text has there refused) (cert at2 m2 g2 roots2 text2 has2 there2 refused2) =
      let same : text2 ≡ text = text_once files words.cert text2 text there2 there in
      let here : IsCertRefusal g roots words.source.k text s = subst (λ t. IsCertRefusal g roots words.source.k t s) same (refusal_here m2 m g2 g roots2 roots text2 s has2 has refused2) in
      refusal_once g roots words.source.k text (settled.cert m g roots text has there) r s refused here

pub audit_laws : (words : CertWords) → HasLaws (audit_walk words)
audit_laws words = record {
  not_both = λ files settled job f r refused. audited_or files words settled job f r refused;
  one_refusal = λ files settled f e r s one other. audit_refused_once files words settled f e r s one other;
  shows = λ files old new done. tt;
}

-- a job whose certificate is valid
module _ (words : CertWords) (a : Audited) (is : IsBuiltSource a.built) (valid : IsValid a.built.graph (roots_of a.built.roots) words.source.k a.cert) (old new : ShelfSeen)
    (comes : Told old.files (λ files. ComesToGraph files words.source a.built)) (has : Told old.files (λ files. HasCert files words.cert a.cert)) where
  audit_is : (files : Files) → old.files ≡ Some files → IsAudit files words a.built.source a.built.graph a.built.roots a.cert
  audit_is files told = record { has = (comes files told).has; has_cert = has files told; valid = valid }

  pub audit_begun : new.given ≤ MOST_BYTES → IsBegunFrom (audit_walk words) old new
  audit_begun given = record {
    given = given;
    begun = λ files told. record {
      accepted = record { source = a.built.source; graph = a.built.graph; roots = a.built.roots; cert = a.cert; audit = audit_is files told };
      settled = cert_settles files words (comes files told).settled a.built.source a.built.graph a.built.roots (comes files told).has is.normal;
    };
  }

  pub audited : (line : List ℕ) → line ≡ audited_line a.cert.depth → (P : List ℕ → Type 0) → P line → Told old.files (λ files. HasAudit files words P)
  audited line told_is P ends files told =
      let past = comes files told in
      let netlist = past.has.has.netlist in
      record {
        source = a.built.source;
        graph = a.built.graph;
        roots = a.built.roots;
        cert = a.cert;
        audit = audit_is files told;
        sound = (past.settled.netlist netlist.text netlist.there).sound a.built.source.netlist netlist.is;
        least = valid_bound a.built.graph (roots_of a.built.roots) words.source.k a.cert valid;
        ends = subst P told_is ends;
      }
