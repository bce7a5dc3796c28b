-- The reading of a source circuit up to its graph is part of that of `audit`; and after it the certificate is settled.
use Rattle.cmd_cert.proofs.Common.{◌≡◌, Option, refl, subst, Files, ShelfSeen, Aig, first_and, AreNormal, RootsValue, roots_of, Explains, Outcome, IsPart, Explains_lift, Source, ToGraph, IsBuilt, HasGraph, ReachesSource, source_word, source_reading, IsSourceSettled, refused_unmade, same_graph, settled_once, CertWords, cert_word, IsOfAudit, ReachesAudit, IsAuditSettled, audit_reading, of_source}
use Rattle.cert_check.proofs.CheckLemmas.{one_verdict}
use Rattle.cert_check.proofs.OnceLemmas.{one_reading}
use Rattle.cmd_cert.specs.Audit as audit

module _ (files : Files) (words : CertWords) (settled : IsSourceSettled ToGraph files words.source) where
  -- files hold one graph
  pub graph_once : (a b : Source) (g h : Aig) (roots others : RootsValue) → HasGraph files words.source a g roots → HasGraph files words.source b h others → g ≡ h
  graph_once a b g h roots others x y =
      let here : IsBuilt words.source.rule b g roots = subst (λ s. IsBuilt words.source.rule s g roots) (settled_once files words.source a b settled x.has y.has) x.built in
      same_graph b (settled.made b y.has).one_graph g h roots others here.is_graph y.built.is_graph

  -- where that is normal, the certificate is settled
  pub cert_settles : (b : Source) (g : Aig) (roots : RootsValue) → HasGraph files words.source b g roots → AreNormal (first_and g) g.pairs → IsAuditSettled files words
  cert_settles b g roots has normal = record {
    source = settled;
    cert = λ s h others text is there. record {
      one_reading = one_reading text;
      one_verdict = λ cert _. one_verdict h (roots_of others) words.source.k cert (subst (λ (x : Aig). AreNormal (first_and x) x.pairs) (graph_once b s g h roots others has is) normal);
    };
  }

-- where no graph is made, nothing comes after it
unbuilt_settles : (files : Files) (words : CertWords) → IsSourceSettled ToGraph files words.source → ((s : Source) (g : Aig) (roots : RootsValue) → HasGraph files words.source s g roots → ⊥) → IsAuditSettled files words
unbuilt_settles files words settled none = record { source = settled; cert = λ s g roots text has there. absurd (none s g roots has) }

source_part : (words : CertWords) (told : Option Files) → IsPart (source_reading ToGraph words.source) (audit_reading words) told
source_part words told = record {
  read = of_source IsOfAudit tt tt;
  word = of_source (λ f. source_word words.source f ≡ cert_word words f) refl refl;
  given = λ f n h. h;
  files = λ files told. told;
  reaches = λ files told f h reached. of_source (λ f. ReachesSource files words.source f → ReachesAudit files words f) (λ h. h) (λ h. h) f h reached;
  refused = λ files told f r refused. audit.IsAuditRefused.source refused;
  settled = λ files told f r settled refused. unbuilt_settles files words settled (λ s g roots has. (settled.made s has.has).not_both g roots r has.built (refused_unmade files words.source settled s f r has.has refused));
}

pub source_to_audit : (words : CertWords) (old new : ShelfSeen) (o : Outcome) → Explains (source_reading ToGraph words.source) old new o → Explains (audit_reading words) old new o
source_to_audit words old new o h = Explains_lift (source_reading ToGraph words.source) (audit_reading words) old new (source_part words old.files) o h
