-- The nodes whose claims are needed: they are the same where the paths are, and the numbers of lines have no part in them.
use Rattle.flow_cert.proofs.Common.{◌≡◌, ℕ, ◌≤◌, List, sym, ap, ◌∙◌, subst, arith, Aig, StepValue, CertificateValue, bare_step, bare, AreLabelClaims, IsFirstToNeed, IsShared, IsNeeded, root, shared, AreNeeded, ShowAlike, HasOneClaiming, rules}
use Rattle.cert_check.proofs.BareLemmas.{same_step, same_path}

-- a step of the same node with the same paths shares the same nodes
shared_alike : (s t : StepValue) (m : ℕ) → s.node ≡ t.node → s.paths ≡ t.paths → IsShared s m → IsShared t m
shared_alike s t m node paths h = search rules

module _ (g : Aig) (roots : List ℕ) (label : ℕ → ℕ) where
  module _ (c d : CertificateValue) (of : AreNeeded g roots label d) (depth : c.depth ≡ d.depth) (alike : ShowAlike c d) where
    needed_alike : (m : ℕ) → IsNeeded g roots label c m → IsNeeded g roots label d m
    needed_alike m (root l p f and e) = root l (subst (λ x. 1 ≤ x) depth p) (subst (λ x. IsFirstToNeed g label x roots l) depth f) and e
    needed_alike m (shared t i n h) =
        let there = needed_alike t.node n in
        let u = of.all t.node there in
        shared u.step u.there (subst (λ x. IsNeeded g roots label d x) (sym u.is) there) (shared_alike t u.step m (sym u.is) (alike.each t u.step i u.there (sym u.is)) h)

  pub one_claiming : HasOneClaiming g roots label
  one_claiming = record {
    once = λ c d ofc ofd depth alike m h. ofd.all m (needed_alike c d ofd depth alike m (subst (λ x. IsNeeded g roots label c x) h.is (ofc.only h.step h.there)));
  }

-- the same paths but for lines share the same nodes
same_shared : (s t : StepValue) (m : ℕ) → bare_step s ≡ bare_step t → IsShared s m → IsShared t m
same_shared s t m same h = grind (arith, same_path)

module _ (g : Aig) (roots : List ℕ) (label : ℕ → ℕ) where
  bare_needed : (c d : CertificateValue) → bare c ≡ bare d → (m : ℕ) → IsNeeded g roots label c m → IsNeeded g roots label d m
  bare_needed c d same m (root l p f and e) =
      let depth : c.depth ≡ d.depth = ap (λ (x : CertificateValue). x.depth) same in
      root l (subst (λ x. 1 ≤ x) depth p) (subst (λ x. IsFirstToNeed g label x roots l) depth f) and e
  bare_needed c d same m (shared t i n h) =
      let u = same_step c.steps d.steps (ap (λ (x : CertificateValue). x.steps) same) t i in
      shared u.0 u.1 (subst (λ x. IsNeeded g roots label d x) (ap (λ (x : StepValue). x.node) u.2) (bare_needed c d same t.node n)) (same_shared t u.0 m u.2 h)

  -- So another certificate with other lines alone claims the needed nodes too,
  pub same_needed : (c d : CertificateValue) → bare c ≡ bare d → AreNeeded g roots label c → AreNeeded g roots label d
  same_needed c d same of = record {
    only = λ s i.
        let u = same_step d.steps c.steps (ap (λ (x : CertificateValue). x.steps) (sym same)) s i in
        subst (λ x. IsNeeded g roots label d x) (ap (λ (x : StepValue). x.node) (sym u.2)) (bare_needed c d same u.0.node (of.only u.0 u.1));
    all = λ m n.
        let h = of.all m (bare_needed d c (sym same) m n) in
        let u = same_step c.steps d.steps (ap (λ (x : CertificateValue). x.steps) same) h.step h.there in
        record { step = u.0; there = u.1; is = ap (λ (x : StepValue). x.node) (sym u.2) ∙ h.is };
  }

-- and their labels.
pub same_label_claims : (label : ℕ → ℕ) (c d : CertificateValue) → bare c ≡ bare d → AreLabelClaims label c → AreLabelClaims label d
same_label_claims label c d same of = search (rules, same_step)
