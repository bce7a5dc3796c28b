-- The steps of the needed nodes and the depth of the roots are a valid certificate.
use Rattle.flow_cert.proofs.Common.{◌≡◌, ℕ, zero, suc, ◌+◌, ◌^◌, ◌<◌, ◌≤◌, eqb, List, [], ◌∷◌, refl, sym, ap, ◌∙◌, subst, inl, inr, arith, eqb-true, eqb-false, Aig, first_and, node_count, IsAnd, AreNormal, In, choose, In-get, StepValue, CertificateValue, claim_of, IsJustified, Needs, SomeNeeds, IsReached, IsValid, IsWritable, IsStepOf, AreLabelClaims, IsShared, IsNeeded, HasStep, AreNeeded, AreSteps, IsTarget, rules}
use Rattle.flow_cert.specs.Needed as needed
use Rattle.flow_cert.specs.Steps as steps
use Rattle.flow_cert.specs.Target as target
use Rattle.flow_cert.proofs.GraphLemmas.{path_below, path_two, source_not_and}
use Rattle.flow_cert.proofs.TargetLemmas.{first_in, first_once}

-- a node with a step is claimed its label
claim_there : (g : Aig) (k : ℕ) (label : ℕ → ℕ) (ss : List StepValue) (m : ℕ) → ((s : StepValue) → In ss s → IsStepOf g k label s) → HasStep ss m → claim_of ss m ≡ label m
claim_there g k label [] m each h = absurd h.there
claim_there g k label (s ∷ ss) m each h =
    choose (λ x. x ≡ label m) (eqb s.node m) s.claim (claim_of ss m)
    (λ e. (each s (inl refl)).claim ∙ ap label (eqb-true s.node m e))
    (λ e. elim h.there [
      | inl q ↦ absurd (eqb-false s.node m e (sym (ap (λ (t : StepValue). t.node) q) ∙ h.is))
      | inr i ↦ claim_there g k label ss m (λ t j. each t (inr j)) (record { step = h.step; there = i; is = h.is })
    ])

some_needs : (g : Aig) (claim : ℕ → ℕ) (d : ℕ) (roots : List ℕ) (l : ℕ) → In roots l → Needs g claim d l → SomeNeeds g roots claim d
some_needs g claim d [] l i n = absurd i
some_needs g claim d (x ∷ xs) l (inl e) n = inl (subst (λ y. Needs g claim d y) e n)
some_needs g claim d (x ∷ xs) l (inr i) n = inr (some_needs g claim d xs l i n)

module _ (g : Aig) (k : ℕ) (label : ℕ → ℕ) (normal : AreNormal (first_and g) g.pairs) (roots : List ℕ) (depth begin : ℕ) (t : IsTarget g label roots depth begin) (ss : List StepValue) (are : AreSteps g k label begin ss) where
  claimed : (m : ℕ) → HasStep ss m → claim_of ss m ≡ label m
  claimed m h = claim_there g k label ss m are.each h

  justified : (s : StepValue) → In ss s → IsJustified g k (claim_of ss) s
  justified s i =
      let of = are.each s i in
      record {
        count = of.justified.count;
        paths = of.justified.paths;
        apart = λ a b m p q l e f x y ne.
            let high : s.claim ≤ label m + 1 = of.justified.apart a b m p q l e f x y ne in
            let low : m ≤ s.node = path_below g s.node p.nodes m normal (of.justified.paths p (In-get s.paths a p e)) x in
            let share : IsShared s m = record { i = a; j = b; p = p; q = q; order = l; first = e; second = f; in_first = x; in_second = y; below = omega (arith, ne) } in
            let c : claim_of ss m ≡ label m = claimed m (are.shares s m i share) in omega arith;
      }

  reached : IsReached g roots (claim_of ss) depth
  reached = search (rules, claimed, some_needs, first_in)

  pub cert_valid : IsValid g roots k (record { depth = depth; steps = ss })
  cert_valid = search (rules, justified, reached)

  pub cert_claims : AreLabelClaims label (record { depth = depth; steps = ss })
  cert_claims = record { each = λ s i. (are.each s i).claim }

  abbrev made : CertificateValue
  made = record { depth = depth; steps = ss }

  -- where the certificate begins is the node of the first root that needs the depth
  begin_needed : (m : ℕ) → IsAnd g m → m ≡ begin → IsNeeded g roots label made m
  begin_needed m and e = elim t.reached [
    | target.nothing z b ↦ absurd (let a : first_and g ≤ m = and.0 in omega arith)
    | target.node l f a b q p ↦ needed.root l p f a (e ∙ b)
    | target.complemented l f s o q b ↦ absurd (let a : first_and g ≤ m = and.0 in omega arith)
  ]

  -- a step above another one is needed first, so each step is needed
  step_needed : (f : ℕ) (s : StepValue) → In ss s → node_count g ≤ s.node + f → IsNeeded g roots label made s.node
  step_needed zero s i top = absurd (let b : s.node < node_count g = (are.each s i).and.1 in omega arith)
  step_needed (suc f) s i top = elim (are.why s i) [
    | steps.first e ↦ begin_needed s.node (are.each s i).and e
    | steps.shared u j h ↦ needed.shared u j (step_needed f u j (let b : s.node < u.node = h.below in omega arith)) h
  ]

  -- and what is needed has a step
  needed_there : (m : ℕ) → IsNeeded g roots label made m → HasStep ss m
  needed_there m (needed.root l p f and e) = search (rules, first_once, source_not_and)
  needed_there m (needed.shared u j w h) = are.shares u m j h

  pub cert_needed : AreNeeded g roots label made
  cert_needed = record { only = λ s i. step_needed (node_count g) s i (omega arith); all = needed_there }

  pub cert_writable : depth < 2 ^ 32 → node_count g ≤ 2 ^ 30 → ((m : ℕ) → label m < 2 ^ 32) → IsWritable (record { depth = depth; steps = ss })
  cert_writable small count labels = search (rules, path_two, path_below)

-- the depth fits a word where labels do
pub depth_small : (g : Aig) (label : ℕ → ℕ) (roots : List ℕ) (depth begin : ℕ) → IsTarget g label roots depth begin → ((m : ℕ) → label m < 2 ^ 32) → depth < 2 ^ 32
depth_small g label roots depth begin t labels = search rules
