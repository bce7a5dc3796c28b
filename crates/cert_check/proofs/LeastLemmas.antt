-- A valid certificate is a lower bound of the depth of every cover: the K + 1 paths to a node show that no cut of it is low.
use Rattle.cert_check.proofs.Common.{◌≡◌, ℕ, suc, ◌+◌, ◌/◌, ◌<◌, ◌≤◌, List, [], ◌∷◌, Option, Some, eqb, length, refl, sym, subst, inl, inr, ◌⊎◌, arith, slice_get, eqb-true, cases_lt, Aig, first_and, In, choose, Blocks, IsCut, IsPath, map, length-map, from_map, mapped_at, PathValue, StepValue, CertificateValue, IsLowerBound, AreLowerBounds, claim_of, path_count, IsJustified, Needs, node, complemented, SomeNeeds, IsValid, ArePathsTo, rules}
use Rattle.cut_sets.specs.Covers.{IsCover, HasDepth, source, free, table, RootsWithin}
use Rattle.cut_sets.specs.Labels.{height}
use Rattle.cut_sets.proofs.HeightLemmas.{height_le}
use Rattle.cut_sets.proofs.PickLemmas.{path_not_free, paths_high}

-- the step that claims this for a node
record HasStep (steps : List StepValue) (n v : ℕ) : Type 0 where
  step : StepValue
  there : In steps step
  of : step.node ≡ n
  claims : v ≡ step.claim

later_step : (s : StepValue) (ss : List StepValue) (n v : ℕ) → (v ≡ 0) ⊎ HasStep ss n v → (v ≡ 0) ⊎ HasStep (s ∷ ss) n v
later_step s ss n v (inl e) = inl e
later_step s ss n v (inr h) = inr (record { step = h.step; there = inr h.there; of = h.of; claims = h.claims })

-- a claim is 0, or that of a step
claim_cases : (steps : List StepValue) (n : ℕ) → (claim_of steps n ≡ 0) ⊎ HasStep steps n (claim_of steps n)
claim_cases [] n = inl refl
claim_cases (s ∷ ss) n = grind (arith, eqb, eqb-true, later_step, claim_cases ss n)

-- how many paths there are
path_count-one : (k claim : ℕ) → 1 ≤ path_count k claim
path_count-one k claim = choose (λ v. 1 ≤ v) (eqb claim 1) 1 (k + 1) (λ e. omega arith) (λ e. omega arith)

pub path_count-more : (k claim : ℕ) → 2 ≤ claim → path_count k claim ≡ k + 1
path_count-more k claim two = choose (λ v. v ≡ k + 1) (eqb claim 1) 1 (k + 1) (λ e. let one : claim ≡ 1 = eqb-true claim 1 e in absurd (omega arith)) (λ e. refl)

some_path : (ps : List PathValue) → 1 ≤ length ps → (p : PathValue) × In ps p
some_path [] l = absurd (omega arith)
some_path (p ∷ ps) l = (p, inl refl)

-- the lists of nodes of a step's paths
nodes_of : List PathValue → List (List ℕ)
nodes_of ps = map (λ p. p.nodes) ps

-- a list of nodes is that of a path
nodes_at : (ps : List PathValue) (i : ℕ) (l : List ℕ) → slice_get (nodes_of ps) i ≡ Some l → (p : PathValue) × (slice_get ps i ≡ Some p) × (l ≡ p.nodes)
unfolding nodes_of
nodes_at ps i l at = mapped_at (λ p. p.nodes) ps i l at

module _ (g : Aig) (k : ℕ) (claim : ℕ → ℕ) (s : StepValue) (just : IsJustified g k claim s) where
  -- the empty set does not block its node
  not_free : Blocks g [] s.node → ⊥
  not_free b = grind (arith, some_path, path_count-one, path_not_free)

  shown : ArePathsTo g s.node s.claim claim (nodes_of s.paths)
  unfolding nodes_of
  shown = search (rules, from_map, nodes_at)

  -- a cut of its node has a leaf whose claim is at least one less
  not_shallow : (c : List ℕ) (d : ℕ) → IsCut g k s.node c → ((m : ℕ) → In c m → claim m ≤ d) → suc d < s.claim → ⊥
  unfolding nodes_of
  not_shallow c d cut low deep =
      let f : path_count k s.claim ≡ k + 1 = path_count-more k s.claim (omega arith) in
      let l : length (nodes_of s.paths) ≡ length s.paths = length-map s.paths (λ q. q.nodes) in
      let u : height claim c ≤ suc d = height_le claim c d low in
      absurd (omega (arith, paths_high g k s.node s.claim claim (nodes_of s.paths) shown (omega arith) c cut))

module _ (g : Aig) (k : ℕ) (roots : List ℕ) (cert : CertificateValue) (valid : IsValid g roots k cert) (cover_roots : List ℕ) (cover : ℕ → Option (List ℕ)) (is : IsCover g k cover_roots cover) where
  -- a claim that is 0 is no deeper than anything
  by_step : (n d : ℕ) → (HasStep cert.steps n (claim_of cert.steps n) → claim_of cert.steps n ≤ d) → claim_of cert.steps n ≤ d
  by_step n d step = elim (claim_cases cert.steps n) [ inl e ↦ omega arith | inr h ↦ step h ]

  table_case : (n d : ℕ) (c : List ℕ) → cover n ≡ Some c → ((m : ℕ) → In c m → claim_of cert.steps m ≤ d) → claim_of cert.steps n ≤ suc d
  table_case n d c at low = by_step n (suc d) (λ h. elim (cases_lt (suc d) h.step.claim) [
    | inl l ↦ absurd (not_shallow g k (claim_of cert.steps) h.step (valid.justified h.step h.there) c d (subst (λ m. IsCut g k m c) (sym h.of) (is.cuts n c at).1) low l)
    | inr l ↦ (let e : claim_of cert.steps n ≡ h.step.claim = h.claims in omega arith)
  ])

  -- a claim is at most the depth of its node
  pub claim_low : {n d : ℕ} → HasDepth g cover n d → claim_of cert.steps n ≤ d
  claim_low {n} {d} (source l) = by_step n d (λ h. let a : first_and g ≤ h.step.node = (valid.nodes h.step h.there).0 in let e : h.step.node ≡ n = h.of in absurd (omega arith))
  claim_low {n} {d} (free at) = by_step n d (λ h. absurd (not_free g k (claim_of cert.steps) h.step (valid.justified h.step h.there) (subst (λ m. Blocks g [] m) (sym h.of) (is.cuts n [] at).1.blocks)))
  claim_low {n} (table {d = d} c at sub) = table_case n d c at (λ m i. claim_low (sub m i))

  -- and what roots need is at most the depth of the cover
  need_low : (others : List ℕ) (e d : ℕ) → RootsWithin g cover others d → (l : ℕ) → In others l → Needs g (claim_of cert.steps) e l → e ≤ d
  need_low others e d within l i (node a le) = let b : claim_of cert.steps (l / 2) ≤ d = claim_low (within.nodes l i a) in omega arith
  need_low others e d within l i (complemented one s odd) = let b : 1 ≤ d = within.complemented l i s odd in omega arith

  some_low : (others some : List ℕ) (e d : ℕ) → RootsWithin g cover others d → ((l : ℕ) → In some l → In others l) → SomeNeeds g some (claim_of cert.steps) e → e ≤ d
  some_low others [] e d within part need = absurd need
  some_low others (l ∷ ls) e d within part (inl need) = need_low others e d within l (part l (inl refl)) need
  some_low others (l ∷ ls) e d within part (inr need) = some_low others ls e d within (λ m i. part m (inr i)) need

  pub depth_low : (d : ℕ) → RootsWithin g cover roots d → cert.depth ≤ d
  depth_low d within = elim valid.reached [ inl e ↦ omega arith | inr need ↦ some_low roots roots cert.depth d within (λ l i. i) need ]

-- A valid certificate is a lower bound of every cover.
pub valid_bound : (g : Aig) (roots : List ℕ) (k : ℕ) (cert : CertificateValue) → IsValid g roots k cert → IsLowerBound g k roots cert.depth
valid_bound g roots k cert valid = record { least = λ cover e is within. depth_low g k roots cert valid roots cover is e within }

pub valid_claims : (g : Aig) (roots : List ℕ) (k : ℕ) (cert : CertificateValue) → IsValid g roots k cert → AreLowerBounds g k (claim_of cert.steps)
valid_claims g roots k cert valid = record { least = λ others cover n d is depth. claim_low g k roots cert valid others cover is depth }
