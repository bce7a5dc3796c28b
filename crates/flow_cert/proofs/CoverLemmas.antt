-- A cut of the label's height for every AND node is a cover, in which each node has its label as its depth.
use Rattle.flow_cert.proofs.Common.{◌≡◌, ℕ, zero, suc, ◌+◌, ◌-◌, ◌/◌, ◌^◌, ◌<◌, ◌≤◌, List, [], ◌∷◌, Option, Some, None, IsSome, refl, subst, inl, inr, ◌⊎◌, arith, cases_lt, none-some, same_Some, Aig, first_and, node_count, IsAnd, In, IsCut, height, AreLeastHeights, rules, height_le, height_member, least_depths}
use Rattle.cut_sets.specs.Covers.{IsCover, HasDepth, source, free, table, IsLeastDepth}
use Rattle.flow_cert.specs.Target.{IsTarget, nothing, node, complemented}
use Rattle.flow_cert.proofs.TargetLemmas.{first_in}

and_or_not : (g : Aig) (n : ℕ) → IsAnd g n ⊎ (IsAnd g n → ⊥)
and_or_not g n = search (rules, cases_lt)

-- a cut of the label's height, where the node is an AND node
abbrev pick : (g : Aig) (k : ℕ) (label : ℕ → ℕ) → AreLeastHeights g k label → (n : ℕ) → IsAnd g n ⊎ (IsAnd g n → ⊥) → Option (List ℕ)
pick g k label are n (inl and) = Some (are.met n and).0
pick g k label are n (inr never) = None

module _ (g : Aig) (k : ℕ) (label : ℕ → ℕ) (are : AreLeastHeights g k label) where
  abbrev low_cover : ℕ → Option (List ℕ)
  low_cover n = pick g k label are n (and_or_not g n)

  -- what a cut of the cover is
  record IsPicked (n : ℕ) (c : List ℕ) : Type 0 where
    and : IsAnd g n
    cut : IsCut g k n c
    met : label n ≡ height label c

  picked : (n : ℕ) (d : IsAnd g n ⊎ (IsAnd g n → ⊥)) (c : List ℕ) → pick g k label are n d ≡ Some c → IsPicked n c
  picked n (inl and) c e = subst (λ x. IsPicked n x) (same_Some (are.met n and).0 c e) (record { and = and; cut = (are.met n and).1; met = (are.met n and).2 })
  picked n (inr never) c e = absurd (none-some c e)

  has_pick : (n : ℕ) (d : IsAnd g n ⊎ (IsAnd g n → ⊥)) → IsAnd g n → (c : List ℕ) × (pick g k label are n d ≡ Some c)
  has_pick n (inl a) and = ((are.met n a).0, refl)
  has_pick n (inr never) and = absurd (never and)

  pick_some : (n : ℕ) (d : IsAnd g n ⊎ (IsAnd g n → ⊥)) → IsAnd g n → IsSome (pick g k label are n d)
  pick_some n (inl a) and = refl
  pick_some n (inr never) and = absurd (never and)

  cover_is : (n : ℕ) (c : List ℕ) → low_cover n ≡ Some c → IsPicked n c
  cover_is n c e = picked n (and_or_not g n) c e

  low_is : (roots : List ℕ) → IsCover g k roots low_cover
  low_is roots = search (rules, cover_is, pick_some, and_or_not)

  -- an empty cut is free, and another one is a table
  by_cut : (n d : ℕ) (c : List ℕ) → low_cover n ≡ Some c → height label c ≤ d → ((m e : ℕ) → In c m → label m ≤ e → HasDepth g low_cover m e) → HasDepth g low_cover n d
  by_cut n d [] at l below = free at
  by_cut n zero (m ∷ ms) at l below = absurd (let h : label m + 1 ≤ height label (m ∷ ms) = height_member label (m ∷ ms) m (inl refl) in omega arith)
  by_cut n (suc d) (m ∷ ms) at l below = table (m ∷ ms) at (λ x i. below x d i (let h : label x + 1 ≤ height label (m ∷ ms) = height_member label (m ∷ ms) x i in omega arith))

  -- a node has its label as its depth
  depth_below : (f n d : ℕ) → n < f → n < node_count g → label n ≤ d → HasDepth g low_cover n d
  depth_below zero n d l top le = absurd (omega arith)
  depth_below (suc f) n d l top le = elim (cases_lt n (first_and g)) [
    | inl s ↦ source s
    | inr a ↦ (let c = has_pick n (and_or_not g n) (a, top) in
        let p = cover_is n c.0 c.1 in
        by_cut n d c.0 c.1 (omega arith) (λ m x i le'. let b : m < n = (p.cut.below m i).0 in depth_below f m x (omega arith) (omega arith) le'))
  ]

  -- The depth that the roots need is the least of a cover.
  pub target_least : (roots : List ℕ) (depth begin : ℕ) → IsTarget g label roots depth begin → IsLeastDepth g k roots depth
  target_least roots depth begin t = record {
    cover = low_cover;
    is = low_is roots;
    within = record {
      complemented = t.complemented;
      nodes = λ l i and. depth_below (suc (l / 2)) (l / 2) depth (omega arith) and.1 (t.nodes l i and);
    };
    least = λ other e is within. elim t.reached [
      | nothing z b ↦ omega arith
      | node l f and b q p ↦ (let low : label (l / 2) ≤ e = (least_depths g k label are).least roots other (l / 2) e is (within.nodes l (first_in g label depth roots l f) and) in omega arith)
      | complemented l f s o one b ↦ (let low : 1 ≤ e = within.complemented l (first_in g label depth roots l f) s o in omega arith)
    ];
  }

  label_below : (f n : ℕ) → n < f → label n ≤ n
  label_below zero n l = absurd (omega arith)
  label_below (suc f) n l = elim (cases_lt n (first_and g)) [
    | inl s ↦ (let z : label n ≡ 0 = are.sources n s in omega arith)
    | inr a ↦ elim (cases_lt n (node_count g)) [
      | inr p ↦ (let z : label n ≡ 0 = are.past n p in omega arith)
      | inl b ↦ (
          let c = are.met n (a, b) in
          let h : height label c.0 ≤ suc (n - 1) = height_le label c.0 (n - 1) (λ m i. let q : m < n = (c.1.below m i).0 in let r : label m ≤ m = label_below f m (omega arith) in omega arith) in
          omega arith)
    ]
  ]

  label_low : (n : ℕ) → label n ≤ n
  label_low n = label_below (suc n) n (omega arith)

  -- so it fits a word of 32 bits
  pub label_small : node_count g ≤ 2 ^ 30 → (n : ℕ) → label n < 2 ^ 32
  label_small few n = search (rules, cases_lt, label_low)
