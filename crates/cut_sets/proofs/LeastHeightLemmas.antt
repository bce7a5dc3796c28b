-- Least heights are least depths, there is one label for each node, and labels do not fall from a fan-in to its reader.
use Rattle.cut_sets.proofs.Common.{◌≡◌, ℕ, zero, suc, ◌+◌, ◌<◌, ◌≤◌, List, [], Option, Some, sym, ◌∙◌, inl, inr, arith, cases_lt, Aig, first_and, node_count, IsAnd, AreNormal, In, IsCut, height, AreLeastHeights, AreLeastDepths, IsFanIn}
use Rattle.cut_sets.specs.Covers.{IsCover, HasDepth, source, free, table}
use Rattle.cut_sets.proofs.BlockLemmas.{cut_within}
use Rattle.cut_sets.proofs.HeightLemmas.{height_le, height_member, height_same, height_within}
use Rattle.cut_sets.proofs.PathLemmas.{blocked_below, fan_in_above}

module _ (g : Aig) (k : ℕ) (label : ℕ → ℕ) (are : AreLeastHeights g k label) (roots : List ℕ) (cover : ℕ → Option (List ℕ)) (is : IsCover g k roots cover) where
  table_le : (n d : ℕ) (c : List ℕ) → cover n ≡ Some c → ((m : ℕ) → In c m → label m ≤ d) → label n ≤ suc d
  table_le n d c at low = let both = is.cuts n c at in omega (arith, height_le label c d low, are.least n c both.0 both.1)

  free_le : (n d : ℕ) → cover n ≡ Some [] → label n ≤ d
  free_le n d at = let both = is.cuts n [] at in let z : label n ≤ height label [] = are.least n [] both.0 both.1 in omega arith

  -- The label of a node is at most its depth in every cover.
  pub label_le_depth : {n d : ℕ} → HasDepth g cover n d → label n ≤ d
  label_le_depth {n} {d} (source l) = let e : label n ≡ 0 = are.sources n l in omega arith
  label_le_depth {n} {d} (free at) = free_le n d at
  label_le_depth {n} (table {d = d} c at sub) = table_le n d c at (λ m i. label_le_depth (sub m i))

-- Least heights are least depths.
pub least_depths : (g : Aig) (k : ℕ) (label : ℕ → ℕ) → AreLeastHeights g k label → AreLeastDepths g k label
least_depths g k label are = record { least = λ roots cover n d is depth. label_le_depth g k label are roots cover is depth }

module _ (g : Aig) (k : ℕ) (f h : ℕ → ℕ) (a : AreLeastHeights g k f) (b : AreLeastHeights g k h) where
  -- node by node, since leaves stand below their node
  once_below : (bound n : ℕ) → n < bound → f n ≡ h n
  once_below zero n l = absurd (omega arith)
  once_below (suc bound) n l = elim (cases_lt n (first_and g)) [
    | inl s ↦ a.sources n s ∙ sym (b.sources n s)
    | inr s ↦ elim (cases_lt n (node_count g)) [
      | inl inside ↦ (
          let and : IsAnd g n = (s, inside) in
          let same : (c : List ℕ) → IsCut g k n c → height f c ≡ height h c =
          (λ c cut. height_same f h c (λ m j. let w : m < n = (cut.below m j).0 in once_below bound m (omega arith))) in
          let x = a.met n and in
          let y = b.met n and in
          let t : height f y.0 ≡ height h y.0 = same y.0 y.1 in omega (arith, same x.0 x.1, a.least n y.0 and y.1, b.least n x.0 and x.1, y.2, x.2))
      | inr past ↦ a.past n past ∙ sym (b.past n past)
    ]
  ]

  -- A graph has one label for each node.
  pub least_heights_once : (n : ℕ) → f n ≡ h n
  least_heights_once n = once_below (suc n) n (omega arith)

-- a cut of a reader is at least as high as the label of a fan-in, where this is known to be least
pub fan_in_low : (g : Aig) → AreNormal (first_and g) g.pairs → (k : ℕ) (label : ℕ → ℕ) (m n : ℕ) (c : List ℕ) → IsFanIn g m n → IsCut g k n c → n < node_count g
    → (m < first_and g → label m ≡ 0) → ((d : List ℕ) → IsAnd g m → IsCut g k m d → label m ≤ height label d) → m < n → label m ≤ height label c
fan_in_low g normal k label m n c f cut inside at_source least l = elim (blocked_below g c f cut.blocks) [
  | inl i ↦ absurd (let b : n < n = (cut.below n i).0 in omega arith)
  | inr b ↦ elim (cases_lt m (first_and g)) [
    | inl s ↦ (let e : label m ≡ 0 = at_source s in omega arith)
    | inr a ↦ (
        let and : IsAnd g m = (a, let q : m < node_count g = omega arith in q) in
        elim (cut_within g normal k m c and cut.ascending cut.few b) [
          | inl i ↦ (let t : label m + 1 ≤ height label c = height_member label c m i in omega arith)
          | inr r ↦ (let t : label m ≤ height label r.0 = least r.0 and r.1 in let u : height label r.0 ≤ height label c = height_within label r.0 c r.2 in omega arith)
        ])
  ]
]

-- Labels do not fall from a fan-in to its reader.
pub label_rises : (g : Aig) → AreNormal (first_and g) g.pairs → (k : ℕ) (label : ℕ → ℕ) → AreLeastHeights g k label → (m n : ℕ) → IsFanIn g m n → n < node_count g → m < n → label m ≤ label n
label_rises g normal k label are m n f inside l =
    let and : IsAnd g n = (fan_in_above g m n f, inside) in
    let best = are.met n and in
    omega (arith, fan_in_low g normal k label m n best.0 f best.1 inside (are.sources m) (λ d. are.least m d) l, best.2)
