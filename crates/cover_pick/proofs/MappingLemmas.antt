-- The chosen LUTs map the graph, and are a cover of the least depth.
use Rattle.cover_pick.proofs.Common.{◌≡◌, ℕ, ◌-◌, ◌*◌, ◌/◌, ◌%◌, ◌<◌, ◌≤◌, cond, List, [], ◌∷◌, Option, Some, None, IsSome, refl, sym, ap, ◌∙◌, subst, inl, inr, ◌⊎◌, arith, get_or, slice_get, same_Some, none-some, slice_get-get_or, cases_lt, cases_eq, eq-eqb, ne_eqb, lt-ltb, false≢true, Aig, first_and, node_count, IsAnd, IsSource, Kind, Regular, Parameter, AreRoots, In, Lut, target, need, cover_of, chosen, Supply, IsServed, choice_of, cut_at, depths_of, FromChoice, IsLeastCover, HasTable, rules, leaves_of, source_leaves, Made, IsMarked, root, leaf, IsMade}
use Rattle.cover_pick.specs.Mapping.{IsTableOf, source, free, node, IsPlain, HasLut, HasNode, IsMapping, IsLeast}
use Rattle.cover_pick.proofs.TemplateLemmas.{leaves_and, cut_in}

pub leaves_zero : (g : Aig) (cuts : List (Option (List ℕ))) (l : ℕ) → l / 2 ≡ 0 → leaves_of g cuts l ≡ Some []
leaves_zero g cuts l e = rw (eq-eqb (l / 2) 0 e) refl

pub leaves_source : (g : Aig) (cuts : List (Option (List ℕ))) (l : ℕ) → (l / 2 ≡ 0 → ⊥) → l / 2 < first_and g → leaves_of g cuts l ≡ source_leaves (slice_get g.kinds (l / 2 - 1)) (l / 2) (l % 2)
leaves_source g cuts l d b = rw (ne_eqb (l / 2) 0 d, lt-ltb (l / 2) (first_and g) b) refl

kind_is : (g : Aig) (n : ℕ) (k : Kind) → 1 ≤ n → slice_get g.kinds (n - 1) ≡ Some k → IsSource g Regular n ⊎ IsSource g Parameter n
kind_is g n Regular a e = inl (record { above = a; is = e })
kind_is g n Parameter a e = inr (record { above = a; is = e })

pub kind_there : (g : Aig) (n : ℕ) → (n ≡ 0 → ⊥) → n < first_and g → IsSource g Regular n ⊎ IsSource g Parameter n
kind_there g n d b = kind_is g n (get_or g.kinds (n - 1) Regular) (omega arith) (slice_get-get_or g.kinds (n - 1) Regular (omega arith))

-- what a table of a regular source has as leaves
pub regular_leaves : (l : ℕ) (c : List ℕ) → source_leaves (Some Regular) (l / 2) (l % 2) ≡ Some c → (l % 2 ≡ 1) × (c ≡ (l / 2) ∷ [])
regular_leaves l c h0 = grind arith

-- what the cover has at an AND node with this required depth
pub cover_at : (g : Aig) (choice : ℕ → ℕ → List ℕ) (reqs : List (Option ℕ)) (n : ℕ) (o : Option ℕ) → first_and g ≤ n → need reqs n ≡ o → cover_of g choice reqs n ≡ chosen choice n o
cover_at g choice reqs n o b e = grind arith

module _ (supply : Supply) (g : Aig) (label : ℕ → ℕ) (roots : List ℕ) (made : Made) (a : IsMade supply g label roots made) (k : ℕ) (served : IsServed g k label a.rows) (lits : AreRoots g roots) where
  plan : IsLeastCover g k roots (cut_at a.cuts) (target g label roots)
  plan = a.plan.least k served

  has_lut : (l : ℕ) (c : List ℕ) → l < 2 * node_count g → IsMarked roots a.cuts l → leaves_of g a.cuts l ≡ Some c → HasLut made.luts l
  has_lut l c b needed e = let h = a.tables.all l c b needed e in record { table = h.by; in' = h.in'; is = h.lit_is }

  table_of : (t : Lut) → In made.luts t → IsTableOf g k t
  table_of t i = grind (arith, cases_eq, same_Some, leaves_zero, cases_lt, kind_there, regular_leaves, leaves_source, leaves_and)

  -- a needed literal of an AND node has its table
  and_lut_of : (l : ℕ) → IsAnd g (l / 2) → IsMarked roots a.cuts l → (o : Option (List ℕ)) → cut_at a.cuts (l / 2) ≡ o → IsSome o → HasLut made.luts l
  and_lut_of l and needed None e s = absurd (false≢true s)
  and_lut_of l and needed (Some c) e s = has_lut l c (let b : l / 2 < node_count g = and.1 in omega arith) needed (leaves_and g a.cuts l and ∙ e)

  root_has : (l : ℕ) → In roots l → IsPlain g l ⊎ HasLut made.luts l
  root_has l i =
      let b : l < 2 * node_count g = lits l i in
      elim (cases_eq (l / 2) 0) [
        | inl z ↦ inr (has_lut l [] b (root i) (leaves_zero g a.cuts l z))
        | inr d ↦ elim (cases_lt (l / 2) (first_and g)) [
          | inl s ↦ elim (kind_there g (l / 2) d s) [
            | inl r ↦ elim (cases_eq (l % 2) 1) [
              | inl p ↦ inr (has_lut l ((l / 2) ∷ []) b (root i) (leaves_source g a.cuts l d s ∙ (ap (λ o. source_leaves o (l / 2) (l % 2)) r.is ∙ ap (λ t. cond t (Some ((l / 2) ∷ [])) None) (eq-eqb (l % 2) 1 p))))
              | inr p ↦ inl (record { source = r; positive = omega arith })
            ]
            | inr r ↦ inr (has_lut l [] b (root i) (leaves_source g a.cuts l d s ∙ ap (λ o. source_leaves o (l / 2) (l % 2)) r.is))
          ]
          | inr s ↦ (let and : IsAnd g (l / 2) = (s, omega arith) in inr (and_lut_of l and (root i) (cut_at a.cuts (l / 2)) refl (plan.is.roots_in l i and)))
        ]
      ]

  -- a table of a source has no AND node as a leaf
  source_leaf : (t : Lut) (m : ℕ) → IsTableOf g k t → In t.leaves m → t.lit.0 / 2 < first_and g → first_and g ≤ m → ⊥
  source_leaf t m (source r p e) j s low = elim (subst (λ c. In c m) e j) [ inl q ↦ (let f : m ≡ t.lit.0 / 2 = q in absurd (omega arith)) | inr x ↦ x ]
  source_leaf t m (free z e) j s low = subst (λ c. In c m) e j
  source_leaf t m (node and c) j s low = let f : first_and g ≤ t.lit.0 / 2 = and.0 in absurd (omega arith)

  leaf_has : (t : Lut) (m : ℕ) → In made.luts t → In t.leaves m → IsAnd g m → HasLut made.luts (2 * m)
  leaf_has t m i j and =
      let half : (2 * m) / 2 ≡ m = omega arith in
      elim (cases_lt (t.lit.0 / 2) (first_and g)) [
        | inl s ↦ absurd (source_leaf t m (table_of t i) j s and.0)
        | inr s ↦ (
            let at : cut_at a.cuts (t.lit.0 / 2) ≡ Some t.leaves = sym (leaves_and g a.cuts t.lit.0 (s, omega arith)) ∙ ((a.tables.only t i).1) in
            and_lut_of (2 * m) (subst (λ n. IsAnd g n) (sym half) and) (leaf t.leaves m (cut_in a.cuts (t.lit.0 / 2) t.leaves at) j refl) (cut_at a.cuts ((2 * m) / 2)) refl
            (subst (λ n. IsSome (cut_at a.cuts n)) (sym half) (plan.is.leaves_in (t.lit.0 / 2) m t.leaves at j and)))
      ]

  pub mapping_is : IsMapping g k roots made.luts made.bits
  mapping_is = search (rules, table_of, root_has, leaf_has)

  -- whence a chosen cut: the node is a root's, or a leaf of another
  reader_needed : (n r : ℕ) → FromChoice g (choice_of a.rule g a.rows label roots a.flows) (need (depths_of a.rule g a.rows label roots a.flows)) n r → (l : ℕ) × (l / 2 ≡ n) × IsMarked roots a.cuts l
  reader_needed n r f =
      let c : List ℕ = choice_of a.rule g a.rows label roots a.flows f.reader f.depth in
      let at : cut_at a.cuts f.reader ≡ Some c = a.plan.chosen f.reader ∙ cover_at g (choice_of a.rule g a.rows label roots a.flows) (depths_of a.rule g a.rows label roots a.flows) f.reader (Some f.depth) f.and.0 f.needed in
      (2 * n, omega arith, leaf c n (cut_in a.cuts f.reader c at) f.leaf refl)

  cut_needed_of : (n : ℕ) (c : List ℕ) (o : Option ℕ) → first_and g ≤ n → cut_at a.cuts n ≡ Some c → need (depths_of a.rule g a.rows label roots a.flows) n ≡ o → (l : ℕ) × (l / 2 ≡ n) × IsMarked roots a.cuts l
  cut_needed_of n c None b e q = absurd (none-some c (sym (a.plan.chosen n ∙ cover_at g (choice_of a.rule g a.rows label roots a.flows) (depths_of a.rule g a.rows label roots a.flows) n None b q) ∙ e))
  cut_needed_of n c (Some r) b e q = elim (a.plan.schedule.whence n r q) [ inl f ↦ (f.root, f.node, root f.is_root) | inr f ↦ reader_needed n r f ]

  node_has : (n : ℕ) (c : List ℕ) → cut_at a.cuts n ≡ Some c → HasNode made.luts n c
  node_has n c e =
      let q = cut_needed_of n c (need (depths_of a.rule g a.rows label roots a.flows) n) ((plan.is.cuts n c e).0).0 e refl in
      let and_l : IsAnd g (q.0 / 2) = subst (λ i. IsAnd g i) (sym q.1) ((plan.is.cuts n c e).0) in
      let h : HasTable made.luts q.0 c = a.tables.all q.0 c (let b : q.0 / 2 < node_count g = and_l.1 in omega arith) q.2 (leaves_and g a.cuts q.0 and_l ∙ subst (λ i. cut_at a.cuts i ≡ Some c) (sym q.1) e) in
      record { table = h.by; in' = h.in'; node = ap (λ i. i / 2) h.lit_is ∙ q.1; leaves = h.leaves_are }

  pub least_is : IsLeast g k roots made.luts (target g label roots)
  least_is = search (rules, leaves_and, node_has)
