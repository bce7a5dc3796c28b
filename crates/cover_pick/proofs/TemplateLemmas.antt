-- The depth of the chosen LUTs is the depth of the chosen cuts.
use Rattle.cover_pick.proofs.Common.{◌≡◌, ℕ, suc, ◌*◌, ◌/◌, ◌<◌, ◌≤◌, List, [], ◌∷◌, length, Option, Some, None, refl, sym, ◌∙◌, subst, inl, inr, ◌⊎◌, arith, get_or_past, none-some, cases_lt, Aig, first_and, node_count, IsAnd, In, IsCover, HasDepth, source, no_leaves, table, In-get_or, Rule, Supply, IsServing, CanBeLeaf, choose_one, ltb, cost_of, label_at, lits_of, cheaper_cuts, AreCutsBy, CanChoose, CanMakeTables, target, cut_at, IsPlanned, HasTable, leaves_of, Made, AreMade, IsMarked, root, leaf, IsMade, Choices}
use Rattle.cover_pick.specs.Template.{TableDepth, free, over, TablesWithin}

pub leaves_and : (g : Aig) (cuts : List (Option (List ℕ))) (l : ℕ) → IsAnd g (l / 2) → leaves_of g cuts l ≡ cut_at cuts (l / 2)
leaves_and g cuts l and = grind arith

pub cut_in : (cuts : List (Option (List ℕ))) (n : ℕ) (c : List ℕ) → cut_at cuts n ≡ Some c → In cuts (Some c)
cut_in cuts n c e = elim (cases_lt n (length cuts)) [
  | inl l ↦ subst (λ o. In cuts o) e (In-get_or cuts n None l)
  | inr l ↦ absurd (none-some c (sym (get_or_past cuts n None l) ∙ e))
]

pub in_cut : (cuts : List (Option (List ℕ))) (c : List ℕ) → In cuts (Some c) → (n : ℕ) × (cut_at cuts n ≡ Some c)
in_cut [] c i = elim i [ ]
in_cut (o ∷ os) c (inl e) = (0, sym e)
in_cut (o ∷ os) c (inr i) = let r = in_cut os c i in (suc r.0, r.1)

module _ (g : Aig) (k : ℕ) (roots : List ℕ) (cuts : List (Option (List ℕ))) (made : Made) (is : IsCover g k roots (cut_at cuts))
    (tables : AreMade g cuts (IsMarked roots cuts) (2 * node_count g) made) where
  has_table : (l : ℕ) (c : List ℕ) → IsAnd g (l / 2) → IsMarked roots cuts l → cut_at cuts (l / 2) ≡ Some c → HasTable made.luts l c
  has_table l c and needed e = let b : l / 2 < node_count g = and.1 in tables.all l c (omega arith) needed (leaves_and g cuts l and ∙ e)

  table_cut : (l : ℕ) (c : List ℕ) → IsAnd g (l / 2) → HasTable made.luts l c → cut_at cuts (l / 2) ≡ Some c
  table_cut l c and h = grind arith

  leaf_and : (n m : ℕ) (c : List ℕ) → cut_at cuts n ≡ Some c → In c m → (m < first_and g) ⊎ IsAnd g m
  leaf_and n m c e i =
      let a : n < node_count g = (is.cuts n c e).0.1 in let b : m < n = ((is.cuts n c e).1.below m i).0 in
      elim (cases_lt m (first_and g)) [ inl l ↦ inl l | inr l ↦ inr (l, omega arith) ]

  -- a node's depth under the chosen cuts is the depth of its tables
  pub to_tables : {n d : ℕ} → HasDepth g (cut_at cuts) n d → (l : ℕ) → l / 2 ≡ n → IsAnd g n → IsMarked roots cuts l → TableDepth g made.luts l d
  to_tables (source s) l e and needed = absurd (let a : first_and g ≤ l / 2 = subst (λ i. first_and g ≤ i) (sym e) and.0 in omega arith)
  to_tables (no_leaves at) l e and needed = free (has_table l [] (subst (λ i. IsAnd g i) (sym e) and) needed (subst (λ i. cut_at cuts i ≡ Some []) (sym e) at))
  to_tables {n} (table {d = d} c at sub) l e and needed =
      over {d = d} c (has_table l c (subst (λ i. IsAnd g i) (sym e) and) needed (subst (λ i. cut_at cuts i ≡ Some c) (sym e) at))
      (λ m i b. elim (leaf_and n m c at i) [ inl s ↦ absurd (omega arith) | inr a ↦ to_tables (sub m i) (2 * m) (omega arith) a (leaf c m (cut_in cuts n c at) i refl) ])

  pub from_tables : {l d : ℕ} → TableDepth g made.luts l d → (n : ℕ) → l / 2 ≡ n → IsAnd g n → HasDepth g (cut_at cuts) n d
  from_tables {l} (free h) n e and = no_leaves (subst (λ i. cut_at cuts i ≡ Some []) e (table_cut l [] (subst (λ i. IsAnd g i) (sym e) and) h))
  from_tables {l} (over c h sub) n e and =
      let at : cut_at cuts n ≡ Some c = subst (λ i. cut_at cuts i ≡ Some c) e (table_cut l c (subst (λ i. IsAnd g i) (sym e) and) h) in
      table c at (λ m i. elim (leaf_and n m c at i) [ inl s ↦ source s | inr a ↦ from_tables (sub m i a.0) m (omega arith) a ])

-- the depth of the tables is the target
pub tables_within : (supply : Supply) (g : Aig) (label : ℕ → ℕ) (roots : List ℕ) (made : Made) → IsMade supply g label roots made → TablesWithin g roots made.luts (target g label roots)
tables_within supply g label roots made a = grind (arith, to_tables)

pub tables_exact : (supply : Supply) (g : Aig) (label : ℕ → ℕ) (roots : List ℕ) (made : Made) → IsMade supply g label roots made → (d : ℕ) → TablesWithin g roots made.luts d → target g label roots ≤ d
tables_exact supply g label roots made a d w =
    let p = a.plan.least a.serving.k a.serving.served in
    p.least.least (cut_at a.cuts) d p.is (record { complemented = w.complemented; nodes = λ l i and. from_tables g a.serving.k roots a.cuts made p.is a.tables (w.nodes l i and) (l / 2) refl and })

-- a chosen cut's leaves are AND nodes and regular sources
pub cut_leaves : (rule : Rule) (g : Aig) (rows : List (List (List ℕ))) (label : ℕ → ℕ) (roots flows : List ℕ) (cuts : List (Option (List ℕ))) → IsServing rule g label rows → IsPlanned rule g rows label roots flows (cut_at cuts) → (c : List ℕ) (m : ℕ) → In cuts (Some c) → In c m → CanBeLeaf g m
cut_leaves rule g rows label roots flows cuts t plan c m i j = let r = in_cut cuts c i in (((plan.least t.k t.served).is.cuts r.0 c r.1).1.below m j).1

-- cuts that were chosen can be made tables of, and so can the cheaper of two covers
pub can_make : (rule : Rule) (c : Choices) (flows : List ℕ) (cuts : List (Option (List ℕ))) → CanChoose rule c → AreCutsBy rule c flows cuts → CanMakeTables c.graph.now (lits_of c.roots.now) cuts
can_make rule c flows cuts can are = record { cuts = are.len; roots = can.roots; leaves = cut_leaves rule c.graph.now c.rows.now (label_at c.labels.now) (lits_of c.roots.now) flows cuts can.serving are.plan }

pub can_make_cheaper : (g : Aig) (roots : List ℕ) (xs ys cuts : List (Option (List ℕ))) → CanMakeTables g roots xs → CanMakeTables g roots ys → cuts ≡ cheaper_cuts g xs ys → CanMakeTables g roots cuts
can_make_cheaper g roots xs ys cuts p q e = subst (CanMakeTables g roots) (sym e) (choose_one (CanMakeTables g roots) (ltb (cost_of g (cut_at ys)) (cost_of g (cut_at xs))) ys xs q p)
