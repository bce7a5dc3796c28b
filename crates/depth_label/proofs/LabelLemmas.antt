-- The labels of the nodes are the least heights of their cuts, node by node.
use Rattle.depth_label.proofs.Common.{◌≡◌, ℕ, ◌+◌, ◌-◌, ◌/◌, ◌<◌, ◌≤◌, List, [], ◌∷◌, ◌++◌, length, Some, None, refl, sym, ap, ◌∙◌, subst, inl, inr, ◌⊎◌, arith, get_or, length-append, get_or_push, get_or_past, slice_get-get_or, cases_lt, cases_order, Aig, first_and, node_count, IsAnd, IsNormal, AreNormal, IsNode, In, AreMinimal, member, fan_ins, Covers, AreRows, row_at, contains_one, height, height_same, height_bound, LabelsValue, label_at, label_of, best_of, IsCutTable, IsBestCut, AreLabelled, AreLeastDepths, AreLeastHeights, lowest, lowest_cut, AreLabelledTo}
use Rattle.std.specs.List.{slice_get}
use Rattle.std.proofs.Math.ListN.{get_or-append}
use Rattle.aig_core.specs.declared.lit.Pair.{Pair}
use Rattle.cut_sets.proofs.LeastHeightLemmas.{least_depths}
use Rattle.depth_label.proofs.DepthLemmas.{rows_least_heights}
use Rattle.depth_label.proofs.LowestLemmas.{lowest_best, good_low, lowest_cut_same, lowest_leaf}

-- a node with a pair has a cut
some_cut : (g : Aig) (k n : ℕ) (p : Pair) (cs : List (List ℕ)) → AreNormal (first_and g) g.pairs → IsAnd g n → 2 ≤ k → IsNode g p n → IsNormal n p → AreMinimal g k n cs → Covers cs (p.x.0 / 2 ∷ p.y.0 / 2 ∷ [])
some_cut g k n p cs all and two node normal m =
    let x : p.x.0 / 2 < p.y.0 / 2 = normal.ordered in
    let y : p.y.0 / 2 < n = normal.below in
    elim ((contains_one g all k n cs and m).each (p.x.0 / 2 ∷ p.y.0 / 2 ∷ []) ((λ i j. elim j [ inl e ↦ (let f : i ≡ p.y.0 / 2 = e in omega arith) | inr b ↦ absurd b ]), ((λ i j. absurd j), tt)) two
    (fan_ins p node (member (inl refl)) (member (inr (inl refl))))) [
      | inl i ↦ elim i [ inl e ↦ absurd (let f : n ≡ p.x.0 / 2 = e in omega arith) | inr j ↦ elim j [ inl e ↦ absurd (let f : n ≡ p.y.0 / 2 = e in omega arith) | inr b ↦ absurd b ] ]
      | inr c ↦ c
    ]

-- an AND node has a cut
pub has_cut : (g : Aig) (rows : List (List (List ℕ))) (n : ℕ) → IsCutTable g rows → AreNormal (first_and g) g.pairs → IsAnd g n → (c : List ℕ) × In (row_at rows n) c
has_cut g rows n t normal and =
    let d : Pair = record { x = record { 0 = 0 }; y = record { 0 = 0 } } in
    let a : first_and g ≤ n = and.0 in
    let b : n < node_count g = and.1 in
    let i : ℕ = n - first_and g in
    let is : slice_get g.pairs i ≡ Some (get_or g.pairs i d) = slice_get-get_or g.pairs i d (omega arith) in
    let e : first_and g + i ≡ n = omega arith in
    let ok : IsNormal n (get_or g.pairs i d) = subst (λ k. IsNormal k (get_or g.pairs i d)) e (normal.each i (get_or g.pairs i d) is) in
    let r : Covers (row_at rows n) (((get_or g.pairs i d).x.0) / 2 ∷ ((get_or g.pairs i d).y.0) / 2 ∷ []) = some_cut g t.k n (get_or g.pairs i d) (row_at rows n) normal and t.two (record { above = a; is = is }) ok (t.are.each n b and) in
    (r.by, r.in')

-- a node's cuts have their leaves below it
pub leaves_below : (g : Aig) (rows : List (List (List ℕ))) (n : ℕ) → IsCutTable g rows → IsAnd g n → (c : List ℕ) (m : ℕ) → In (row_at rows n) c → In c m → m < n
leaves_below g rows n t and c m i j = (((t.are.each n and.1 and).only c i).cut.below m j).0

-- one more node
module _ (labels : List ℕ) (best : List (List ℕ)) (x : ℕ) (b : List ℕ) (n : ℕ) (count : length labels ≡ n) (best_count : length best ≡ n) where
  pushed : LabelsValue
  pushed = record { labels = labels ++ x ∷ []; best = best ++ b ∷ [] }

  label_old : (m : ℕ) → m < n → label_at (labels ++ x ∷ []) m ≡ label_at labels m
  label_old m l = get_or-append labels (x ∷ []) 0 m (omega arith)

  label_new : (m : ℕ) → n ≡ m → label_at (labels ++ x ∷ []) m ≡ x
  label_new m e = get_or_push labels x 0 m (count ∙ e)

  best_old : (m : ℕ) → m < n → get_or (best ++ b ∷ []) m [] ≡ get_or best m []
  best_old m l = get_or-append best (b ∷ []) [] m (omega arith)

  best_new : (m : ℕ) → n ≡ m → get_or (best ++ b ∷ []) m [] ≡ b
  best_new m e = get_or_push best b [] m (best_count ∙ e)

  height_old : (c : List ℕ) → ((m : ℕ) → In c m → m < n) → height (label_at (labels ++ x ∷ [])) c ≡ height (label_at labels) c
  height_old c below = height_same (label_at (labels ++ x ∷ [])) (label_at labels) c (λ m i. label_old m (below m i))

  low_push : x ≤ n → ((m : ℕ) → label_at labels m ≤ m) → (m : ℕ) → (m ≡ n) ⊎ ((m < n) ⊎ (n < m)) → label_at (labels ++ x ∷ []) m ≤ m
  low_push le low m (inl q) = let a : label_at (labels ++ x ∷ []) m ≡ x = label_new m (sym q) in omega arith
  low_push le low m (inr (inl l)) = let a : label_at (labels ++ x ∷ []) m ≡ label_at labels m = label_old m l in let c : label_at labels m ≤ m = low m in omega arith
  low_push le low m (inr (inr l)) = let c : length (labels ++ x ∷ []) ≡ length labels + 1 = length-append labels (x ∷ []) in let a : label_at (labels ++ x ∷ []) m ≡ 0 = get_or_past (labels ++ x ∷ []) m 0 (omega arith) in omega arith

-- what is known of the best cut of the next node
record IsNext (g : Aig) (cuts : ℕ → List (List ℕ)) (n : ℕ) (labels : List ℕ) (b : List ℕ) : Type 0 where
  at_source : n < first_and g → b ≡ []
  at_node : IsAnd g n → b ≡ lowest_cut (label_at labels) (cuts n)

next_leaf : (g : Aig) (cuts : ℕ → List (List ℕ)) (n : ℕ) (labels : List ℕ) (b : List ℕ) → n < node_count g → ((m : ℕ) → IsAnd g m → (c : List ℕ) (i : ℕ) → In (cuts m) c → In c i → i < m)
    → IsNext g cuts n labels b → (m : ℕ) → In b m → m < n
next_leaf g cuts n labels b inside below next m i = elim (cases_lt n (first_and g)) [
  | inl s ↦ absurd (subst (λ c. In c m) (next.at_source s) i)
  | inr a ↦ lowest_leaf (label_at labels) (cuts n) n (below n (a, inside)) (lowest (label_at labels) None (cuts n)) refl m (subst (λ c. In c m) (next.at_node (a, inside)) i)
]

-- a best cut so far has its leaves below its node
old_leaf : (g : Aig) (cuts : ℕ → List (List ℕ)) (n : ℕ) (v : LabelsValue) → n ≤ node_count g → ((m : ℕ) → IsAnd g m → (c : List ℕ) (i : ℕ) → In (cuts m) c → In c i → i < m)
    → AreLabelledTo g cuts n v → (m : ℕ) → m < n → (i : ℕ) → In (best_of v m) i → i < m
old_leaf g cuts n v inside below w m l = next_leaf g cuts m v.labels (best_of v m) (omega arith) below (record { at_source = w.at_sources m l; at_node = w.at_nodes m l })

-- no label is above its node
pub next_low : (g : Aig) (cuts : ℕ → List (List ℕ)) (n : ℕ) (v : LabelsValue) (b : List ℕ) → n < node_count g → ((m : ℕ) → IsAnd g m → (c : List ℕ) (i : ℕ) → In (cuts m) c → In c i → i < m)
    → AreLabelledTo g cuts n v → (n < first_and g → b ≡ []) → (IsAnd g n → b ≡ lowest_cut (label_of v) (cuts n)) → height (label_of v) b ≤ n
next_low g cuts n v b inside below w at_source at_node = height_bound (label_of v) b n (next_leaf g cuts n v.labels b inside below (record { at_source = at_source; at_node = at_node })) w.low

pub labels_push : (g : Aig) (cuts : ℕ → List (List ℕ)) (n : ℕ) (labels : List ℕ) (best : List (List ℕ)) (b : List ℕ) → n < node_count g → ((m : ℕ) → IsAnd g m → (c : List ℕ) (i : ℕ) → In (cuts m) c → In c i → i < m)
    → AreLabelledTo g cuts n (record { labels = labels; best = best }) → (n < first_and g → b ≡ []) → (IsAnd g n → b ≡ lowest_cut (label_at labels) (cuts n))
    → AreLabelledTo g cuts (n + 1) (record { labels = labels ++ height (label_at labels) b ∷ []; best = best ++ b ∷ [] })
labels_push g cuts n labels best b inside below w at_source at_node =
    let v : LabelsValue = record { labels = labels; best = best } in
    let x : ℕ = height (label_at labels) b in
    let e : length labels ≡ n = w.count in
    let f : length best ≡ n = w.best_count in
    let next : IsNext g cuts n labels b = record { at_source = at_source; at_node = at_node } in
    let leaf : (m : ℕ) → In b m → m < n = next_leaf g cuts n labels b inside below next in
    let agree : (m : ℕ) → m ≤ n → IsAnd g m → lowest_cut (label_at (labels ++ x ∷ [])) (cuts m) ≡ lowest_cut (label_at labels) (cuts m) =
    (λ m l and. lowest_cut_same (label_at (labels ++ x ∷ [])) (label_at labels) (cuts m)
    (λ c i. height_old labels best x b n e f c (λ j q. let r : j < m = below m and c j i q in omega arith))) in
    record {
      count = (let a : length (labels ++ x ∷ []) ≡ length labels + 1 = length-append labels (x ∷ []) in omega arith);
      best_count = (let a : length (best ++ b ∷ []) ≡ length best + 1 = length-append best (b ∷ []) in omega arith);
      met = λ m l. elim (cases_lt m n) [
        | inl s ↦ label_old labels best x b n e f m s ∙ (w.met m s ∙ (sym (height_old labels best x b n e f (best_of v m) (λ i q. let r : i < m = old_leaf g cuts n v (omega arith) below w m s i q in omega arith))
            ∙ ap (λ c. height (label_at (labels ++ x ∷ [])) c) (sym (best_old labels best x b n e f m s))))
        | inr s ↦ (let q : n ≡ m = omega arith in label_new labels best x b n e f m q ∙ (sym (height_old labels best x b n e f b leaf) ∙ ap (λ c. height (label_at (labels ++ x ∷ [])) c) (sym (best_new labels best x b n e f m q))))
      ];
      at_sources = λ m l s. elim (cases_lt m n) [
        | inl q ↦ best_old labels best x b n e f m q ∙ w.at_sources m q s
        | inr q ↦ best_new labels best x b n e f m (omega arith) ∙ at_source (omega arith)
      ];
      at_nodes = λ m l and. elim (cases_lt m n) [
        | inl q ↦ best_old labels best x b n e f m q ∙ (w.at_nodes m q and ∙ sym (agree m (omega arith) and))
        | inr q ↦ (let r : m ≡ n = omega arith in best_new labels best x b n e f m (omega arith) ∙ (subst (λ i. b ≡ lowest_cut (label_at labels) (cuts i)) (sym r) (at_node (subst (λ i. IsAnd g i) r and)) ∙ sym (agree m (omega arith) and)))
      ];
      low = λ m. low_push labels best x b n e f (height_bound (label_at labels) b n leaf w.low) w.low m (cases_order m n);
    }

-- all nodes
pub labels_all : (g : Aig) (rows : List (List (List ℕ))) (v : LabelsValue) → IsCutTable g rows → AreNormal (first_and g) g.pairs → AreLabelledTo g (row_at rows) (node_count g) v → AreLabelled g rows v
labels_all g rows v t normal w =
    let best : (n : ℕ) → IsAnd g n → IsBestCut (label_of v) (row_at rows n) (best_of v n) =
    (λ n and. let s = has_cut g rows n t normal and in
    subst (λ c. IsBestCut (label_of v) (row_at rows n) c) (sym (w.at_nodes n and.1 and)) (lowest_best (label_of v) (row_at rows n) s.0 (t.are.each n and.1 and).ordered s.1)) in
    let met : (n : ℕ) → IsAnd g n → label_of v n ≡ height (label_of v) (best_of v n) = (λ n and. w.met n and.1) in
    record {
      labels = record {
        sources = λ n l. w.met n (omega arith) ∙ ap (λ c. height (label_of v) c) (w.at_sources n (omega arith) l);
        past = λ n l. let c : length v.labels ≡ node_count g = w.count in get_or_past v.labels n 0 (omega arith);
        least = λ n c and i. let a : label_of v n ≡ height (label_of v) (best_of v n) = met n and in let b : height (label_of v) (best_of v n) ≤ height (label_of v) c = good_low (label_of v) (best_of v n) c ((best n and).first c i) in omega arith;
        met = λ n and. (best_of v n, (best n and).one, met n and);
      };
      best = best;
      met = met;
    }

-- A label is the least height of the node's cuts.
pub labels_heights : (g : Aig) (rows : List (List (List ℕ))) (v : LabelsValue) (k : ℕ) → AreNormal (first_and g) g.pairs → AreLabelled g rows v → AreRows g k (node_count g) rows → AreLeastHeights g k (label_of v)
labels_heights g rows v k normal w are = rows_least_heights g normal k rows (label_of v) are w.labels

-- A node's label is at most its depth in every cover that has it.
pub labels_least : (g : Aig) (rows : List (List (List ℕ))) (v : LabelsValue) (k : ℕ) → AreNormal (first_and g) g.pairs → AreLabelled g rows v → AreRows g k (node_count g) rows → AreLeastDepths g k (label_of v)
labels_least g rows v k normal w are = least_depths g k (label_of v) (labels_heights g rows v k normal w are)
