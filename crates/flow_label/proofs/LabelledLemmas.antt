-- Labels and low cuts, node by node, are least heights in the end.
use Rattle.flow_label.proofs.Common.{◌≡◌, ℕ, ◌+◌, ◌<◌, ◌≤◌, List, [], ◌∷◌, ◌++◌, length, get_or, refl, sym, ◌∙◌, subst, inl, inr, ◌⊎◌, arith, cases_lt, length-append, get_or_push, get_or_past, get_or-append, Aig, first_and, node_count, IsAnd, In, height, label_at, rules, cases_order, AreLeastHeights, height_same, height_bound, least_heights_once, IsLabelled, AreLabelledTo, FlowValue, label_of, low_cut_of, AreLowCuts, HasOneLabelling}

-- no nodes
pub labelled_none : (g : Aig) (k : ℕ) → AreLabelledTo g k 0 (record { labels = []; cuts = [] })
labelled_none g k = record { count = refl; cut_count = refl; sources = λ m l. refl; each = λ m l and. absurd (omega arith); low = λ m. omega arith }

-- one more node
module _ (g : Aig) (k n : ℕ) (labels : List ℕ) (cuts : List (List ℕ)) (x : ℕ) (c : List ℕ) (w : AreLabelledTo g k n (record { labels = labels; cuts = cuts })) (leaf : (m : ℕ) → In c m → m < n) (bound : x ≤ n) where
  label_old : (m : ℕ) → m < n → label_at (labels ++ x ∷ []) m ≡ label_at labels m
  label_old m l = get_or-append labels (x ∷ []) 0 m (let e : length labels ≡ n = w.count in omega arith)

  label_new : (m : ℕ) → n ≡ m → label_at (labels ++ x ∷ []) m ≡ x
  label_new m e = get_or_push labels x 0 m (w.count ∙ e)

  cut_old : (m : ℕ) → m < n → get_or (cuts ++ c ∷ []) m [] ≡ get_or cuts m []
  cut_old m l = get_or-append cuts (c ∷ []) [] m (let e : length cuts ≡ n = w.cut_count in omega arith)

  cut_new : (m : ℕ) → n ≡ m → get_or (cuts ++ c ∷ []) m [] ≡ c
  cut_new m e = get_or_push cuts c [] m (w.cut_count ∙ e)

  height_old : (d : List ℕ) → ((m : ℕ) → In d m → m < n) → height (label_at (labels ++ x ∷ [])) d ≡ height (label_at labels) d
  height_old d below = height_same (label_at (labels ++ x ∷ [])) (label_at labels) d (λ m i. label_old m (below m i))

  -- a label and a cut over the labels before are so over those with one more
  labelled_more : (m y : ℕ) (d : List ℕ) → m ≤ n → IsLabelled g k m (label_at labels) y d → IsLabelled g k m (label_at (labels ++ x ∷ [])) y d
  labelled_more m y d l is = search (rules, height_old)

  low_push : (m : ℕ) → (m ≡ n) ⊎ ((m < n) ⊎ (n < m)) → label_at (labels ++ x ∷ []) m ≤ m
  low_push m (inl q) = let a : label_at (labels ++ x ∷ []) m ≡ x = label_new m (sym q) in omega arith
  low_push m (inr (inl l)) = let a : label_at (labels ++ x ∷ []) m ≡ label_at labels m = label_old m l in let b : label_at labels m ≤ m = w.low m in omega arith
  low_push m (inr (inr l)) = let e : length labels ≡ n = w.count in let b : length (labels ++ x ∷ []) ≡ length labels + 1 = length-append labels (x ∷ []) in let a : label_at (labels ++ x ∷ []) m ≡ 0 = get_or_past (labels ++ x ∷ []) m 0 (omega arith) in omega arith

  source_push : (n < first_and g → x ≡ 0) → (m : ℕ) → m < first_and g → (m ≡ n) ⊎ ((m < n) ⊎ (n < m)) → label_at (labels ++ x ∷ []) m ≡ 0
  source_push at m s (inl q) = label_new m (sym q) ∙ at (omega arith)
  source_push at m s (inr (inl l)) = label_old m l ∙ w.sources m s
  source_push at m s (inr (inr l)) = let e : length labels ≡ n = w.count in let b : length (labels ++ x ∷ []) ≡ length labels + 1 = length-append labels (x ∷ []) in get_or_past (labels ++ x ∷ []) m 0 (omega arith)

  pushed : (n < first_and g → x ≡ 0) → (IsAnd g n → IsLabelled g k n (label_at labels) x c) → AreLabelledTo g k (n + 1) (record { labels = labels ++ x ∷ []; cuts = cuts ++ c ∷ [] })
  pushed at_source at_node = record {
    count = (let e : length labels ≡ n = w.count in let a : length (labels ++ x ∷ []) ≡ length labels + 1 = length-append labels (x ∷ []) in omega arith);
    cut_count = (let e : length cuts ≡ n = w.cut_count in let a : length (cuts ++ c ∷ []) ≡ length cuts + 1 = length-append cuts (c ∷ []) in omega arith);
    sources = λ m s. source_push at_source m s (cases_order m n);
    each = λ m l and. elim (cases_lt m n) [
      | inl o ↦ subst (λ y. IsLabelled g k m (label_at (labels ++ x ∷ [])) y (get_or (cuts ++ c ∷ []) m [])) (sym (label_old m o)) (subst (λ d. IsLabelled g k m (label_at (labels ++ x ∷ [])) (label_at labels m) d) (sym (cut_old m o)) (labelled_more m (label_at labels m) (get_or cuts m []) (omega arith) (w.each m o and)))
      | inr o ↦ (let e : n ≡ m = omega arith in
          subst (λ y. IsLabelled g k m (label_at (labels ++ x ∷ [])) y (get_or (cuts ++ c ∷ []) m [])) (sym (label_new m e)) (subst (λ d. IsLabelled g k m (label_at (labels ++ x ∷ [])) x d) (sym (cut_new m e)) (labelled_more m x c (omega arith) (subst (λ i. IsLabelled g k i (label_at labels) x c) e (at_node (subst (λ i. IsAnd g i) (sym e) and))))))
    ];
    low = λ m. low_push m (cases_order m n);
  }

-- a source
pub labelled_source : (g : Aig) (k n : ℕ) (labels : List ℕ) (cuts : List (List ℕ)) → n < first_and g → AreLabelledTo g k n (record { labels = labels; cuts = cuts }) → AreLabelledTo g k (n + 1) (record { labels = labels ++ 0 ∷ []; cuts = cuts ++ [] ∷ [] })
labelled_source g k n labels cuts s w = pushed g k n labels cuts 0 [] w (λ m i. absurd i) (omega arith) (λ _. refl) (λ and. absurd (let a : first_and g ≤ n = and.0 in omega arith))

-- a label is no more than its node
pub label_low : (g : Aig) (k n : ℕ) (labels : List ℕ) (cuts : List (List ℕ)) (x : ℕ) (c : List ℕ) → AreLabelledTo g k n (record { labels = labels; cuts = cuts }) → IsLabelled g k n (label_at labels) x c → x ≤ n
label_low g k n labels cuts x c w is = let h : height (label_at labels) c ≤ n = height_bound (label_at labels) c n (λ m i. (is.cut.below m i).0) w.low in let e : height (label_at labels) c ≡ x = is.met in omega arith

-- an AND node
pub labelled_node : (g : Aig) (k n : ℕ) (labels : List ℕ) (cuts : List (List ℕ)) (x : ℕ) (c : List ℕ) → first_and g ≤ n → AreLabelledTo g k n (record { labels = labels; cuts = cuts }) → IsLabelled g k n (label_at labels) x c
    → AreLabelledTo g k (n + 1) (record { labels = labels ++ x ∷ []; cuts = cuts ++ c ∷ [] })
labelled_node g k n labels cuts x c a w is = pushed g k n labels cuts x c w (λ m i. (is.cut.below m i).0) (label_low g k n labels cuts x c w is) (λ s. absurd (omega arith)) (λ and. is)

-- all nodes
pub labelled_heights : (g : Aig) (k : ℕ) (v : FlowValue) → AreLabelledTo g k (node_count g) v → AreLeastHeights g k (label_of v)
labelled_heights g k v w = record {
  sources = w.sources;
  past = λ n l. get_or_past v.labels n 0 (let e : length v.labels ≡ node_count g = w.count in omega arith);
  least = λ n c and cut. (w.each n and.1 and).least c cut;
  met = λ n and. (low_cut_of v n, (w.each n and.1 and).cut, sym (w.each n and.1 and).met);
}

pub labelled_cuts : (g : Aig) (k : ℕ) (v : FlowValue) → AreLabelledTo g k (node_count g) v → AreLowCuts g k v
labelled_cuts g k v w = record { cut = λ n and. (w.each n and.1 and).cut; met = λ n and. (w.each n and.1 and).met }

pub one_labelling : (g : Aig) (k : ℕ) → HasOneLabelling g k
one_labelling g k = record { once = λ f h a b n. least_heights_once g k f h a b n }
