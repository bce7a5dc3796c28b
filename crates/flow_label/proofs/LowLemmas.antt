-- The low cuts, node by node, are those of the definition in the end.
use Rattle.flow_label.proofs.Common.{◌≡◌, ℕ, ◌+◌, ◌<◌, ◌≤◌, List, [], ◌∷◌, ◌++◌, length, refl, sym, ◌∙◌, subst, inl, inr, ◌⊎◌, arith, cases_lt, length-append, get_or_push, get_or_past, get_or-append, Aig, AreNormal, first_and, node_count, IsAnd, first, label_at, rules, cases_order, AreLabelledTo, by_walk, by_search, by_join, by_flow, IsLowWith, by_fan_ins, by_lower, HasLowWith, AreLowsTo, low_at, FlowValue, label_of, low_cut_of}
use Rattle.flow_label.specs.Lows.{IsLowOf, fan_ins, joined, ends, nearest, AreLowsOf}
use Rattle.flow_label.proofs.GraphLemmas.{reader_and}
use Rattle.flow_label.proofs.LowSameLemmas.{AgreeBelow, has_same}

-- no nodes
pub lows_none : (g : Aig) (k : ℕ) → AreLowsTo g k 0 (record { labels = []; cuts = [] })
lows_none g k = record { none = λ m n. refl; each = λ m l and. absurd (omega arith) }

-- one more node
module _ (g : Aig) (normal : AreNormal (first_and g) g.pairs) (k n : ℕ) (labels : List ℕ) (cuts : List (List ℕ)) (x : ℕ) (c : List ℕ) (w : AreLabelledTo g k n (record { labels = labels; cuts = cuts })) where
  labels_agree : (m : ℕ) → m ≤ n → AgreeBelow m (label_at labels) (label_at (labels ++ x ∷ []))
  labels_agree m top i l = sym (get_or-append labels (x ∷ []) 0 i (let e : length labels ≡ n = w.count in omega arith))

  cuts_agree : (m : ℕ) → m ≤ n → AgreeBelow m (low_at cuts) (low_at (cuts ++ c ∷ []))
  cuts_agree m top i l = sym (get_or-append cuts (c ∷ []) [] i (let e : length cuts ≡ n = w.cut_count in omega arith))

  low_more : (m y : ℕ) (d : List ℕ) → m ≤ n → HasLowWith g k (label_at labels) (low_at cuts) m y d → HasLowWith g k (label_at (labels ++ x ∷ [])) (low_at (cuts ++ c ∷ [])) m y d
  low_more m y d l is = has_same g normal m (label_at labels) (label_at (labels ++ x ∷ [])) (labels_agree m l) (low_at cuts) (low_at (cuts ++ c ∷ [])) (cuts_agree m l) k y d is

  none_push : ((IsAnd g n → ⊥) → c ≡ []) → ((m : ℕ) → (IsAnd g m → ⊥) → low_at cuts m ≡ []) → (m : ℕ) → (IsAnd g m → ⊥) → (m ≡ n) ⊎ ((m < n) ⊎ (n < m)) → low_at (cuts ++ c ∷ []) m ≡ []
  none_push at was m not_and (inl e) = get_or_push cuts c [] m (w.cut_count ∙ sym e) ∙ at (λ and. not_and (subst (λ i. IsAnd g i) (sym e) and))
  none_push at was m not_and (inr (inl l)) = sym (cuts_agree n (omega arith) m l) ∙ was m not_and
  none_push at was m not_and (inr (inr l)) = let e : length cuts ≡ n = w.cut_count in let a : length (cuts ++ c ∷ []) ≡ length cuts + 1 = length-append cuts (c ∷ []) in get_or_past (cuts ++ c ∷ []) m [] (omega arith)

  lows_push : AreLowsTo g k n (record { labels = labels; cuts = cuts }) → ((IsAnd g n → ⊥) → c ≡ []) → (IsAnd g n → HasLowWith g k (label_at labels) (low_at cuts) n x c) → AreLowsTo g k (n + 1) (record { labels = labels ++ x ∷ []; cuts = cuts ++ c ∷ [] })
  lows_push was at_source at_node = record {
    none = λ m not_and. none_push at_source was.none m not_and (cases_order m n);
    each = λ m l and. elim (cases_lt m n) [
      | inl o ↦ subst (λ y. HasLowWith g k (label_at (labels ++ x ∷ [])) (low_at (cuts ++ c ∷ [])) m y (low_at (cuts ++ c ∷ []) m)) (labels_agree n (omega arith) m o)
          (subst (λ d. HasLowWith g k (label_at (labels ++ x ∷ [])) (low_at (cuts ++ c ∷ [])) m (label_at labels m) d) (cuts_agree n (omega arith) m o) (low_more m (label_at labels m) (low_at cuts m) (omega arith) (was.each m o and)))
      | inr o ↦ (let e : n ≡ m = omega arith in
          subst (λ y. HasLowWith g k (label_at (labels ++ x ∷ [])) (low_at (cuts ++ c ∷ [])) m y (low_at (cuts ++ c ∷ []) m)) (sym (get_or_push labels x 0 m (w.count ∙ e)))
          (subst (λ d. HasLowWith g k (label_at (labels ++ x ∷ [])) (low_at (cuts ++ c ∷ [])) m x d) (sym (get_or_push cuts c [] m (w.cut_count ∙ e)))
          (low_more m x c (omega arith) (subst (λ i. HasLowWith g k (label_at labels) (low_at cuts) i x c) e (at_node (subst (λ i. IsAnd g i) (sym e) and))))))
    ];
  }

-- a source
pub lows_source : (g : Aig) → AreNormal (first_and g) g.pairs → (k n : ℕ) (labels : List ℕ) (cuts : List (List ℕ)) → n < first_and g → AreLabelledTo g k n (record { labels = labels; cuts = cuts }) → AreLowsTo g k n (record { labels = labels; cuts = cuts })
    → AreLowsTo g k (n + 1) (record { labels = labels ++ 0 ∷ []; cuts = cuts ++ [] ∷ [] })
lows_source g normal k n labels cuts s w was = lows_push g normal k n labels cuts 0 [] w was (λ _. refl) (λ and. absurd (let a : first_and g ≤ n = and.0 in omega arith))

-- an AND node
pub lows_node : (g : Aig) → AreNormal (first_and g) g.pairs → (k n : ℕ) (labels : List ℕ) (cuts : List (List ℕ)) (x : ℕ) (c : List ℕ) → AreLabelledTo g k n (record { labels = labels; cuts = cuts }) → AreLowsTo g k n (record { labels = labels; cuts = cuts })
    → HasLowWith g k (label_at labels) (low_at cuts) n x c → AreLowsTo g k (n + 1) (record { labels = labels ++ x ∷ []; cuts = cuts ++ c ∷ [] })
lows_node g normal k n labels cuts x c w was is = lows_push g normal k n labels cuts x c w was (λ not_and. absurd (not_and (reader_and g _ n (first is.is.pair is.is.node refl)))) (λ and. is)

-- the label of the node as its own number
low_of : (g : Aig) (k : ℕ) (label : ℕ → ℕ) (lows : ℕ → List ℕ) (n p : ℕ) (c : List ℕ) → IsLowWith g k label lows n p (label n) c → IsLowOf g k label lows n p c
low_of g k label lows n p c (by_fan_ins a i) = fan_ins a i
low_of g k label lows n p c (by_lower e s (by_join j l)) = joined e s j l
low_of g k label lows n p c (by_lower e s (by_flow w (by_walk i l))) = ends e s w i l
low_of g k label lows n p c (by_lower e s (by_flow w (by_search m i))) = nearest e s w m i

-- all nodes
pub lows_are : (g : Aig) (k : ℕ) (v : FlowValue) → AreLowsTo g k (node_count g) v → AreLowsOf g k (label_of v) (low_cut_of v)
lows_are g k v w = search (rules, low_of)
