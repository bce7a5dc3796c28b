-- The cuts that come from the fan-ins of a node alone.
use Rattle.flow_label.proofs.Common.{◌≡◌, ℕ, suc, ◌+◌, ◌-◌, ◌/◌, ◌<◌, ◌≤◌, List, [], ◌∷◌, length, refl, sym, ap, subst, inl, inr, arith, cases_lt, max, Aig, first_and, node_count, IsAnd, IsNode, IsSource, AreNormal, Regular, Pair, In, IsAscending, Blocks, CanBeLeaf, IsCut, fan_ins, member, IsFanIn, first, second, IsLive, AreKnownTo, IsLowCut, IsHigh, union, height, rules, same_pair, Blocks-within, regular_blocked, height_le, height_member, height_none, fan_in_low, put, put_at, In-union, union_left, union_right, IsAscending-union, IsLabelled, AreLabelledTo, FlowValue, label_of, low_cut_of}
use Rattle.flow_label.specs.Parts.{IsOwnPart, live, free, IsLowPart, own, low, IsGreatest, IsFanInCut}
use Rattle.flow_label.proofs.GraphLemmas.{fan_in_below, blocked_below, reader_and, free_or_live, live_leaf}

-- labels and cuts that are known up to a node are known to its search
pub known_to : (g : Aig) (k n : ℕ) (v : FlowValue) → AreNormal (first_and g) g.pairs → n ≤ node_count g → AreLabelledTo g k n v → AreKnownTo g n (label_of v)
known_to g k n v normal top w = record {
  sources = w.sources;
  rising = λ m u l f.
      let and : IsAnd g u = reader_and g m u f in
      let below : m < u = fan_in_below g m u normal f in
      let is = w.each u l and in
      let a : label_of v m ≤ height (label_of v) (low_cut_of v u) = fan_in_low g normal k (label_of v) m u (low_cut_of v u) f is.cut (omega arith) (w.sources m) (λ d m_and cut. (w.each m (omega arith) m_and).least d cut) below in
      let e : height (label_of v) (low_cut_of v u) ≡ label_of v u = is.met in omega arith;
  free = λ m l and z. grind (arith, height_none);
}

put_length : (x : ℕ) (c : List ℕ) → length (put x c) ≤ suc (length c)
put_length x [] = omega arith
put_length x (y ∷ ys) = put_at (λ s. length s ≤ suc (length (y ∷ ys))) x y ys (λ a. omega arith) (λ e. omega arith) (λ a. let r : length (put x ys) ≤ suc (length ys) = put_length x ys in omega arith)

union_length : (x y : List ℕ) → length (union x y) ≤ length x + length y
union_length [] y = omega arith
union_length (x ∷ xs) y = let a : length (union xs (put x y)) ≤ length xs + length (put x y) = union_length xs (put x y) in let b : length (put x y) ≤ suc (length y) = put_length x y in omega arith

own_length : (g : Aig) (label : ℕ → ℕ) (m : ℕ) (c : List ℕ) → IsOwnPart g label m c → length c ≤ 1
own_length g label m c (live l e) = let q : length c ≡ 1 = ap length e in omega arith
own_length g label m c (free never e) = let q : length c ≡ 0 = ap length e in omega arith

own_live : (g : Aig) (label : ℕ → ℕ) (m : ℕ) (c : List ℕ) (x : ℕ) → IsOwnPart g label m c → In c x → IsLive g label m
own_live g label m c x (live l e) i = l
own_live g label m c x (free never e) i = absurd (subst (λ d. In d x) e i)

-- what a fan-in gives to a cut of n below the height h
record IsPart (g : Aig) (n h : ℕ) (label : ℕ → ℕ) (m : ℕ) (c : List ℕ) : Type 0 where
  ascending : IsAscending c
  below : (x : ℕ) → In c x → (x < n) × CanBeLeaf g x × (label x + 1 < h)
  blocks : Blocks g c m

-- the parts of both fan-ins are a low cut
parts_cut : (g : Aig) (k n h : ℕ) (label : ℕ → ℕ) (p : Pair) (x y : List ℕ) → IsNode g p n → IsPart g n h label (p.x.0 / 2) x → IsPart g n h label (p.y.0 / 2) y → length (union x y) ≤ k → IsLowCut g k n h label (union x y)
parts_cut g k n h label p x y node a b few =
    let of : (m : ℕ) → In (union x y) m → (m < n) × CanBeLeaf g m × (label m + 1 < h) = (λ m i. elim (In-union x y m i) [ inl j ↦ a.below m j | inr j ↦ b.below m j ]) in
    record {
      cut = record {
        ascending = IsAscending-union x y b.ascending;
        few = few;
        below = λ m i. let r = of m i in (r.0, r.1);
        blocks = fan_ins p node (Blocks-within g x (union x y) (λ m i. union_left x y m i) a.blocks) (Blocks-within g y (union x y) (λ m i. union_right x y m i) b.blocks);
      };
      low = λ m i. (of m i).2;
    }

module _ (g : Aig) (k n : ℕ) (v : FlowValue) (normal : AreNormal (first_and g) g.pairs) (and : IsAnd g n) (w : AreLabelledTo g k n v) where
  known : AreKnownTo g n (label_of v)
  known = known_to g k n v normal (let t : n < node_count g = and.1 in omega arith) w

  -- a fan-in as a cut
  own_is : (h m : ℕ) (c : List ℕ) → m < n → label_of v m + 1 < h → IsOwnPart g (label_of v) m c → IsPart g n h (label_of v) m c
  own_is h m c below small (live l e) = rw e (record {
    ascending = ((λ x i. absurd i), tt);
    below = λ x i. elim i [ inl q ↦ subst (λ y. (y < n) × CanBeLeaf g y × (label_of v y + 1 < h)) (sym q) (below, live_leaf g (label_of v) m l, small) | inr b ↦ absurd b ];
    blocks = member (inl refl);
  })
  own_is h m c below small (free never e) = grind (arith, free_or_live, known)

  -- a node with a label is an AND node
  labelled_and : (m : ℕ) → m < n → 1 ≤ label_of v m → IsAnd g m
  labelled_and m below some = search (rules, cases_lt)

  -- the low part of a fan-in
  low_is : (p m : ℕ) (c : List ℕ) → m < n → 1 ≤ p → label_of v m ≤ p → IsLowPart g (label_of v) (low_cut_of v) p m c → IsPart g n (p + 1) (label_of v) m c
  low_is p m c below some top (own l o) = own_is (p + 1) m c below (omega arith) o
  low_is p m c below some top (low l e) = grind (arith, labelled_and, height_member)

  -- no cut of the node is lower than the label of a fan-in
  cut_high : (m : ℕ) (d : List ℕ) → IsFanIn g m n → IsCut g k n d → label_of v m ≤ height (label_of v) d
  cut_high m d f cut =
      let below : m < n = fan_in_below g m n normal f in
      fan_in_low g normal k (label_of v) m n d f cut and.1 (w.sources m) (λ e m_and c. (w.each m below m_and).least e c) below

  module _ (p : ℕ) (top : IsGreatest g (label_of v) n p) where
    x_in : IsFanIn g (top.pair.x.0 / 2) n
    x_in = first top.pair top.node refl

    y_in : IsFanIn g (top.pair.y.0 / 2) n
    y_in = second top.pair top.node refl

    x_below : top.pair.x.0 / 2 < n
    x_below = fan_in_below g (top.pair.x.0 / 2) n normal x_in

    y_below : top.pair.y.0 / 2 < n
    y_below = fan_in_below g (top.pair.y.0 / 2) n normal y_in

    x_top : label_of v (top.pair.x.0 / 2) ≤ p
    x_top = let e : p ≡ max (label_of v (top.pair.x.0 / 2)) (label_of v (top.pair.y.0 / 2)) = top.is in omega arith

    y_top : label_of v (top.pair.y.0 / 2) ≤ p
    y_top = let e : p ≡ max (label_of v (top.pair.x.0 / 2)) (label_of v (top.pair.y.0 / 2)) = top.is in omega arith

    -- each cut is at least as high as the greatest label of the fan-ins
    top_high : (d : List ℕ) → IsCut g k n d → p ≤ height (label_of v) d
    top_high d cut =
        let e : p ≡ max (label_of v (top.pair.x.0 / 2)) (label_of v (top.pair.y.0 / 2)) = top.is in
        let a : label_of v (top.pair.x.0 / 2) ≤ height (label_of v) d = cut_high (top.pair.x.0 / 2) d x_in cut in
        let b : label_of v (top.pair.y.0 / 2) ≤ height (label_of v) d = cut_high (top.pair.y.0 / 2) d y_in cut in omega arith

    -- a low cut has exactly that height
    pub low_labelled : (c : List ℕ) → 1 ≤ p → IsLowCut g k n (p + 1) (label_of v) c → IsLabelled g k n (label_of v) p c
    low_labelled c some is = record {
      cut = is.cut;
      met = (
          let a : height (label_of v) c ≤ suc (p - 1) = height_le (label_of v) c (p - 1) (λ m i. let l : label_of v m + 1 < p + 1 = is.low m i in omega arith) in
          let b : p ≤ height (label_of v) c = top_high c is.cut in omega arith);
      least = top_high;
    }

    -- the join of the low parts
    pub joined_low : (x y : List ℕ) → 1 ≤ p → IsLowPart g (label_of v) (low_cut_of v) p (top.pair.x.0 / 2) x → IsLowPart g (label_of v) (low_cut_of v) p (top.pair.y.0 / 2) y → length (union x y) ≤ k → IsLowCut g k n (p + 1) (label_of v) (union x y)
    joined_low x y some a b few = parts_cut g k n (p + 1) (label_of v) top.pair x y top.node (low_is p (top.pair.x.0 / 2) x x_below some x_top a) (low_is p (top.pair.y.0 / 2) y y_below some y_top b) few

    -- the label of a live node is less than p + 1, and where p is 0 it is a regular source
    live_source : (m : ℕ) → label_of v m ≤ 0 → IsLive g (label_of v) m → IsSource g Regular m
    live_source m z (inl s) = s
    live_source m z (inr a) = absurd (let l : 1 ≤ label_of v m = a.1 in omega arith)

    -- where a fan-in is a regular source, no cut has height 0
    source_high : (m : ℕ) → IsFanIn g m n → IsSource g Regular m → (d : List ℕ) → IsCut g k n d → 1 ≤ height (label_of v) d
    source_high m f s d cut = elim (cases_lt 0 (height (label_of v) d)) [
      | inl l ↦ l
      | inr z ↦ absurd (
          let e : d ≡ [] = height_none (label_of v) d (omega arith) in
          elim (blocked_below g [] f (subst (λ c. Blocks g c n) e cut.blocks)) [ inl i ↦ i | inr b ↦ regular_blocked g [] s b ])
    ]

    module _ (two : 2 ≤ k) (c : List ℕ) (of : IsFanInCut g (label_of v) n c) where
      same : of.pair ≡ top.pair
      same = same_pair g of.pair top.pair n of.node top.node

      x_part : IsOwnPart g (label_of v) (top.pair.x.0 / 2) of.x
      x_part = subst (λ (q : Pair). IsOwnPart g (label_of v) (q.x.0 / 2) of.x) same of.x_is

      y_part : IsOwnPart g (label_of v) (top.pair.y.0 / 2) of.y
      y_part = subst (λ (q : Pair). IsOwnPart g (label_of v) (q.y.0 / 2) of.y) same of.y_is

      own_few : length (union of.x of.y) ≤ k
      own_few =
          let a : length of.x ≤ 1 = own_length g (label_of v) (top.pair.x.0 / 2) of.x x_part in
          let b : length of.y ≤ 1 = own_length g (label_of v) (top.pair.y.0 / 2) of.y y_part in
          let u : length (union of.x of.y) ≤ length of.x + length of.y = union_length of.x of.y in omega arith

      -- the live fan-ins are a cut
      fan_ins_low : IsLowCut g k n (p + 2) (label_of v) (union of.x of.y)
      fan_ins_low =
          let l : label_of v (top.pair.x.0 / 2) ≤ p = x_top in
          let r : label_of v (top.pair.y.0 / 2) ≤ p = y_top in
          parts_cut g k n (p + 2) (label_of v) top.pair of.x of.y top.node (own_is (p + 2) (top.pair.x.0 / 2) of.x x_below (omega arith) x_part) (own_is (p + 2) (top.pair.y.0 / 2) of.y y_below (omega arith) y_part) own_few

      fan_ins_cut : IsLowCut g k n (p + 2) (label_of v) c
      fan_ins_cut = subst (λ d. IsLowCut g k n (p + 2) (label_of v) d) (sym of.is) fan_ins_low

      -- without a live fan-in the label is 0
      pub free_labelled : c ≡ [] → IsLabelled g k n (label_of v) 0 c
      free_labelled e = record { cut = fan_ins_cut.cut; met = ap (λ d. height (label_of v) d) e; least = λ d cut. omega arith }

      -- a live fan-in shows that a cut has a height of 1
      some_high : (d : List ℕ) → p ≡ 0 → (c ≡ [] → ⊥) → IsCut g k n d → 1 ≤ height (label_of v) d
      some_high d none some cut = in_some c some (λ m i. elim (In-union of.x of.y m (subst (λ e. In e m) of.is i)) [
        | inl j ↦ source_high (top.pair.x.0 / 2) x_in (live_source (top.pair.x.0 / 2) (let l : label_of v (top.pair.x.0 / 2) ≤ p = x_top in omega arith) (own_live g (label_of v) (top.pair.x.0 / 2) of.x m x_part j)) d cut
        | inr j ↦ source_high (top.pair.y.0 / 2) y_in (live_source (top.pair.y.0 / 2) (let l : label_of v (top.pair.y.0 / 2) ≤ p = y_top in omega arith) (own_live g (label_of v) (top.pair.y.0 / 2) of.y m y_part j)) d cut
      ])
        where
          in_some : {P : Type 0} (e : List ℕ) → (e ≡ [] → ⊥) → ((m : ℕ) → In e m → P) → P
          in_some [] ne f = absurd (ne refl)
          in_some (m ∷ ms) ne f = f m (inl refl)

      -- where no cut is lower than p + 1, the live fan-ins have that height
      pub high_labelled : (1 ≤ p → IsHigh g k n (p + 1) (label_of v)) → (c ≡ [] → ⊥) → IsLabelled g k n (label_of v) (p + 1) c
      high_labelled high some =
          let least : (d : List ℕ) → IsCut g k n d → p + 1 ≤ height (label_of v) d = (λ d cut. elim (cases_lt 0 p) [
            | inl l ↦ (high l).high d cut
            | inr z ↦ (let h : 1 ≤ height (label_of v) d = some_high d (omega arith) some cut in omega arith)
          ]) in
          record {
            cut = fan_ins_cut.cut;
            met = (
                let a : height (label_of v) c ≤ suc p = height_le (label_of v) c p (λ m i. let l : label_of v m + 1 < p + 2 = fan_ins_cut.low m i in omega arith) in
                let b : p + 1 ≤ height (label_of v) c = least c fan_ins_cut.cut in omega arith);
            least = least;
          }
