-- Which low cut a node has depends on the labels and low cuts below it alone.
use Rattle.flow_label.proofs.Common.{◌≡◌, ℕ, ◌+◌, ◌/◌, ◌<◌, ◌≤◌, List, refl, sym, ◌∙◌, subst, inl, inr, arith, max, Aig, AreNormal, first_and, first, second, IsLive, IsLowCut, IsFlowCut, by_walk, by_search, IsLowerCut, by_join, by_flow, IsLowWith, by_fan_ins, by_lower, HasLowWith, IsDeep, top, down, IsEndOf, AreEndsOf, IsJoin, IsNearest}
use Rattle.flow_label.specs.Parts.{IsOwnPart, live, free, IsLowPart, own, low, IsGreatest, IsFanInCut}
use Rattle.flow_label.proofs.GraphLemmas.{fan_in_below}

-- functions that agree below n
abbrev pub AgreeBelow : {A : Type 0} → ℕ → (ℕ → A) → (ℕ → A) → Type 0
AgreeBelow n f h = (m : ℕ) → m < n → f m ≡ h m

module _ (g : Aig) (normal : AreNormal (first_and g) g.pairs) (n : ℕ) where
  deep_below : (f : ℕ → ℕ) (p : ℕ) {v : ℕ} → IsDeep g f n p v → v ≤ n
  deep_below f p (top e) = omega arith
  deep_below f p {v} (down u d r l h) = let b : u ≤ n = deep_below f p d in let c : v < u = fan_in_below g v u normal r in omega arith

  -- one way
  module _ (f h : ℕ → ℕ) (same : AgreeBelow n f h) where
    live_same : (m : ℕ) → m < n → IsLive g f m → IsLive g h m
    live_same m l (inl s) = inl s
    live_same m l (inr a) = inr (a.0, subst (λ x. 1 ≤ x) (same m l) a.1)

    deep_same : (p : ℕ) {v : ℕ} → IsDeep g f n p v → IsDeep g h n p v
    deep_same p (top e) = top e
    deep_same p {v} (down u d r l q) =
        let b : u ≤ n = deep_below f p d in
        let c : v < u = fan_in_below g v u normal r in
        let below : v < n = omega arith in
        down u (deep_same p d) r (live_same v below l) (subst (λ x. p ≤ x) (same v below) q)

    end_same : (p u : ℕ) → IsEndOf g f n p u → IsEndOf g h n p u
    end_same p u e =
        let b : e.reader ≤ n = deep_below f p e.deep in
        let c : u < e.reader = fan_in_below g u e.reader normal e.reads in
        let below : u < n = omega arith in
        record { reader = e.reader; deep = deep_same p e.deep; reads = e.reads; live = live_same u below e.live; low = subst (λ x. x < p) (same u below) e.low }

    low_same : (k x : ℕ) (c : List ℕ) → IsLowCut g k n x f c → IsLowCut g k n x h c
    low_same k x c is = record { cut = is.cut; low = λ m i. subst (λ y. y + 1 < x) (same m (is.cut.below m i).0) (is.low m i) }

  -- both ways
  module _ (f h : ℕ → ℕ) (same : AgreeBelow n f h) where
    back : AgreeBelow n h f
    back m l = sym (same m l)

    own_same : (m : ℕ) (c : List ℕ) → m < n → IsOwnPart g f m c → IsOwnPart g h m c
    own_same m c l (live a e) = live (live_same f h same m l a) e
    own_same m c l (free a e) = free (λ b. a (live_same h f back m l b)) e

    ends_same : (p : ℕ) (c : List ℕ) → AreEndsOf g f n p c → AreEndsOf g h n p c
    ends_same p c e = record { ascending = e.ascending; only = λ u i. end_same f h same p u (e.only u i); all = λ u i. e.all u (end_same h f back p u i) }

    nearest_same : (k x : ℕ) (c : List ℕ) → IsNearest g k n x f c → IsNearest g k n x h c
    nearest_same k x c is = record {
      cut = low_same f h same k x c is.cut;
      least = λ d l. is.least d (low_same h f back k x d l);
      nearest = λ d m l s i. is.nearest d m (low_same h f back k x d l) s i;
    }

    flow_same : (k p : ℕ) (c : List ℕ) → IsFlowCut g k f n p c → IsFlowCut g k h n p c
    flow_same k p c (by_walk e l) = by_walk (ends_same p c e) l
    flow_same k p c (by_search m i) = by_search (record { ends = m.ends; are = ends_same p m.ends m.are; many = m.many }) (nearest_same k (p + 1) c i)

    greatest_same : (p : ℕ) → IsGreatest g f n p → IsGreatest g h n p
    greatest_same p is =
        let x : f (is.pair.x.0 / 2) ≡ h (is.pair.x.0 / 2) = same (is.pair.x.0 / 2) (fan_in_below g (is.pair.x.0 / 2) n normal (first is.pair is.node refl)) in
        let y : f (is.pair.y.0 / 2) ≡ h (is.pair.y.0 / 2) = same (is.pair.y.0 / 2) (fan_in_below g (is.pair.y.0 / 2) n normal (second is.pair is.node refl)) in
        record { pair = is.pair; node = is.node; is = subst (λ b. p ≡ max (h (is.pair.x.0 / 2)) b) y (subst (λ a. p ≡ max a (f (is.pair.y.0 / 2))) x is.is) }

    fan_ins_same : (c : List ℕ) → IsFanInCut g f n c → IsFanInCut g h n c
    fan_ins_same c is = record {
      pair = is.pair;
      node = is.node;
      x = is.x;
      y = is.y;
      x_is = own_same (is.pair.x.0 / 2) is.x (fan_in_below g (is.pair.x.0 / 2) n normal (first is.pair is.node refl)) is.x_is;
      y_is = own_same (is.pair.y.0 / 2) is.y (fan_in_below g (is.pair.y.0 / 2) n normal (second is.pair is.node refl)) is.y_is;
      is = is.is;
    }

    module _ (lows rest : ℕ → List ℕ) (cuts : AgreeBelow n lows rest) where
      part_same : (p m : ℕ) (c : List ℕ) → m < n → IsLowPart g f lows p m c → IsLowPart g h rest p m c
      part_same p m c l (own a o) = own (subst (λ x. x < p) (same m l) a) (own_same m c l o)
      part_same p m c l (low a e) = low (subst (λ x. p ≤ x) (same m l) a) (e ∙ cuts m l)

      join_same : (p : ℕ) (c : List ℕ) → IsJoin g f lows n p c → IsJoin g h rest n p c
      join_same p c is = record {
        pair = is.pair;
        node = is.node;
        x = is.x;
        y = is.y;
        x_is = part_same p (is.pair.x.0 / 2) is.x (fan_in_below g (is.pair.x.0 / 2) n normal (first is.pair is.node refl)) is.x_is;
        y_is = part_same p (is.pair.y.0 / 2) is.y (fan_in_below g (is.pair.y.0 / 2) n normal (second is.pair is.node refl)) is.y_is;
        is = is.is;
      }

      lower_same : (k p : ℕ) (c : List ℕ) → IsLowerCut g k f lows n p c → IsLowerCut g k h rest n p c
      lower_same k p c (by_join j l) = by_join (join_same p c j) l
      lower_same k p c (by_flow w i) = by_flow (record { join = w.join; are = join_same p w.join w.are; wide = w.wide }) (flow_same k p c i)

      with_same : (k p x : ℕ) (c : List ℕ) → IsLowWith g k f lows n p x c → IsLowWith g k h rest n p x c
      with_same k p x c (by_fan_ins a i) = by_fan_ins a (fan_ins_same c i)
      with_same k p x c (by_lower e s i) = by_lower e s (lower_same k p c i)

      pub has_same : (k x : ℕ) (c : List ℕ) → HasLowWith g k f lows n x c → HasLowWith g k h rest n x c
      has_same k x c is = record { greatest = is.greatest; is = greatest_same is.greatest is.is; low = with_same k is.greatest x c is.low }
