-- The cone of a node, as a list, is what is reached from it.
use Rattle.cover_pick.proofs.Common.{◌≡◌, ℕ, zero, suc, ◌-◌, ◌/◌, ◌<◌, ◌≤◌, true, false, ltb, eqb, List, [], ◌∷◌, Option, Some, None, refl, sym, length, subst, inl, inr, ◌⊎◌, arith, slice_get_within, cases_Bool, or_cases, or_parts, cases_lt, ltb-true, ltb-false, both_ways, lt-ltb, Aig, first_and, node_count, pair_of, IsNode, IsNormal, AreNormal, Pair, node_normal, In, choose, IsDescending, is_stop, IsInner, Path, here, left, right, IsCone, rules, if◌then◌else◌, ◌==◌, nat_lt}
use Rattle.cut_sets.proofs.SetLemmas.{has_true, has_from}

-- what does not end the way down is an AND node that is no leaf
pub stop_inner : (g : Aig) (c : List ℕ) (n : ℕ) → n < node_count g → is_stop g c n ≡ false → IsInner g c n
stop_inner g c n l s = grind (arith, or_parts, ltb, eqb, ltb-false, both_ways, has_from)

pub inner_stop : (g : Aig) (c : List ℕ) (n : ℕ) → IsInner g c n → is_stop g c n ≡ false
inner_stop g c n inner = search (rules, cases_Bool, or_cases, ltb, eqb, ltb-true, has_true)

-- a node that doesn't end the way down is an AND node
pub past_sources : (g : Aig) (c : List ℕ) (n : ℕ) → is_stop g c n ≡ false → first_and g ≤ n
past_sources g c n s = search (rules, cases_lt, both_ways, lt-ltb)

pub node_inside : (g : Aig) (p : Pair) (n : ℕ) → IsNode g p n → n < node_count g
node_inside g p n is = let a : first_and g ≤ n = is.above in let b : n - first_and g < length g.pairs = slice_get_within g.pairs (n - first_and g) p is.is in omega arith

-- no way starts at a node that ends it
pub stopped : (g : Aig) (c : List ℕ) (m n : ℕ) → Path g c m n → is_stop g c n ≡ true → ⊥
stopped g c m n (here t e) h = both_ways (is_stop g c n) (inner_stop g c n t) h
stopped g c m n (left p t e q) h = both_ways (is_stop g c n) (inner_stop g c n t) h
stopped g c m n (right p t e q) h = both_ways (is_stop g c n) (inner_stop g c n t) h

-- a descending list without repeats, with one more
abbrev pub put_down : ℕ → List ℕ → List ℕ
put_down x [] = x ∷ []
put_down x (y ∷ ys) = if nat_lt y x then x ∷ y ∷ ys else if x == y then y ∷ ys else y ∷ put_down x ys

abbrev pub put_fan_ins : Option Pair → List ℕ → List ℕ
put_fan_ins None rest = rest
put_fan_ins (Some p) rest = put_down (p.x.0 / 2) (put_down (p.y.0 / 2) rest)

-- the AND nodes reached from the pending nodes without passing a leaf, the greatest first, of at most f nodes taken
abbrev pub cone : Aig → List ℕ → ℕ → List ℕ → List ℕ
cone g c zero pending = []
cone g c (suc f) [] = []
cone g c (suc f) (n ∷ rest) = if is_stop g c n then cone g c f rest else n ∷ cone g c f (put_fan_ins (pair_of g n) rest)

-- the cone of a node above some leaves
abbrev pub cone_of : Aig → List ℕ → ℕ → List ℕ
cone_of g c n = cone g c (suc n) (n ∷ [])

-- a node that is reached from a pending one
pub record From (g : Aig) (c pending : List ℕ) (m : ℕ) : Type 0 where
  pub start : ℕ
  pub pending_in : In pending start
  pub path : Path g c m start

down_at : (P : List ℕ → Type 0) (x y : ℕ) (ys : List ℕ) → (y < x → P (x ∷ y ∷ ys)) → (x ≡ y → P (y ∷ ys)) → (x < y → P (y ∷ put_down x ys)) → P (put_down x (y ∷ ys))
down_at P x y ys more same less = grind arith

In-down : (x : ℕ) (c : List ℕ) (n : ℕ) → In (put_down x c) n → (n ≡ x) ⊎ In c n
In-down x [] n h = h
In-down x (y ∷ ys) n h0 =
    down_at (λ s. In s n → (n ≡ x) ⊎ In (y ∷ ys) n) x y ys (λ a h. h) (λ e h. inr h)
    (λ a h. elim h [ inl e ↦ inr (inl e) | inr i ↦ elim (In-down x ys n i) [ inl e ↦ inl e | inr j ↦ inr (inr j) ] ]) h0

down_new : (x : ℕ) (c : List ℕ) → In (put_down x c) x
down_new x [] = inl refl
down_new x (y ∷ ys) = down_at (λ s. In s x) x y ys (λ a. inl refl) (λ e. inl e) (λ a. inr (down_new x ys))

down_old : (x : ℕ) (c : List ℕ) (n : ℕ) → In c n → In (put_down x c) n
down_old x [] n h = inr h
down_old x (y ∷ ys) n h = down_at (λ s. In s n) x y ys (λ a. inr h) (λ e. h) (λ a. elim h [ inl e ↦ inl e | inr i ↦ inr (down_old x ys n i) ])

IsDescending-down : (x : ℕ) (c : List ℕ) → IsDescending c → IsDescending (put_down x c)
IsDescending-down x [] h = ((λ n i. absurd i), tt)
IsDescending-down x (y ∷ ys) h =
    down_at IsDescending x y ys
    (λ a. ((λ n i. elim i [ inl e ↦ omega arith | inr j ↦ (let k : n < y = h.0 n j in omega arith) ]), h)) (λ e. h)
    (λ a. ((λ n i. elim (In-down x ys n i) [ inl e ↦ omega arith | inr j ↦ h.0 n j ]), IsDescending-down x ys h.1))

module _ (g : Aig) (c : List ℕ) (normal : (n : ℕ) (p : Pair) → is_stop g c n ≡ false → pair_of g n ≡ Some p → IsNormal n p) where
  node : (n : ℕ) (p : Pair) → is_stop g c n ≡ false → pair_of g n ≡ Some p → IsNode g p n
  node n p s e = record { above = past_sources g c n s; is = e }

  inner : (n : ℕ) (p : Pair) → is_stop g c n ≡ false → pair_of g n ≡ Some p → IsInner g c n
  inner n p s e = stop_inner g c n (node_inside g p n (node n p s e)) s

  -- what is pending after a node: all below it, in order
  next_below : (n : ℕ) (o : Option Pair) (rest : List ℕ) → is_stop g c n ≡ false → pair_of g n ≡ o → ((m : ℕ) → In rest m → m < n) → (m : ℕ) → In (put_fan_ins o rest) m → m < n
  next_below n None rest s e b m i = b m i
  next_below n (Some p) rest s e b m i =
      let y : p.y.0 / 2 < n = (normal n p s e).below in
      let x : p.x.0 / 2 < p.y.0 / 2 = (normal n p s e).ordered in
      elim (In-down (p.x.0 / 2) (put_down (p.y.0 / 2) rest) m i) [
        | inl q ↦ (let f : m ≡ p.x.0 / 2 = q in omega arith)
        | inr j ↦ elim (In-down (p.y.0 / 2) rest m j) [ inl q ↦ (let f : m ≡ p.y.0 / 2 = q in omega arith) | inr k ↦ b m k ]
      ]

  next_order : (o : Option Pair) (rest : List ℕ) → IsDescending rest → IsDescending (put_fan_ins o rest)
  next_order None rest d = d
  next_order (Some p) rest d = IsDescending-down (p.x.0 / 2) (put_down (p.y.0 / 2) rest) (IsDescending-down (p.y.0 / 2) rest d)

  next_from : (n m : ℕ) (o : Option Pair) (rest : List ℕ) → is_stop g c n ≡ false → pair_of g n ≡ o → From g c (put_fan_ins o rest) m → From g c (n ∷ rest) m
  next_from n m None rest s e f = record { start = f.start; pending_in = inr f.pending_in; path = f.path }
  next_from n m (Some p) rest s e f =
      elim (In-down (p.x.0 / 2) (put_down (p.y.0 / 2) rest) f.start f.pending_in) [
        | inl q ↦ record { start = n; pending_in = inl refl; path = left p (inner n p s e) (node n p s e) (subst (λ i. Path g c m i) q f.path) }
        | inr j ↦ elim (In-down (p.y.0 / 2) rest f.start j) [
          | inl q ↦ record { start = n; pending_in = inl refl; path = right p (inner n p s e) (node n p s e) (subst (λ i. Path g c m i) q f.path) }
          | inr k ↦ record { start = f.start; pending_in = inr k; path = f.path }
        ]
      ]

  rest_kept : (o : Option Pair) (rest : List ℕ) (m : ℕ) → In rest m → In (put_fan_ins o rest) m
  rest_kept None rest m i = i
  rest_kept (Some p) rest m i = down_old (p.x.0 / 2) (put_down (p.y.0 / 2) rest) m (down_old (p.y.0 / 2) rest m i)

  left_kept : (o : Option Pair) (p : Pair) (rest : List ℕ) → o ≡ Some p → In (put_fan_ins o rest) (p.x.0 / 2)
  left_kept o p rest e = rw e (down_new (p.x.0 / 2) (put_down (p.y.0 / 2) rest))

  right_kept : (o : Option Pair) (p : Pair) (rest : List ℕ) → o ≡ Some p → In (put_fan_ins o rest) (p.y.0 / 2)
  right_kept o p rest e = rw e (down_old (p.x.0 / 2) (put_down (p.y.0 / 2) rest) (p.y.0 / 2) (down_new (p.y.0 / 2) rest))

  first_step : (n m : ℕ) (rest out : List ℕ) → ((r : ℕ) → In (put_fan_ins (pair_of g n) rest) r → Path g c m r → In out m) → Path g c m n → (m ≡ n) ⊎ In out m
  first_step n m rest out go (here t e) = inl (sym e)
  first_step n m rest out go (left p t e q) = inr (go (p.x.0 / 2) (left_kept (pair_of g n) p rest e.is) q)
  first_step n m rest out go (right p t e q) = inr (go (p.y.0 / 2) (right_kept (pair_of g n) p rest e.is) q)

  pub cone_only : (f : ℕ) (pending : List ℕ) (m : ℕ) → IsDescending pending → ((k : ℕ) → In pending k → k < node_count g) → In (cone g c f pending) m → From g c pending m
  cone_only (suc f) (n ∷ rest) m d b i0 =
      choose (λ s. In s m → From g c (n ∷ rest) m) (is_stop g c n) (cone g c f rest) (n ∷ cone g c f (put_fan_ins (pair_of g n) rest))
      (λ t i. let r = cone_only f rest m d.1 (λ k j. b k (inr j)) i in record { start = r.start; pending_in = inr r.pending_in; path = r.path })
      (λ t i. elim i [
        | inl q ↦ record { start = n; pending_in = inl refl; path = here (stop_inner g c n (b n (inl refl)) t) (sym q) }
        | inr j ↦ next_from n m (pair_of g n) rest t refl (cone_only f (put_fan_ins (pair_of g n) rest) m (next_order (pair_of g n) rest d.1)
            (λ k l. let x : k < n = next_below n (pair_of g n) rest t refl d.0 k l in let y : n < node_count g = b n (inl refl) in omega arith) j)
      ]) i0
  cone_only f pending m d b i = elim i [ ]

  pub cone_all : (f : ℕ) (pending : List ℕ) (m : ℕ) → IsDescending pending → ((n : ℕ) → In pending n → n < f) → (s : ℕ) → In pending s → Path g c m s → In (cone g c f pending) m
  cone_all zero pending m d b s i p = absurd (let l : s < 0 = b s i in omega arith)
  cone_all (suc f) [] m d b s i p = elim i [ ]
  cone_all (suc f) (n ∷ rest) m d b s i p =
      let top : n < suc f = b n (inl refl) in
      let go : (r : ℕ) → is_stop g c n ≡ false → In (put_fan_ins (pair_of g n) rest) r → Path g c m r → In (cone g c f (put_fan_ins (pair_of g n) rest)) m =
      (λ r t j q. cone_all f (put_fan_ins (pair_of g n) rest) m (next_order (pair_of g n) rest d.1)
      (λ k l. let x : k < n = next_below n (pair_of g n) rest t refl d.0 k l in omega arith) r j q) in
      choose (λ x. In x m) (is_stop g c n) (cone g c f rest) (n ∷ cone g c f (put_fan_ins (pair_of g n) rest))
      (λ t. elim i [
        | inl q ↦ absurd (stopped g c m s p (subst (λ k. is_stop g c k ≡ true) (sym q) t))
        | inr j ↦ cone_all f rest m d.1 (λ k l. let x : k < n = d.0 k l in omega arith) s j p
      ])
      (λ t. elim i [
        | inl q ↦ first_step n m rest (cone g c f (put_fan_ins (pair_of g n) rest)) (λ r. go r t) (subst (λ k. Path g c m k) q p)
        | inr j ↦ inr (go s t (rest_kept (pair_of g n) rest s j) p)
      ])

  -- in order, so each stands once
  pub cone_order : (f : ℕ) (pending : List ℕ) → IsDescending pending → IsDescending (cone g c f pending) × ((b : ℕ) → ((n : ℕ) → In pending n → n < b) → (m : ℕ) → In (cone g c f pending) m → m < b)
  cone_order (suc f) (n ∷ rest) d =
      choose (λ x. IsDescending x × ((b : ℕ) → ((k : ℕ) → In (n ∷ rest) k → k < b) → (m : ℕ) → In x m → m < b)) (is_stop g c n) (cone g c f rest) (n ∷ cone g c f (put_fan_ins (pair_of g n) rest))
      (λ t. let r = cone_order f rest d.1 in (r.0, (λ b h m i. r.1 b (λ k j. h k (inr j)) m i)))
      (λ t. let r = cone_order f (put_fan_ins (pair_of g n) rest) (next_order (pair_of g n) rest d.1) in
      let low = r.1 n (next_below n (pair_of g n) rest t refl d.0) in
      ((low, r.0), (λ b h m i. let x : n < b = h n (inl refl) in elim i [ inl q ↦ (let f : m ≡ n = q in omega arith) | inr j ↦ (let y : m < n = low m j in omega arith) ])))
  cone_order f pending d = (tt, (λ b h m i. absurd i))

-- The cone by its own words.
pub cone_is : (g : Aig) (c : List ℕ) (n : ℕ) → AreNormal (first_and g) g.pairs → n < node_count g → IsCone g c n (cone_of g c n)
cone_is g c n normal inside =
    let ok : (m : ℕ) (p : Pair) → is_stop g c m ≡ false → pair_of g m ≡ Some p → IsNormal m p = (λ m p s at. node_normal g m p normal (record { above = past_sources g c m s; is = at })) in
    let one : IsDescending (n ∷ []) = ((λ m i. absurd i), tt) in
    record {
      descending = (cone_order g c ok (suc n) (n ∷ []) one).0;
      only = λ m i. let f = cone_only g c ok (suc n) (n ∷ []) m one (λ k j. elim j [ inl e ↦ subst (λ z. z < node_count g) (sym e) inside | inr b ↦ absurd b ]) i in elim f.pending_in [ inl e ↦ subst (λ k. Path g c m k) e f.path | inr b ↦ absurd b ];
      all = λ m p. cone_all g c ok (suc n) (n ∷ []) m one (λ k i. elim i [ inl e ↦ (let f : k ≡ n = e in omega arith) | inr b ↦ absurd b ]) n (inl refl) p;
    }
