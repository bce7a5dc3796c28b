-- What blocks a node can be decided, so each list that blocks it has the node itself, or a minimal cut within it.
use Rattle.cut_sets.proofs.Common.{◌≡◌, ℕ, zero, suc, ◌-◌, ◌/◌, ◌<◌, ◌≤◌, List, [], ◌∷◌, length, get_or, Option, Some, None, refl, sym, ◌∙◌, subst, inl, inr, ◌⊎◌, arith, slice_get, slice_get-get_or, same_Some, none-some, cases_lt, cases_eq, Aig, first_and, node_count, pair_of, IsAnd, IsSource, IsNode, AreNormal, Regular, Parameter, Pair, In, Within, IsAscending, in_or, Blocks, member, constant, parameter, fan_ins, CanBeLeaf, IsCut, IsMinimal, AreMinimal, EachContainsOne, source_below, node_normal, same_pair}
use Rattle.aig_core.specs.declared.lit.Kind.{Kind}
use Rattle.cut_sets.proofs.AscendingLemmas.{length_within, same_within}

-- a larger set blocks what a smaller one blocks
pub Blocks-within : (g : Aig) (c d : List ℕ) {n : ℕ} → Within c d → Blocks g c n → Blocks g d n
Blocks-within g c d w (member i) = member (w _ i)
Blocks-within g c d w (constant e) = constant e
Blocks-within g c d w (parameter s) = parameter s
Blocks-within g c d w (fan_ins p is x y) = fan_ins p is (Blocks-within g c d w x) (Blocks-within g c d w y)

other_kind : Regular ≡ Parameter → ⊥
other_kind h = cc

-- only a set that has it blocks a regular source
pub regular_blocked : (g : Aig) (c : List ℕ) {n : ℕ} → IsSource g Regular n → Blocks g c n → In c n
regular_blocked g c s (member i) = i
regular_blocked g c {n} s (constant e) = absurd (let a : 1 ≤ n = s.above in omega arith)
regular_blocked g c {n} s (parameter t) = absurd (other_kind (same_Some Regular Parameter (sym s.is ∙ t.is)))
regular_blocked g c {n} s (fan_ins p is x y) = absurd (let a : n < first_and g = source_below g Regular n s in let b : first_and g ≤ n = is.above in omega arith)

-- both fan-ins of an AND node are blocked
record FanInsBlocked (g : Aig) (c : List ℕ) (n : ℕ) : Type 0 where
  pair : Pair
  node : IsNode g pair n
  x : Blocks g c (pair.x.0 / 2)
  y : Blocks g c (pair.y.0 / 2)

-- how a node past the sources is blocked
blocked_above : (g : Aig) (c : List ℕ) {n : ℕ} → first_and g ≤ n → Blocks g c n → In c n ⊎ FanInsBlocked g c n
blocked_above g c a (member i) = inl i
blocked_above g c a (constant e) = absurd (omega arith)
blocked_above g c {n} a (parameter s) = absurd (let b : n < first_and g = source_below g Parameter n s in omega arith)
blocked_above g c a (fan_ins p is x y) = inr (record { pair = p; node = is; x = x; y = y })

-- d has all members of an ascending list c but x
record IsWithout (c : List ℕ) (x : ℕ) (d : List ℕ) : Type 0 where
  ascending : IsAscending d
  within : Within d c
  others : (n : ℕ) → In c n → (n ≡ x → ⊥) → In d n
  shorter : suc (length d) ≤ length c

without : (c : List ℕ) (x : ℕ) → IsAscending c → In c x → (d : List ℕ) × IsWithout c x d
without [] x up i = elim i [ ]
without (y ∷ ys) x up (inl e) = grind arith
without (y ∷ ys) x up (inr i) =
    let r = without ys x up.1 i in (
      y ∷ r.0,
      record {
        ascending = ((λ n j. up.0 n (r.1.within n j)), r.1.ascending);
        within = λ n j. elim j [ inl q ↦ inl q | inr k ↦ inr (r.1.within n k) ];
        others = λ n j other. elim j [ inl q ↦ inl q | inr k ↦ inr (r.1.others n k other) ];
        shorter = omega (arith, r.1.shorter);
      },
    )

-- d has the members of an ascending list c that may be leaves of a cut of n, and each other member below n costs nothing
record AreLeaves (g : Aig) (n : ℕ) (c d : List ℕ) : Type 0 where
  ascending : IsAscending d
  within : Within d c
  below : (m : ℕ) → In d m → (m < n) × CanBeLeaf g m
  others : (m : ℕ) → In c m → m < n → In d m ⊎ Blocks g [] m

module _ (g : Aig) (normal : AreNormal (first_and g) g.pairs) where
  -- a source is regular or costs nothing
  kind_free : (n : ℕ) (k : Kind) → 1 ≤ n → slice_get g.kinds (n - 1) ≡ Some k → IsSource g Regular n ⊎ Blocks g [] n
  kind_free n Regular a e = inl (record { above = a; is = e })
  kind_free n Parameter a e = inr (parameter (record { above = a; is = e }))

  leaf_or_free : (n : ℕ) → n < node_count g → CanBeLeaf g n ⊎ Blocks g [] n
  leaf_or_free n l = elim (cases_eq n 0) [
    | inl z ↦ inr (constant z)
    | inr d ↦ elim (cases_lt n (first_and g)) [
      | inl s ↦ elim (kind_free n (get_or g.kinds (n - 1) Regular) (omega arith) (slice_get-get_or g.kinds (n - 1) Regular (omega arith))) [ inl r ↦ inl (inl r) | inr f ↦ inr f ]
      | inr s ↦ inl (inr (s, l))
    ]
  ]

  -- what costs nothing is blocked by any set
  free_blocked : (c : List ℕ) {n : ℕ} → Blocks g [] n → Blocks g c n
  free_blocked c b = Blocks-within g [] c (λ n i. absurd i) b

  module _ (c : List ℕ) where
    decide_source : (n : ℕ) → n < first_and g → (In c n → ⊥) → Blocks g c n ⊎ (Blocks g c n → ⊥)
    decide_source n l out = elim (leaf_or_free n (omega arith)) [
      | inl leaf ↦ elim leaf [
        | inl r ↦ inr (λ b. out (regular_blocked g c r b))
        | inr and ↦ absurd (let a : first_and g ≤ n = and.0 in omega arith)
      ]
      | inr f ↦ inl (free_blocked c f)
    ]

    decide_node : (n : ℕ) (o : Option Pair) → first_and g ≤ n → pair_of g n ≡ o → (In c n → ⊥) → ((m : ℕ) → m < n → Blocks g c m ⊎ (Blocks g c m → ⊥)) → Blocks g c n ⊎ (Blocks g c n → ⊥)
    decide_node n None a e out below = inr (λ b. elim (blocked_above g c a b) [ inl i ↦ out i | inr f ↦ none-some f.pair (sym e ∙ f.node.is) ])
    decide_node n (Some p) a e out below =
        let node : IsNode g p n = record { above = a; is = e } in
        let y : p.y.0 / 2 < n = (node_normal g n p normal node).below in
        elim (below (p.x.0 / 2) (omega (arith, (node_normal g n p normal node).ordered))) [
          | inr no_x ↦ inr (λ b. elim (blocked_above g c a b) [ inl i ↦ out i | inr f ↦ no_x (subst (λ (q : Pair). Blocks g c (q.x.0 / 2)) (same_pair g f.pair p n f.node node) f.x) ])
          | inl bx ↦ elim (below (p.y.0 / 2) y) [
            | inr no_y ↦ inr (λ b. elim (blocked_above g c a b) [ inl i ↦ out i | inr f ↦ no_y (subst (λ (q : Pair). Blocks g c (q.y.0 / 2)) (same_pair g f.pair p n f.node node) f.y) ])
            | inl by ↦ inl (fan_ins p node bx by)
          ]
        ]

    decide_below : (f n : ℕ) → n < f → Blocks g c n ⊎ (Blocks g c n → ⊥)
    decide_below zero n l = absurd (omega arith)
    decide_below (suc f) n l = elim (in_or c n) [
      | inl i ↦ inl (member i)
      | inr out ↦ elim (cases_lt n (first_and g)) [
        | inl s ↦ decide_source n s out
        | inr a ↦ decide_node n (pair_of g n) a refl out (λ m k. decide_below f m (omega arith))
      ]
    ]

    -- A set blocks a node or it doesn't.
    pub decide_blocks : (n : ℕ) → Blocks g c n ⊎ (Blocks g c n → ⊥)
    decide_blocks n = decide_below (suc n) n (omega arith)

  module _ (k n : ℕ) where
    -- a part of a cut that blocks the node is a cut
    part_cut : (c d : List ℕ) → IsCut g k n c → IsAscending d → Within d c → Blocks g d n → IsCut g k n d
    part_cut c d cut up w b = record {
      ascending = up;
      few = (let a : length d ≤ length c = length_within c d cut.ascending up w in let b : length c ≤ k = cut.few in omega arith);
      below = λ m i. cut.below m (w m i);
      blocks = b;
    }

    -- one of these members can be left out, or none can
    droppable : (c : List ℕ) → IsAscending c → (ms : List ℕ) → ((m : ℕ) → In ms m → In c m)
        → ((m : ℕ) × (d : List ℕ) × IsWithout c m d × Blocks g d n) ⊎ ((m : ℕ) → In ms m → (d : List ℕ) × IsWithout c m d × (Blocks g d n → ⊥))
    droppable c up [] w = inr (λ m i. absurd i)
    droppable c up (m ∷ ms) w =
        let r = without c m up (w m (inl refl)) in
        elim (decide_blocks r.0 n) [
          | inl b ↦ inl (m, r.0, r.1, b)
          | inr no_m ↦ elim (droppable c up ms (λ x i. w x (inr i))) [
            | inl x ↦ inl x
            | inr none ↦ inr (λ x i. elim i [
              | inl e ↦ subst (λ y. (d : List ℕ) × IsWithout c y d × (Blocks g d n → ⊥)) (sym e) (r.0, r.1, no_m)
              | inr j ↦ none x j
            ])
          ]
        ]

    -- a cut none of whose members can be left out is minimal
    tight_minimal : (c : List ℕ) → IsCut g k n c → ((m : ℕ) → In c m → (d : List ℕ) × IsWithout c m d × (Blocks g d n → ⊥)) → IsMinimal g k n c
    tight_minimal c cut tight = record {
      cut = cut;
      least = λ d other w. same_within d c other.ascending cut.ascending w (λ m i. elim (in_or d m) [
        | inl j ↦ j
        | inr out ↦ (
            let r = tight m i in
            absurd (r.2 (Blocks-within g d r.0 (λ x j. r.1.others x (w x j) (λ e. out (subst (λ z. In d z) e j))) other.blocks)))
      ]);
    }

    shrink : (f : ℕ) (c : List ℕ) → length c < f → IsCut g k n c → (d : List ℕ) × IsMinimal g k n d × Within d c
    shrink zero c l cut = absurd (omega arith)
    shrink (suc f) c l cut = elim (droppable c cut.ascending c (λ m i. i)) [
      | inl x ↦ (
          let r = shrink f x.1 (omega (arith, x.2.shorter)) (part_cut c x.1 cut x.2.ascending x.2.within x.3) in
          (r.0, r.1, (λ m i. x.2.within m (r.2 m i))))
      | inr tight ↦ (c, tight_minimal c cut tight, (λ m i. i))
    ]

    -- Each cut has a minimal one within it.
    pub minimal_within : (c : List ℕ) → IsCut g k n c → (d : List ℕ) × IsMinimal g k n d × Within d c
    minimal_within c cut = shrink (suc (length c)) c (omega arith) cut

    leaves_of : n < node_count g → (c : List ℕ) → IsAscending c → (d : List ℕ) × AreLeaves g n c d
    leaves_of l [] up = ([], record { ascending = tt; within = λ m i. i; below = λ m i. absurd i; others = λ m i b. absurd i })
    leaves_of l (x ∷ xs) up =
        let r = leaves_of l xs up.1 in
        let kept : x < n → CanBeLeaf g x → (d : List ℕ) × AreLeaves g n (x ∷ xs) d = (λ b leaf. (
          x ∷ r.0,
          record {
            ascending = ((λ m i. up.0 m (r.1.within m i)), r.1.ascending);
            within = λ m i. elim i [ inl e ↦ inl e | inr j ↦ inr (r.1.within m j) ];
            below = λ m i. elim i [ inl e ↦ subst (λ z. (z < n) × CanBeLeaf g z) (sym e) (b, leaf) | inr j ↦ r.1.below m j ];
            others = λ m i b. elim i [ inl e ↦ inl (inl e) | inr j ↦ elim (r.1.others m j b) [ inl q ↦ inl (inr q) | inr q ↦ inr q ] ];
          },
        )) in
        let dropped : (x < n → Blocks g [] x) → (d : List ℕ) × AreLeaves g n (x ∷ xs) d = (λ free. (
          r.0,
          record {
            ascending = r.1.ascending;
            within = λ m i. inr (r.1.within m i);
            below = r.1.below;
            others = λ m i b. elim i [ inl e ↦ inr (subst (λ z. Blocks g [] z) (sym e) (free (subst (λ z. z < n) e b))) | inr j ↦ r.1.others m j b ];
          },
        )) in
        elim (cases_lt x n) [
          | inl b ↦ elim (leaf_or_free x (omega arith)) [ inl leaf ↦ kept b leaf | inr free ↦ dropped (λ _. free) ]
          | inr b ↦ dropped (λ c. absurd (omega arith))
        ]

    leaves_block : (c d : List ℕ) → AreLeaves g n c d → (In c n → ⊥) → {m : ℕ} → m ≤ n → Blocks g c m → Blocks g d m
    leaves_block c d are out {m} l (member i) = elim (cases_lt m n) [
      | inl b ↦ elim (are.others m i b) [ inl j ↦ member j | inr f ↦ free_blocked d f ]
      | inr b ↦ absurd (out (let e : m ≡ n = omega arith in subst (λ z. In c z) e i))
    ]
    leaves_block c d are out l (constant e) = constant e
    leaves_block c d are out l (parameter s) = parameter s
    leaves_block c d are out {m} l (fan_ins p is x y) =
        let a : p.y.0 / 2 < m = (node_normal g m p normal is).below in
        let b : p.x.0 / 2 < p.y.0 / 2 = (node_normal g m p normal is).ordered in
        fan_ins p is (leaves_block c d are out (omega arith) x) (leaves_block c d are out (omega arith) y)

    -- Each ascending list of at most k nodes that blocks an AND node has the node itself, or a cut of the node within it.
    pub cut_within : (c : List ℕ) → IsAnd g n → IsAscending c → length c ≤ k → Blocks g c n → In c n ⊎ ((d : List ℕ) × IsCut g k n d × Within d c)
    cut_within c and up few b = elim (in_or c n) [
      | inl i ↦ inl i
      | inr out ↦ (
          let s = leaves_of and.1 c up in
          let short : length s.0 ≤ length c = length_within c s.0 up s.1.ascending s.1.within in
          inr (s.0, record { ascending = s.1.ascending; few = omega arith; below = s.1.below; blocks = leaves_block c s.0 s.1 out (omega arith) b }, s.1.within))
    ]

    -- So it has the node itself, or one of the minimal cuts within it.
    pub contains_one : (cs : List (List ℕ)) → IsAnd g n → AreMinimal g k n cs → EachContainsOne g k n cs
    contains_one cs and are = record {
      each = λ c up few b. elim (cut_within c and up few b) [
        | inl i ↦ inl i
        | inr s ↦ (let r = minimal_within s.0 s.1 in inr (record { by = r.0; in' = are.all r.0 r.1; part = λ m i. s.2 m (r.2 m i) }))
      ];
    }
