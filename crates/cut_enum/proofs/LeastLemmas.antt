-- The least unions of the sets of two lists: which sets they are, and that none is within another.
use Rattle.cut_enum.proofs.Common.{◌≡◌, ℕ, zero, suc, ◌+◌, ◌-◌, ◌<◌, ◌≤◌, true, false, List, [], ◌∷◌, ◌++◌, length, refl, sym, ap, subst, inl, inr, ◌⊎◌, arith, length-append, list_any, cases_Bool, cases_lt, In, Within, IsAscending, In-left, In-append, before, IsOrdered, AreApart, AreClear, subset, union, add, add_holders, leading, holders, unions_at, unions_below, merged, Covers, length_within, same_length_within, same_within, before_shorter, IsAscending-union, union_left, union_right, union_within}
use Rattle.cut_enum.proofs.LevelLemmas.{IsLevel, IsLevel-none, IsLevel-add, IsRising, In-leading, any_part, holders_keep, pairs_keep, add_only, left_covered, right_covered, both_covered}

-- Sets of fewer than n elements, none of which is within another, in order.
pub record IsLeast (n : ℕ) (cs : List (List ℕ)) : Type 0 where
  pub short : (c : List ℕ) → In cs c → length c < n
  pub ascending : (c : List ℕ) → In cs c → IsAscending c
  pub apart : (c d : List ℕ) → In cs c → In cs d → Within c d → c ≡ d
  pub ordered : IsOrdered cs

IsOrdered-append : (cs ds : List (List ℕ)) → IsOrdered cs → IsOrdered ds → ((c d : List ℕ) → In cs c → In ds d → before c d ≡ true) → IsOrdered (cs ++ ds)
IsOrdered-append [] ds o p h = p
IsOrdered-append (c ∷ cs) ds o p h =
    ((λ e i. elim (In-append cs ds e i) [ inl j ↦ o.0 e j | inr j ↦ h c e (inl refl) j ]), IsOrdered-append cs ds o.1 p (λ b d i j. h b d (inr i) j))

apart_joined : (n : ℕ) (base level : List (List ℕ)) (c d : List ℕ) → IsLeast n base → IsLevel n base level → In base c ⊎ In level c → In base d ⊎ In level d → Within c d → c ≡ d
apart_joined n base level c d least more (inl i) (inl j) w = least.apart c d i j w
apart_joined n base level c d least more (inl i) (inr j) w = absurd (more.clear d c j i w)
apart_joined n base level c d least more (inr i) (inl j) w = grind (arith, length_within)
apart_joined n base level c d least more (inr i) (inr j) w = grind (arith, same_length_within)

-- those of n elements after those of fewer
IsLeast-join : (n : ℕ) (base level : List (List ℕ)) → IsLeast n base → IsLevel n base level → IsLeast (suc n) (base ++ level)
IsLeast-join n base level least more = record {
  short = λ c i. elim (In-append base level c i) [
    | inl j ↦ (let l : length c < n = least.short c j in omega arith)
    | inr j ↦ (let l : length c ≡ n = more.exact c j in omega arith)
  ];
  ascending = λ c i. elim (In-append base level c i) [ inl j ↦ least.ascending c j | inr j ↦ more.ascending c j ];
  apart = λ c d i j w. apart_joined n base level c d least more (In-append base level c i) (In-append base level d j) w;
  ordered = IsOrdered-append base level least.ordered more.ordered
      (λ c d i j. let l : length c < n = least.short c i in let m : length d ≡ n = more.exact d j in before_shorter c d (omega arith));
}

-- What adding a good set keeps, adding all of one size keeps.
module _ (size : ℕ) (base : List (List ℕ)) (P : List (List ℕ) → Type 0) (IsGood : List ℕ → Type 0)
    (step : (c : List ℕ) (level : List (List ℕ)) → length c ≡ size → IsGood c → P level → P (add base c level)) where
  pub at_keeps : (xs ys : List (List ℕ)) → ((c d : List ℕ) → In xs c → In ys d → IsGood (union d c)) → ((c : List ℕ) → In xs c → Covers ys c → IsGood c) → ((d : List ℕ) → In ys d → Covers xs d → IsGood d)
      → P [] → P (unions_at size base xs ys)
  at_keeps xs ys unions left right h =
      let parts = leading (size + 1) ys in
      let below = leading size xs in
      let a : P (add_holders size base parts xs []) =
      holders_keep size base P IsGood step parts xs [] (λ c i r. left c i (record { by = r.by; in' = In-leading (size + 1) ys r.by r.in'; part = r.part })) h in
      let b : P (holders size base xs ys) =
      holders_keep size base P IsGood step below ys (add_holders size base parts xs []) (λ d i r. right d i (record { by = r.by; in' = In-leading size xs r.by r.in'; part = r.part })) a in
      pairs_keep size base P IsGood step below (leading size ys) (holders size base xs ys) (λ c d i j. unions c d (In-leading size xs c i) (In-leading size ys d j)) b

-- a union of a set of each list
pub record IsUnionOf (xs ys : List (List ℕ)) (e : List ℕ) : Type 0 where
  pub left : List ℕ
  pub right : List ℕ
  pub in_left : In xs left
  pub in_right : In ys right
  pub is : e ≡ union right left

-- a set that another is within is the union of both
holder_left : (c d : List ℕ) → IsAscending c → Within d c → c ≡ union d c
holder_left c d up w = same_within c (union d c) up (IsAscending-union d c up) (union_right d c) (union_within d c c w (λ n i. i))

holder_right : (c d : List ℕ) → IsAscending c → IsAscending d → Within c d → d ≡ union d c
holder_right c d up down w = same_within d (union d c) down (IsAscending-union d c up) (union_left d c) (union_within d c d (λ n i. i) w)

module _ (xs ys : List (List ℕ)) (x_up : (c : List ℕ) → In xs c → IsAscending c) (y_up : (c : List ℕ) → In ys c → IsAscending c) where
  at_level : (n : ℕ) (base : List (List ℕ)) → IsLevel n base (unions_at n base xs ys)
  at_level n base =
      at_keeps n base (λ s. IsLevel n base s) IsAscending (λ c level l up ok. IsLevel-add n base c level l up ok) xs ys
      (λ c d i j. IsAscending-union d c (x_up c i)) (λ c i _. x_up c i) (λ d j _. y_up d j) (IsLevel-none n base)

  least_below : (n : ℕ) → IsLeast n (unions_below n xs ys)
  least_below zero = record { short = λ c i. absurd i; ascending = λ c i. absurd i; apart = λ c d i j w. absurd i; ordered = tt }
  least_below (suc n) = IsLeast-join n (unions_below n xs ys) (unions_at n (unions_below n xs ys) xs ys) (least_below n) (at_level n (unions_below n xs ys))

  -- the least unions of at most k elements are least sets
  pub IsLeast-merged : (k : ℕ) → IsLeast (suc k) (merged k xs ys)
  IsLeast-merged k = least_below (suc k)

  at_only : (n : ℕ) (base : List (List ℕ)) (e : List ℕ) → In (unions_at n base xs ys) e → IsUnionOf xs ys e
  at_only n base =
      at_keeps n base (λ s. (e : List ℕ) → In s e → IsUnionOf xs ys e) (λ e. IsUnionOf xs ys e)
      (λ c level l good all e i. elim (add_only base c level e i) [ inl q ↦ subst (λ s. IsUnionOf xs ys s) (sym q) good | inr j ↦ all e j ]) xs ys
      (λ c d i j. record { left = c; right = d; in_left = i; in_right = j; is = refl })
      (λ c i r. record { left = c; right = r.by; in_left = i; in_right = r.in'; is = holder_left c r.by (x_up c i) r.part })
      (λ d j r. record { left = r.by; right = d; in_left = r.in'; in_right = j; is = holder_right r.by d (x_up r.by r.in') (y_up d j) r.part })
      (λ e i. absurd i)

  below_only : (n : ℕ) (e : List ℕ) → In (unions_below n xs ys) e → IsUnionOf xs ys e
  below_only zero e i = absurd i
  below_only (suc n) e i = elim (In-append (unions_below n xs ys) (unions_at n (unions_below n xs ys) xs ys) e i) [ inl j ↦ below_only n e j | inr j ↦ at_only n (unions_below n xs ys) e j ]

  -- no smaller union is within a set of n elements, where none of those that it would have within it is
  below_clear : (n : ℕ) (d : List ℕ) → ((e : List ℕ) → IsUnionOf xs ys e → length e < n → Within e d → ⊥) → list_any (λ c. subset c d) (unions_below n xs ys) ≡ false
  below_clear n d h = elim (cases_Bool (list_any (λ c. subset c d) (unions_below n xs ys))) [
    | inl t ↦ absurd (let r : Covers (unions_below n xs ys) d = any_part (unions_below n xs ys) d t in h r.by (below_only n r.by r.in') ((least_below n).short r.by r.in') r.part)
    | inr f ↦ f
  ]

  -- a smaller union has a smaller set of either list within it, and none of these is within another
  pub left_clear : (n : ℕ) → ((c d : List ℕ) → In xs c → In xs d → Within c d → c ≡ d) → AreClear n (unions_below n xs ys) xs
  left_clear n apart d i l =
      below_clear n d
      (λ e u few w. let same : u.left ≡ d = apart u.left d u.in_left i (λ m j. w m (subst (λ s. In s m) (sym u.is) (union_right u.right u.left m j))) in
      let b : length e ≡ length (union u.right u.left) = ap length u.is in
      let c : length u.left ≤ length (union u.right u.left) =
      length_within (union u.right u.left) u.left (IsAscending-union u.right u.left (x_up u.left u.in_left)) (x_up u.left u.in_left) (union_right u.right u.left) in omega (arith, ap length same))

  pub right_clear : (n : ℕ) → ((c d : List ℕ) → In ys c → In ys d → Within c d → c ≡ d) → AreClear n (unions_below n xs ys) ys
  right_clear n apart d i l =
      below_clear n d
      (λ e u few w. let same : u.right ≡ d = apart u.right d u.in_right i (λ m j. w m (subst (λ s. In s m) (sym u.is) (union_left u.right u.left m j))) in
      let b : length e ≡ length (union u.right u.left) = ap length u.is in
      let c : length u.right ≤ length (union u.right u.left) =
      length_within (union u.right u.left) u.right (IsAscending-union u.right u.left (x_up u.left u.in_left)) (y_up u.right u.in_right) (union_left u.right u.left) in omega (arith, ap length same))

  -- each of the least unions is a union
  pub merged_only : (k : ℕ) (e : List ℕ) → In (merged k xs ys) e → IsUnionOf xs ys e
  merged_only k e i = below_only (suc k) e i

  module _ (x_rises : IsRising xs) (y_rises : IsRising ys) where
    -- each union of n elements is covered, by the sizes of both sets
    at_covers : (n : ℕ) (base : List (List ℕ)) (c d : List ℕ) → In xs c → In ys d → length (union d c) ≡ n → Covers (base ++ unions_at n base xs ys) (union d c)
    at_covers n base c d i j l =
        let a : length c ≤ length (union d c) = length_within (union d c) c (IsAscending-union d c (x_up c i)) (x_up c i) (union_right d c) in
        let b : length d ≤ length (union d c) = length_within (union d c) d (IsAscending-union d c (x_up c i)) (y_up d j) (union_left d c) in
        elim (cases_lt (length c) n) [
          | inr h ↦ (
              let q : c ≡ union d c = same_length_within (union d c) c (IsAscending-union d c (x_up c i)) (x_up c i) (union_right d c) (omega arith) in
              subst (λ s. Covers (base ++ unions_at n base xs ys) s) q (left_covered n base xs ys c d y_rises i j (omega arith) (omega arith) (λ m k. subst (λ s. In s m) (sym q) (union_left d c m k))))
          | inl h ↦ elim (cases_lt (length d) n) [
            | inr g ↦ (
                let q : d ≡ union d c = same_length_within (union d c) d (IsAscending-union d c (x_up c i)) (y_up d j) (union_left d c) (omega arith) in
                subst (λ s. Covers (base ++ unions_at n base xs ys) s) q (right_covered n base xs ys c d x_rises i j (omega arith) h (λ m k. subst (λ s. In s m) (sym q) (union_right d c m k))))
            | inl g ↦ both_covered n base xs ys c d x_rises y_rises i j h g l
          ]
        ]

    below_covers : (n : ℕ) (c d : List ℕ) → In xs c → In ys d → length (union d c) < n → Covers (unions_below n xs ys) (union d c)
    below_covers zero c d i j l = absurd (omega arith)
    below_covers (suc n) c d i j l = elim (cases_lt (length (union d c)) n) [
      | inl h ↦ (let r : Covers (unions_below n xs ys) (union d c) = below_covers n c d i j h in record { by = r.by; in' = In-left (unions_below n xs ys) (unions_at n (unions_below n xs ys) xs ys) r.by r.in'; part = r.part })
      | inr h ↦ at_covers n (unions_below n xs ys) c d i j (omega arith)
    ]

    -- each union of at most k elements is covered
    pub merged_covers : (k : ℕ) (c d : List ℕ) → In xs c → In ys d → length (union d c) ≤ k → Covers (merged k xs ys) (union d c)
    merged_covers k c d i j few = below_covers (suc k) c d i j (omega arith)

-- nothing is dropped again
pub length-below : (xs ys : List (List ℕ)) (n more : ℕ) → length (unions_below n xs ys) ≤ length (unions_below (more + n) xs ys)
length-below xs ys n zero = let q : 0 + n ≡ n = omega arith in let e : length (unions_below (0 + n) xs ys) ≡ length (unions_below n xs ys) = ap (λ m. length (unions_below m xs ys)) q in omega arith
length-below xs ys n (suc more) =
    let q : suc more + n ≡ suc (more + n) = omega arith in
    omega (arith, ap (λ m. length (unions_below m xs ys)) q, length-below xs ys n more, length-append (unions_below (more + n) xs ys) (unions_at (more + n) (unions_below (more + n) xs ys) xs ys))

pub sizes_step : (k : ℕ) (xs ys : List (List ℕ)) (n : ℕ) → n ≤ k → length (unions_below (suc n) xs ys) ≤ length (merged k xs ys)
sizes_step k xs ys n l =
    let q : k - n + suc n ≡ suc k = omega arith in
    omega (arith, ap (λ m. length (unions_below m xs ys)) q, length-below xs ys (suc n) (k - n))

-- the same of the lists as the code has them
pub left_clear_at : (size : ℕ) (base cs xs ys : List (List ℕ)) → AreApart xs → AreApart ys → base ≡ unions_below size xs ys → cs ≡ xs → AreClear size base cs
left_clear_at size base cs xs ys x y b c = rw (b, c) (left_clear xs ys x.ascending y.ascending size x.apart)

pub right_clear_at : (size : ℕ) (base cs xs ys : List (List ℕ)) → AreApart xs → AreApart ys → base ≡ unions_below size xs ys → cs ≡ ys → AreClear size base cs
right_clear_at size base cs xs ys x y b c = rw (b, c) (right_clear xs ys x.ascending y.ascending size y.apart)
