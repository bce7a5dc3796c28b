-- Unions and parts of ascending lists.
use Rattle.cut_sets.proofs.Common.{◌≡◌, ℕ, ◌<◌, true, eqb, List, [], ◌∷◌, refl, sym, subst, inl, inr, ◌⊎◌, arith, list_any, eqb-true, eq-eqb, and_parts, or_cases, or_left, or_right, and_from, false≢true, In, Within, IsAscending, put, union, subset}

-- what holds of `put` at a cell, by the order of the two heads
pub put_at : (P : List ℕ → Type 0) (x y : ℕ) (ys : List ℕ) → (x < y → P (x ∷ y ∷ ys)) → (x ≡ y → P (y ∷ ys)) → (y < x → P (y ∷ put x ys)) → P (put x (y ∷ ys))
put_at P x y ys less same more = grind arith

-- membership in `put`, both ways
pub In-put : (x : ℕ) (c : List ℕ) (n : ℕ) → In (put x c) n → (n ≡ x) ⊎ In c n
In-put x [] n h = h
In-put x (y ∷ ys) n h0 =
    put_at (λ s. In s n → (n ≡ x) ⊎ In (y ∷ ys) n) x y ys (λ a h. h) (λ e h. inr h)
    (λ a h. elim h [ inl e ↦ inr (inl e) | inr i ↦ elim (In-put x ys n i) [ inl e ↦ inl e | inr j ↦ inr (inr j) ] ]) h0

pub put_new : (x : ℕ) (c : List ℕ) → In (put x c) x
put_new x [] = inl refl
put_new x (y ∷ ys) = put_at (λ s. In s x) x y ys (λ a. inl refl) (λ e. inl e) (λ a. inr (put_new x ys))

pub put_old : (x : ℕ) (c : List ℕ) (n : ℕ) → In c n → In (put x c) n
put_old x [] n h = inr h
put_old x (y ∷ ys) n h = put_at (λ s. In s n) x y ys (λ a. inr h) (λ e. h) (λ a. elim h [ inl e ↦ inl e | inr i ↦ inr (put_old x ys n i) ])

pub IsAscending-put : (x : ℕ) (c : List ℕ) → IsAscending c → IsAscending (put x c)
IsAscending-put x [] h = ((λ n i. absurd i), tt)
IsAscending-put x (y ∷ ys) h =
    put_at IsAscending x y ys
    (λ a. ((λ n i. elim i [ inl e ↦ omega arith | inr j ↦ (let k : y < n = h.0 n j in omega arith) ]), h)) (λ e. h)
    (λ a. ((λ n i. elim (In-put x ys n i) [ inl e ↦ omega arith | inr j ↦ h.0 n j ]), IsAscending-put x ys h.1))

-- membership in a union, both ways
pub In-union : (a b : List ℕ) (n : ℕ) → In (union a b) n → In a n ⊎ In b n
In-union [] b n h = inr h
In-union (x ∷ xs) b n h = elim (In-union xs (put x b) n h) [ inl i ↦ inl (inr i) | inr i ↦ elim (In-put x b n i) [ inl e ↦ inl (inl e) | inr j ↦ inr j ] ]

pub union_right : (a b : List ℕ) (n : ℕ) → In b n → In (union a b) n
union_right [] b n h = h
union_right (x ∷ xs) b n h = union_right xs (put x b) n (put_old x b n h)

pub union_left : (a b : List ℕ) (n : ℕ) → In a n → In (union a b) n
union_left [] b n h = elim h [ ]
union_left (x ∷ xs) b n (inl e) = union_right xs (put x b) n (subst (λ m. In (put x b) m) (sym e) (put_new x b))
union_left (x ∷ xs) b n (inr i) = union_left xs (put x b) n i

pub IsAscending-union : (a b : List ℕ) → IsAscending b → IsAscending (union a b)
IsAscending-union [] b h = h
IsAscending-union (x ∷ xs) b h = IsAscending-union xs (put x b) (IsAscending-put x b h)

-- a union is within what both parts are within
pub union_within : (a b c : List ℕ) → Within a c → Within b c → Within (union a b) c
union_within a b c l r n h = elim (In-union a b n h) [ inl i ↦ l n i | inr i ↦ r n i ]

-- the test of a member
pub has_true : (b : List ℕ) (x : ℕ) → list_any (λ y. eqb y x) b ≡ true → In b x
has_true [] x h = absurd (false≢true h)
has_true (y ∷ ys) x h = elim (or_cases (eqb y x) (list_any (λ z. eqb z x) ys) h) [ inl e ↦ inl (sym (eqb-true y x e)) | inr i ↦ inr (has_true ys x i) ]

pub has_from : (b : List ℕ) (x : ℕ) → In b x → list_any (λ y. eqb y x) b ≡ true
has_from [] x h = elim h [ ]
has_from (y ∷ ys) x (inl e) = or_left (eqb y x) (list_any (λ z. eqb z x) ys) (eq-eqb y x (sym e))
has_from (y ∷ ys) x (inr i) = or_right (eqb y x) (list_any (λ z. eqb z x) ys) (has_from ys x i)

-- the test of a part
pub subset_true : (a b : List ℕ) → subset a b ≡ true → Within a b
subset_true [] b h n i = absurd i
subset_true (x ∷ xs) b h n (inl e) = subst (λ m. In b m) (sym e) (has_true b x (and_parts (list_any (λ y. eqb y x) b) (subset xs b) h).0)
subset_true (x ∷ xs) b h n (inr i) = subset_true xs b (and_parts (list_any (λ y. eqb y x) b) (subset xs b) h).1 n i

pub subset_from : (a b : List ℕ) → Within a b → subset a b ≡ true
subset_from [] b w = refl
subset_from (x ∷ xs) b w = and_from (list_any (λ y. eqb y x) b) (subset xs b) (has_from b x (w x (inl refl))) (subset_from xs b (λ n i. w n (inr i)))
