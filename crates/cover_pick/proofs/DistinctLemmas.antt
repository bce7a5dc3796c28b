-- Lists of numbers without repeats.
use Rattle.cover_pick.proofs.Common.{◌≡◌, ℕ, ◌<◌, true, false, eqb, List, [], ◌∷◌, ◌++◌, length, refl, sym, inl, inr, arith, eqb-true, In, AllByRecursion, list_any, cases_Bool, eq-eqb, ne_eqb, false≢true, IsDescending, same_test, rules}
use Rattle.std.specs.List.{IsDistinct}
use Rattle.std.specs.Cmp.{IsEquivalence}
use Rattle.std.proofs.lemmas.Map.Made.{length-from_same_keys}

-- membership by the test of equality
pub In-any : (xs : List ℕ) (n : ℕ) → In xs n → list_any (eqb n) xs ≡ true
In-any [] n i = elim i [ ]
In-any (x ∷ xs) n (inl e) = rw (eq-eqb n x e) refl
In-any (x ∷ xs) n (inr i) = elim (cases_Bool (eqb n x)) [ inl t ↦ rw t refl | inr t ↦ rw t (In-any xs n i) ]

pub any_In : (xs : List ℕ) (n : ℕ) → list_any (eqb n) xs ≡ true → In xs n
any_In [] n h = absurd (false≢true h)
any_In (x ∷ xs) n h = elim (cases_Bool (eqb n x)) [ inl t ↦ inl (eqb-true n x t) | inr t ↦ inr (any_In xs n (rw t at h)) ]

apart_push : (x : ℕ) (xs : List ℕ) (n : ℕ) → AllByRecursion (λ y. eqb x y ≡ false) xs → (x ≡ n → ⊥) → AllByRecursion (λ y. eqb x y ≡ false) (xs ++ n ∷ [])
apart_push x [] n a d = (ne_eqb x n d, tt)
apart_push x (y ∷ xs) n a d = (a.0, apart_push x xs n a.1 d)

pub distinct_push : (xs : List ℕ) (n : ℕ) → IsDistinct eqb xs → (In xs n → ⊥) → IsDistinct eqb (xs ++ n ∷ [])
unfolding IsDistinct
distinct_push [] n d no_n = (tt, tt)
distinct_push (x ∷ xs) n d no_n = (apart_push x xs n d.0 (λ e. no_n (inl (sym e))), distinct_push xs n d.1 (λ i. no_n (inr i)))

apart_below : (x : ℕ) (xs : List ℕ) → ((m : ℕ) → In xs m → m < x) → AllByRecursion (λ y. eqb x y ≡ false) xs
apart_below x [] b = tt
apart_below x (y ∷ xs) b = (ne_eqb x y (λ e. let l : y < x = b y (inl refl) in omega arith), apart_below x xs (λ m i. b m (inr i)))

pub distinct_descending : (xs : List ℕ) → IsDescending xs → IsDistinct eqb xs
unfolding IsDistinct
distinct_descending [] d = tt
distinct_descending (x ∷ xs) d = (apart_below x xs d.0, distinct_descending xs d.1)

eqb_laws : IsEquivalence eqb
eqb_laws = search (rules, eq-eqb, same_test, eqb, eqb-true)

-- two lists of the same numbers, each without repeats, are as long
pub length_same : (xs ys : List ℕ) → IsDistinct eqb xs → IsDistinct eqb ys → ((n : ℕ) → In xs n → In ys n) → ((n : ℕ) → In ys n → In xs n) → length xs ≡ length ys
length_same xs ys dx dy to from =
    length-from_same_keys eqb_laws xs ys dx dy
    (λ q. same_test (list_any (eqb q) xs) (list_any (eqb q) ys) (λ t. In-any ys q (to q (any_In xs q t))) (λ t. In-any xs q (from q (any_In ys q t))))

-- so are two descending ones
pub length_descending : (xs ys : List ℕ) → IsDescending xs → IsDescending ys → ((n : ℕ) → In xs n → In ys n) → ((n : ℕ) → In ys n → In xs n) → length xs ≡ length ys
length_descending xs ys a b to from = length_same xs ys (distinct_descending xs a) (distinct_descending ys b) to from
