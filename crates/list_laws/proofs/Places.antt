-- The elements of a list by their places: of joined lists, of what is left after a place, and with one element set.
use Rattle.list_laws.proofs.Common.{◌≡◌, ◌⊎◌, ℕ, zero, suc, ◌+◌, ◌<◌, ◌≤◌, eqb, List, [], ◌∷◌, ◌++◌, length, drop, take, map, Some, None, replicate, refl, sym, ap, ◌∙◌, subst, inl, inr, arith, eqb-true, eq-eqb, slice_set, slice_get, both_ways, cases_Bool, none-some, same_Some}

-- each place within a list has an element, and past the last one there is none
pub at_within : {A : Type 0} (xs : List A) (i : ℕ) → i < length xs → (x : A) × (slice_get xs i ≡ Some x)
at_within [] i h = absurd (omega arith)
at_within (x ∷ xs) zero h = (x, refl)
at_within (x ∷ xs) (suc i) h = at_within xs i (omega arith)

pub past_end : {A : Type 0} (xs : List A) (i : ℕ) → slice_get xs i ≡ None → length xs ≤ i
past_end [] i e = omega arith
past_end (x ∷ xs) zero e = absurd (none-some x (sym e))
past_end (x ∷ xs) (suc i) e = let l : length xs ≤ i = past_end xs i e in omega arith

-- joined lists
pub get_left : {A : Type 0} (xs ys : List A) (i : ℕ) (x : A) → slice_get xs i ≡ Some x → slice_get (xs ++ ys) i ≡ Some x
get_left [] ys i x e = absurd (none-some x e)
get_left (y ∷ xs) ys zero x e = e
get_left (y ∷ xs) ys (suc i) x e = get_left xs ys i x e

pub get_before : {A : Type 0} (xs ys : List A) (i : ℕ) → i < length xs → slice_get (xs ++ ys) i ≡ slice_get xs i
get_before [] ys i l = absurd (omega arith)
get_before (x ∷ xs) ys zero l = refl
get_before (x ∷ xs) ys (suc i) l = get_before xs ys i (omega arith)

pub get_end : {A : Type 0} (xs : List A) (y : A) (ys : List A) → slice_get (xs ++ y ∷ ys) (length xs) ≡ Some y
get_end [] y ys = refl
get_end (x ∷ xs) y ys = get_end xs y ys

-- with one more at the end: an old one, or the new one
pub get_pushed : {A : Type 0} (xs : List A) (y : A) (i : ℕ) (x : A) → slice_get (xs ++ y ∷ []) i ≡ Some x → (slice_get xs i ≡ Some x) ⊎ ((i ≡ length xs) × (y ≡ x))
get_pushed [] y zero x h = inr (refl, same_Some y x h)
get_pushed [] y (suc i) x h = absurd (none-some x h)
get_pushed (z ∷ xs) y zero x h = inl h
get_pushed (z ∷ xs) y (suc i) x h = elim (get_pushed xs y i x h) [ inl e ↦ inl e | inr e ↦ inr (ap suc e.0, e.1) ]

-- what is left from a place on
pub drop_get : {A : Type 0} (xs : List A) (i : ℕ) (x : A) → slice_get xs i ≡ Some x → drop i xs ≡ x ∷ drop (i + 1) xs
drop_get [] i x e = absurd (none-some x e)
drop_get (y ∷ xs) zero x e = ap (λ z. z ∷ xs) (same_Some y x e)
drop_get (y ∷ xs) (suc i) x e = let n : suc i + 1 ≡ suc (i + 1) = omega arith in subst (λ z. drop i xs ≡ x ∷ drop z (y ∷ xs)) (sym n) (drop_get xs i x e)

pub drop_past : {A : Type 0} (xs : List A) (i : ℕ) → length xs ≤ i → drop i xs ≡ []
drop_past [] zero l = refl
drop_past [] (suc i) l = refl
drop_past (x ∷ xs) zero l = absurd (omega arith)
drop_past (x ∷ xs) (suc i) l = drop_past xs i (omega arith)

-- what is taken up to behind a place
pub take_get : {A : Type 0} (xs : List A) (i : ℕ) (x : A) → slice_get xs i ≡ Some x → take (i + 1) xs ≡ take i xs ++ x ∷ []
take_get [] i x e = absurd (none-some x e)
take_get (y ∷ ys) zero x e = ap (λ z. z ∷ []) (same_Some y x e)
take_get (y ∷ ys) (suc i) x e = let n : suc i + 1 ≡ suc (i + 1) = omega arith in subst (λ m. take m (y ∷ ys) ≡ y ∷ (take i ys ++ x ∷ [])) (sym n) (ap (λ l. y ∷ l) (take_get ys i x e))

-- lists of one length whose elements are the same place by place
pub same_list : {A : Type 0} (xs ys : List A) → length xs ≡ length ys → ((i : ℕ) (x y : A) → slice_get xs i ≡ Some x → slice_get ys i ≡ Some y → x ≡ y) → xs ≡ ys
same_list [] [] n h = refl
same_list (x ∷ xs) (y ∷ ys) n h =
    ap (λ z. z ∷ xs) (h 0 x y refl refl) ∙ ap (λ zs. y ∷ zs) (same_list xs ys (omega arith) (λ i a b e f. h (suc i) a b e f))
same_list xs ys n h = absurd (omega arith)

-- an element of a mapped list
pub mapped_at : {A B : Type 0} (f : A → B) (xs : List A) (i : ℕ) (y : B) → slice_get (map f xs) i ≡ Some y → (x : A) × (slice_get xs i ≡ Some x) × (y ≡ f x)
mapped_at f [] i y e = absurd (none-some y e)
mapped_at f (x ∷ xs) zero y e = (x, refl, sym (same_Some (f x) y e))
mapped_at f (x ∷ xs) (suc i) y e = mapped_at f xs i y e

-- a list of one element many times
pub replicate_at : {A : Type 0} (n i : ℕ) (x : A) → i < n → slice_get (replicate n x) i ≡ Some x
replicate_at zero i x l = absurd (omega arith)
replicate_at (suc n) zero x l = refl
replicate_at (suc n) (suc i) x l = replicate_at n i x (omega arith)

-- one element set
pub set_here : {A : Type 0} (xs : List A) (i : ℕ) (y : A) → i < length xs → slice_get (slice_set xs i y) i ≡ Some y
set_here [] i y l = absurd (omega arith)
set_here (x ∷ xs) zero y l = refl
set_here (x ∷ xs) (suc i) y l = set_here xs i y (omega arith)

pub set_other : {A : Type 0} (xs : List A) (i j : ℕ) (y : A) → (j ≡ i → ⊥) → slice_get (slice_set xs i y) j ≡ slice_get xs j
set_other (x ∷ xs) zero zero y o = absurd (o refl)
set_other (x ∷ xs) (suc i) (suc j) y o = set_other xs i j y (λ e. o (ap suc e))
set_other xs i j y o = refl

pub set_length : {A : Type 0} (xs : List A) (i : ℕ) (y : A) → length (slice_set xs i y) ≡ length xs
set_length (x ∷ xs) (suc i) y = ap suc (set_length xs i y)
set_length xs i y = refl

-- two places are one, or they differ
pub same_or : (i j : ℕ) → (i ≡ j) ⊎ (i ≡ j → ⊥)
same_or i j = elim (cases_Bool (eqb i j)) [ inl t ↦ inl (eqb-true i j t) | inr f ↦ inr (λ e. both_ways (eqb i j) f (eq-eqb i j e)) ]
