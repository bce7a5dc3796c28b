-- The first place of a list at which a test passes.
use Rattle.list_laws.proofs.Common.{◌≡◌, ℕ, zero, suc, ◌+◌, ◌<◌, ◌≤◌, Bool, true, false, not, cond, ltb, List, [], ◌∷◌, length, get_or, Some, None, refl, sym, ap, ◌∙◌, subst, inl, inr, arith, slice_get_within, get_or_from_slice_get, ltb-false, cond-true, cond-false, lt-ltb, le-ltb, or_parts, cases_Bool}
use Rattle.std.specs.List.{slice_get, position, position_or_len, list_any}
use Rattle.std.proofs.lemmas.List.Sums.{fails_before_first}
use Rattle.list_laws.proofs.Choice.{none_then}

-- where it is
first_place : {A : Type 0} (test : A → Bool) (xs : List A) (i : ℕ) (d : A) → i < length xs → test (get_or xs i d) ≡ true → ((k : ℕ) → k < i → test (get_or xs k d) ≡ false) → position_or_len test xs ≡ i
first_place test [] i d w here apart = absurd (omega arith)
first_place test (x ∷ xs) zero d w here apart = ap (λ b. cond (not b) (1 + position_or_len test xs) 0) here
first_place test (x ∷ xs) (suc i) d w here apart =
    let e : position_or_len test xs ≡ i = first_place test xs i d (omega arith) here (λ k l. apart (suc k) (omega arith)) in
    ap (λ b. cond (not b) (1 + position_or_len test xs) 0) (apart 0 (omega arith)) ∙ (omega arith)

pub position_is : {A : Type 0} (test : A → Bool) (xs : List A) (i : ℕ) (d : A) → i < length xs → test (get_or xs i d) ≡ true → ((k : ℕ) → k < i → test (get_or xs k d) ≡ false) → position test xs ≡ Some i
position_is test xs i d w here apart =
    subst (λ q. cond (ltb q (length xs)) (Some q) None ≡ Some i) (sym (first_place test xs i d w here apart)) (cond-true (ltb i (length xs)) (Some i) None (lt-ltb i (length xs) w))

-- there is none where nothing passes
pub none_pass : {A : Type 0} (test : A → Bool) (xs : List A) → list_any test xs ≡ false → position_or_len test xs ≡ length xs
none_pass test [] h = refl
none_pass test (x ∷ xs) h =
    let p = or_parts (test x) (list_any test xs) h in
    ap (λ b. cond (not b) (1 + position_or_len test xs) 0) p.0 ∙ (let e : 1 + position_or_len test xs ≡ suc (length xs) = omega (arith, none_pass test xs p.1) in e)

pub position_none : {A : Type 0} (test : A → Bool) (xs : List A) → list_any test xs ≡ false → position test xs ≡ None
position_none test xs h =
    subst (λ q. cond (ltb q (length xs)) (Some q) None ≡ None) (sym (none_pass test xs h)) (cond-false (ltb (length xs) (length xs)) (Some (length xs)) None (le-ltb (length xs) (length xs) (omega arith)))

-- and only there
past_all : {A : Type 0} (test : A → Bool) (xs : List A) → length xs ≤ position_or_len test xs → list_any test xs ≡ false
past_all test [] h = refl
past_all test (x ∷ xs) h = elim (cases_Bool (test x)) [ inl t ↦ absurd (let e : position_or_len test (x ∷ xs) ≡ 0 = rw t refl in omega arith) | inr t ↦ rw t (past_all test xs (let e : position_or_len test (x ∷ xs) ≡ 1 + position_or_len test xs = rw t refl in omega arith)) ]

past_none : {A : Type 0} (test : A → Bool) (xs : List A) → position test xs ≡ None → length xs ≤ position_or_len test xs
past_none test xs none = ltb-false (position_or_len test xs) (length xs) (none_then (ltb (position_or_len test xs) (length xs)) (position_or_len test xs) none)

pub list_any-position_none : {A : Type 0} (test : A → Bool) (xs : List A) → position test xs ≡ None → list_any test xs ≡ false
list_any-position_none test xs none = past_all test xs (past_none test xs none)

-- so no element passes
pub fails_everywhere : {A : Type 0} (test : A → Bool) (xs : List A) (i : ℕ) (x : A) → position test xs ≡ None → slice_get xs i ≡ Some x → test x ≡ false
fails_everywhere test xs i x none at =
    rw (get_or_from_slice_get xs i x x at) at (fails_before_first test xs i x (omega (arith, past_none test xs none, slice_get_within xs i x at)))
