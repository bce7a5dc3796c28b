-- Names seen as plain lists: their places, and one more of them.
use Rattle.tl_text.proofs.Common.{◌≡◌, ℕ, ◌+◌, Bool, false, not, ◌||◌, cond, inl, inr, bytes_eq, List, [], ◌∷◌, ◌++◌, map, None, refl, sym, subst, ap, Result, Ok, Err, IfOk, OnErr, position, position_or_len, list_any, length-map, cases_Bool, cond-true, cond-false, both_ways, or_parts, In, list_any-position_none, place_of, has_name, with_name, AreOnce, rules}
use Rattle.std.proofs.lemmas.Slice.Eq.{bytes_eq-Decides}
use Rattle.list_laws.proofs.Apart.{pushed_apart}

pub position_or_len-map : {X Y : Type 0} (test : Y → Bool) (f : X → Y) (xs : List X) → position_or_len test (map f xs) ≡ position_or_len (λ x. test (f x)) xs
position_or_len-map test f [] = refl
position_or_len-map test f (x ∷ xs) = ap (λ n. cond (not (test (f x))) (1 + n) 0) (position_or_len-map test f xs)

pub position-map : {X Y : Type 0} (test : Y → Bool) (f : X → Y) (xs : List X) → position test (map f xs) ≡ position (λ x. test (f x)) xs
position-map test f xs = rw (position_or_len-map test f xs, length-map xs f) refl

pub list_any-map : {X Y : Type 0} (test : Y → Bool) (f : X → Y) (xs : List X) → list_any test (map f xs) ≡ list_any (λ x. test (f x)) xs
list_any-map test f [] = refl
list_any-map test f (x ∷ xs) = ap (λ b. test (f x) || b) (list_any-map test f xs)

-- a name that isn't found isn't there
pub not_there : (names : List (List ℕ)) (name : List ℕ) → list_any (bytes_eq name) names ≡ false → In names name → ⊥
not_there [] name h i = i
not_there (y ∷ ys) name h (inl e) = both_ways (bytes_eq name y) (or_parts (bytes_eq name y) (list_any (bytes_eq name) ys) h).0 ((bytes_eq-Decides name y).1 e)
not_there (y ∷ ys) name h (inr i) = not_there ys name (or_parts (bytes_eq name y) (list_any (bytes_eq name) ys) h).1 i

-- the names after one is inserted
with_one : (names : List (List ℕ)) (name : List ℕ) → AreOnce names → AreOnce (with_name names name)
with_one names name once = search (rules, cases_Bool, cond-true, cond-false, pushed_apart, not_there)

-- and a new one stands behind the others
pub with_new : (names : List (List ℕ)) (name : List ℕ) → place_of names name ≡ None → with_name names name ≡ names ++ name ∷ []
with_new names name none = cond-false (has_name names name) names (names ++ name ∷ []) (list_any-position_none (bytes_eq name) names none)

-- none stands twice after an insertion that may fail
pub once_kept : {V E : Type 0} (result : Result V E) (names news : List (List ℕ)) (name : List ℕ) → IfOk result (λ _. news ≡ with_name names name) → OnErr result (news ≡ names) → AreOnce names → AreOnce news
once_kept (Ok v) names news name is same once = subst AreOnce (sym is) (with_one names name once)
once_kept (Err e) names news name is same once = subst AreOnce (sym same) once
