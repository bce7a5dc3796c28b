-- Names as sets: whether a name is among them, its place, and names added one by one.
use Rattle.tl_text.proofs.Common.{◌≡◌, ℕ, ◌+◌, ◌<◌, ◌≤◌, Bool, true, false, not, ◌||◌, ltb, List, [], ◌∷◌, ◌++◌, length, is_some, Option, Some, None, refl, sym, ap, ◌∙◌, subst, inl, inr, arith, append_assoc, append-nil, length-append, filter, slice_get, bytes_eq, position_or_len, find, cases_Bool, or_cases, or_left, or_right, cond-true, cond-false, ltb-true, false≢true, none-some, same_Some, cond_some, find_at, list_any-append, In, position_none, list_any-position_none, place_of, has_name, with_name, with_names, AreOnce, rules}
use lib.Pointwise.{bytes_decides}
use Rattle.std.proofs.Math.Bool.{or-false, or_assoc}
use Rattle.list_laws.proofs.Places.{at_within}

-- the test of names says whether a name is a member
pub has_in : (names : List (List ℕ)) (name : List ℕ) → has_name names name ≡ true → In names name
has_in [] name t = absurd (false≢true t)
has_in (n ∷ names) name t = elim (or_cases (bytes_eq name n) (has_name names name) t) [ inl e ↦ inl ((bytes_decides name n).0 e) | inr h ↦ inr (has_in names name h) ]

pub in_has : (names : List (List ℕ)) (name : List ℕ) → In names name → has_name names name ≡ true
in_has [] name i = absurd i
in_has (n ∷ names) name (inl e) = or_left (bytes_eq name n) (has_name names name) ((bytes_decides name n).1 e)
in_has (n ∷ names) name (inr i) = or_right (bytes_eq name n) (has_name names name) (in_has names name i)

-- a name has a place exactly where it is among the names
some_when : {A : Type 0} (o : Option A) (b : Bool) → (b ≡ false → o ≡ None) → (o ≡ None → b ≡ false) → is_some o ≡ b
some_when None b f g = sym (g refl)
some_when (Some x) true f g = refl
some_when (Some x) false f g = absurd (none-some x (sym (f refl)))

pub place_some : (names : List (List ℕ)) (name : List ℕ) → is_some (place_of names name) ≡ has_name names name
place_some names name = some_when (place_of names name) (has_name names name) (position_none (bytes_eq name) names) (list_any-position_none (bytes_eq name) names)

pub place_none : (names : List (List ℕ)) (name : List ℕ) → has_name names name ≡ false → place_of names name ≡ None
place_none names name h = position_none (bytes_eq name) names h

-- at the place of a name stands the name
found_is : (name : List ℕ) (names : List (List ℕ)) (x : List ℕ) → find (bytes_eq name) names ≡ Some x → name ≡ x
found_is name [] x e = absurd (none-some x e)
found_is name (n ∷ ns) x e = elim (cases_Bool (bytes_eq name n)) [
  | inl t ↦ (bytes_decides name n).0 t ∙ same_Some n x (sym (cond-true (bytes_eq name n) (Some n) (find (bytes_eq name) ns) t) ∙ e)
  | inr f ↦ found_is name ns x (sym (cond-false (bytes_eq name n) (Some n) (find (bytes_eq name) ns) f) ∙ e)
]

pub name_place_within : (names : List (List ℕ)) (name : List ℕ) (p : ℕ) → place_of names name ≡ Some p → p < length names
name_place_within names name p e = grind arith

pub place_is : (names : List (List ℕ)) (name : List ℕ) (p : ℕ) → place_of names name ≡ Some p → slice_get names p ≡ Some name
place_is names name p e =
    let at = cond_some (ltb (position_or_len (bytes_eq name) names) (length names)) (position_or_len (bytes_eq name) names) p e in
    let x = at_within names p (name_place_within names name p e) in
    x.1 ∙ ap Some (sym (found_is name names x.0 (find_at (bytes_eq name) names ∙ ap (slice_get names) at.1 ∙ x.1)))

-- two names that differ
pub no_match : (a b : List ℕ) → (a ≡ b → ⊥) → bytes_eq a b ≡ false
no_match a b differ = elim (cases_Bool (bytes_eq a b)) [ inl t ↦ absurd (differ ((bytes_decides a b).0 t)) | inr f ↦ f ]

pub or_nothing : (b c : Bool) → c ≡ false → b || (c || false) ≡ b
or_nothing true c h = refl
or_nothing false c h = ap (λ d. d || false) h

-- one more name
pub has_one_more : (names : List (List ℕ)) (n x : List ℕ) → has_name (names ++ n ∷ []) x ≡ (has_name names x || (bytes_eq x n || false))
has_one_more names n x = list_any-append (bytes_eq x) names (n ∷ [])

-- names of which none stands twice, behind others
once_names : (old index names : List (List ℕ)) → AreOnce names → ((x : List ℕ) → In names x → has_name index x ≡ has_name old x) → with_names index names ≡ index ++ filter (λ x. not (has_name old x)) names
once_names old index [] once same = sym (append-nil index)
once_names old index (n ∷ ns) once same = search (rules, cases_Bool, cond-true, cond-false, has_one_more, or_nothing, bytes_eq, no_match, append_assoc, once_names old index ns once.1 (λ x i. same x (inr i)), once_names old (index ++ n ∷ []) ns once.1 (λ x i. has_one_more index n x ∙ or_nothing (has_name index x) (bytes_eq x n) (no_match x n (λ e. once.0 (subst (In ns) e i))) ∙ same x (inr i)))

keeps_all : (names : List (List ℕ)) → filter (λ x. not (has_name [] x)) names ≡ names
keeps_all [] = refl
keeps_all (n ∷ ns) = ap (λ ms. n ∷ ms) (keeps_all ns)

pub new_names : (names : List (List ℕ)) → AreOnce names → with_names [] names ≡ names
new_names names once = once_names [] [] names once (λ x i. refl) ∙ keeps_all names

pub more_names : (index names : List (List ℕ)) → AreOnce names → with_names index names ≡ index ++ filter (λ x. not (has_name index x)) names
more_names index names once = once_names index index names once (λ x i. refl)

-- what is among names and more of them
or_same : (a b : Bool) → (b ≡ true → a ≡ true) → a ≡ (a || b)
or_same false true h = h refl
or_same a b h = refl

has_with_name : (names : List (List ℕ)) (n x : List ℕ) → has_name (with_name names n) x ≡ (has_name names x || bytes_eq x n)
has_with_name names n x = search (rules, cases_Bool, cond-true, or_same, bytes_eq, bytes_decides, cond-false, has_one_more, or-false)

pub has_with_names : (names more : List (List ℕ)) (x : List ℕ) → has_name (with_names names more) x ≡ (has_name names x || has_name more x)
has_with_names names [] x = sym (or-false (has_name names x))
has_with_names names (n ∷ more) x = has_with_names (with_name names n) more x ∙ ap (λ b. b || has_name more x) (has_with_name names n x) ∙ or_assoc (has_name names x) (bytes_eq x n) (has_name more x)

-- names are added in turn
pub with_names-append : (names some more : List (List ℕ)) → with_names names (some ++ more) ≡ with_names (with_names names some) more
with_names-append names [] more = refl
with_names-append names (name ∷ some) more = with_names-append (with_name names name) some more

-- and are no more than those that were added
with_name-length : (names : List (List ℕ)) (name : List ℕ) → length (with_name names name) ≤ length names + 1
with_name-length names name = search (rules, cases_Bool, length-append)

pub with_names-length : (names more : List (List ℕ)) → length (with_names names more) ≤ length names + length more
with_names-length names [] = omega arith
with_names-length names (name ∷ more) = grind (arith, with_name-length, with_names-length (with_name names name) more)
