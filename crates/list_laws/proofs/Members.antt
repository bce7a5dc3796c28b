-- Members of lists: by their places, of joined, of mapped and of filtered lists.
use Rattle.list_laws.proofs.Common.{◌≡◌, ◌⊎◌, ℕ, zero, suc, ◌<◌, ◌≤◌, Bool, true, cond, List, [], ◌∷◌, ◌++◌, length, get_or, map, Some, refl, sym, ap, ◌∙◌, subst, inl, inr, arith, filter, slice_get, cases_eq, none-some, same_Some, In, rules}
use Rattle.list_laws.proofs.Choice.{choose, choose_one}

-- the element at a place is a member
pub In-get_or : {A : Type 0} (xs : List A) (i : ℕ) (d : A) → i < length xs → In xs (get_or xs i d)
In-get_or [] i d h = absurd (omega arith)
In-get_or (x ∷ xs) zero d h = inl refl
In-get_or (x ∷ xs) (suc i) d h = inr (In-get_or xs i d (omega arith))

pub In-get : {A : Type 0} (xs : List A) (i : ℕ) (x : A) → slice_get xs i ≡ Some x → In xs x
In-get [] i x e = absurd (none-some x e)
In-get (y ∷ xs) zero x e = inl (sym (same_Some y x e))
In-get (y ∷ xs) (suc i) x e = inr (In-get xs i x e)

-- a number is a member, or it is none
pub in_or : (ns : List ℕ) (n : ℕ) → In ns n ⊎ (In ns n → ⊥)
in_or [] n = inr (λ i. i)
in_or (m ∷ ms) n = search (rules, cases_eq, in_or ms n)

pub In-place : (xs : List ℕ) (m : ℕ) → In xs m → (j : ℕ) × (j < length xs) × (get_or xs j 0 ≡ m)
In-place [] m i = absurd i
In-place (x ∷ xs) m (inl e) = (0, omega arith, sym e)
In-place (x ∷ xs) m (inr i) = let r = In-place xs m i in (suc r.0, (let l : r.0 < length xs = r.1 in omega arith), r.2)

-- and a member stands at a place
pub place_in : {A : Type 0} (xs : List A) (x : A) → In xs x → (i : ℕ) × (slice_get xs i ≡ Some x)
place_in [] x h = absurd h
place_in (y ∷ xs) x (inl e) = (0, ap Some (sym e))
place_in (y ∷ xs) x (inr i) = let r = place_in xs x i in (suc r.0, r.1)

-- the members of joined lists are those of both
pub In-left : {A : Type 0} (xs ys : List A) (x : A) → In xs x → In (xs ++ ys) x
In-left [] ys x h = absurd h
In-left (y ∷ xs) ys x (inl e) = inl e
In-left (y ∷ xs) ys x (inr i) = inr (In-left xs ys x i)

pub In-right : {A : Type 0} (xs ys : List A) (x : A) → In ys x → In (xs ++ ys) x
In-right [] ys x h = h
In-right (y ∷ xs) ys x h = inr (In-right xs ys x h)

pub In-append : {A : Type 0} (xs ys : List A) (x : A) → In (xs ++ ys) x → In xs x ⊎ In ys x
In-append [] ys x i = inr i
In-append (y ∷ xs) ys x (inl e) = inl (inl e)
In-append (y ∷ xs) ys x (inr i) = elim (In-append xs ys x i) [ inl j ↦ inl (inr j) | inr j ↦ inr j ]

-- of a list with one more at the end: an old one, or the new one
pub In-push : {A : Type 0} (xs : List A) (y x : A) → In (xs ++ y ∷ []) x → In xs x ⊎ (x ≡ y)
In-push xs y x i = elim (In-append xs (y ∷ []) x i) [ inl j ↦ inl j | inr j ↦ elim j [ inl e ↦ inr e | inr b ↦ absurd b ] ]

pub In-pushed : {A : Type 0} (xs : List A) (y : A) → In (xs ++ y ∷ []) y
In-pushed xs y = In-right xs (y ∷ []) y (inl refl)

-- what a member is mapped to is a member of the mapped list
pub In-map : {A B : Type 0} (f : A → B) (xs : List A) (x : A) → In xs x → In (map f xs) (f x)
In-map f [] x h = h
In-map f (y ∷ ys) x (inl e) = inl (ap f e)
In-map f (y ∷ ys) x (inr i) = inr (In-map f ys x i)

-- and each member of that list comes from one
pub from_map : {A B : Type 0} (f : A → B) (xs : List A) (y : B) → In (map f xs) y → (x : A) × In xs x × (y ≡ f x)
from_map f [] y i = absurd i
from_map f (x ∷ xs) y (inl e) = (x, inl refl, e)
from_map f (x ∷ xs) y (inr i) = let r = from_map f xs y i in (r.0, inr r.1, r.2)

-- the members of a filtered list are those that pass the test
pub In-filter : {A : Type 0} (test : A → Bool) (xs : List A) (x : A) → In (filter test xs) x → In xs x × (test x ≡ true)
In-filter test [] x i = absurd i
In-filter test (y ∷ ys) x i = choose (λ l. In l x → In (y ∷ ys) x × (test x ≡ true)) (test y) (y ∷ filter test ys) (filter test ys)
    (λ t j. elim j [ inl e ↦ (inl e, ap test e ∙ t) | inr k ↦ (let r = In-filter test ys x k in (inr r.0, r.1)) ])
    (λ u j. let r = In-filter test ys x j in (inr r.0, r.1)) i

pub in_filter : {A : Type 0} (test : A → Bool) (xs : List A) (x : A) → In xs x → test x ≡ true → In (filter test xs) x
in_filter test [] x i t = absurd i
in_filter test (y ∷ ys) x (inl e) t = subst (λ b. In (cond b (y ∷ filter test ys) (filter test ys)) x) (sym (ap test (sym e) ∙ t)) (inl e)
in_filter test (y ∷ ys) x (inr i) t = choose (λ zs. In zs x) (test y) (y ∷ filter test ys) (filter test ys) (λ _. inr (in_filter test ys x i t)) (λ _. in_filter test ys x i t)

-- and are no more than those of the list
pub length-filter_le : {A : Type 0} (test : A → Bool) (xs : List A) → length (filter test xs) ≤ length xs
length-filter_le test [] = omega arith
length-filter_le test (x ∷ xs) = grind (arith, choose_one, length-filter_le test xs)

-- two functions that agree at each member map a list alike
pub map_agree : {A B : Type 0} (f g : A → B) (xs : List A) → ((x : A) → In xs x → f x ≡ g x) → map f xs ≡ map g xs
map_agree f g [] h = refl
map_agree f g (x ∷ xs) h = ap (λ y. y ∷ map f xs) (h x (inl refl)) ∙ ap (λ ys. g x ∷ ys) (map_agree f g xs (λ z i. h z (inr i)))
