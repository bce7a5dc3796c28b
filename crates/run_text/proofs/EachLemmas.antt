-- The values of all elements of a list, found one by one.
use Rattle.run_text.proofs.Common.{◌≡◌, ℕ, zero, suc, ◌+◌, ◌≤◌, List, [], ◌∷◌, ◌++◌, length, map, take, drop, Option, Some, None, refl, sym, ap, ◌∙◌, slice_get, take_all, take-append-drop, none-some, same_Some, drop_get, in_front, each_of, take_get, arith}

-- the values of two lists, one behind the other
abbrev joined : {B : Type 0} → Option (List B) → Option (List B) → Option (List B)
joined None rest = None
joined (Some xs) None = None
joined (Some xs) (Some ys) = Some (xs ++ ys)

behind_none : {B : Type 0} (o : Option (List B)) → o ≡ joined (Some []) o
behind_none o = grind arith

none_behind : {B : Type 0} (o : Option (List B)) → joined o None ≡ None
none_behind o = grind arith

front_joined : {B : Type 0} (o : Option B) (xs ys : Option (List B)) → in_front o (joined xs ys) ≡ joined (in_front o xs) ys
front_joined o xs ys = grind arith

each_append : {A B : Type 0} (f : A → Option B) (xs ys : List A) → each_of f (xs ++ ys) ≡ joined (each_of f xs) (each_of f ys)
each_append f [] ys = behind_none (each_of f ys)
each_append f (x ∷ xs) ys = ap (in_front (f x)) (each_append f xs ys) ∙ front_joined (f x) (each_of f xs) (each_of f ys)

each_map : {A B C : Type 0} (f : B → Option C) (g : A → B) (xs : List A) → each_of f (map g xs) ≡ each_of (λ x. f (g x)) xs
each_map f g [] = refl
each_map f g (x ∷ xs) = ap (in_front (f (g x))) (each_map f g xs)

module _ {A B : Type 0} (f : A → Option B) (xs : List A) (i : ℕ) where
  -- the element at a place has a value
  pub each_next : (x : A) → slice_get xs i ≡ Some x → (ys more : List B) (y : B) → f x ≡ Some y → more ≡ ys ++ y ∷ [] → each_of f (take i xs) ≡ Some ys → each_of f (take (i + 1) xs) ≡ Some more
  each_next x at ys more y has added so_far =
      ap (each_of f) (take_get xs i x at) ∙ each_append f (take i xs) (x ∷ []) ∙ ap (λ o. joined o (in_front (f x) (Some []))) so_far
      ∙ ap (λ o. joined (Some ys) (in_front o (Some []))) has ∙ ap (λ l. Some l) (sym added)

  -- or it has none
  pub each_stops : (x : A) → slice_get xs i ≡ Some x → f x ≡ None → each_of f xs ≡ None
  each_stops x at has =
      ap (each_of f) (sym (take-append-drop i xs) ∙ ap (λ l. take i xs ++ l) (drop_get xs i x at)) ∙ each_append f (take i xs) (x ∷ drop (i + 1) xs)
      ∙ ap (λ o. joined (each_of f (take i xs)) (in_front o (each_of f (drop (i + 1) xs)))) has ∙ none_behind (each_of f (take i xs))

  -- all of them have one
  pub each_all : (ys : List B) → each_of f (take i xs) ≡ Some ys → length xs ≤ i → each_of f xs ≡ Some ys
  each_all ys so_far past = ap (each_of f) (sym (take_all i xs past)) ∙ so_far

-- the same for what a function gives of the elements
module _ {A B C : Type 0} (f : B → Option C) (g : A → B) (xs : List A) (i : ℕ) where
  pub each_next_of : (x : A) → slice_get xs i ≡ Some x → (ys more : List C) (y : C) → f (g x) ≡ Some y → more ≡ ys ++ y ∷ [] → each_of f (map g (take i xs)) ≡ Some ys → each_of f (map g (take (i + 1) xs)) ≡ Some more
  each_next_of x at ys more y has added so_far =
      each_map f g (take (i + 1) xs) ∙ each_next (λ z. f (g z)) xs i x at ys more y has added (sym (each_map f g (take i xs)) ∙ so_far)

  pub each_stops_of : (x : A) → slice_get xs i ≡ Some x → f (g x) ≡ None → each_of f (map g xs) ≡ None
  each_stops_of x at has = each_map f g xs ∙ each_stops (λ z. f (g z)) xs i x at has

  pub each_all_of : (ys : List C) → each_of f (map g (take i xs)) ≡ Some ys → length xs ≤ i → each_of f (map g xs) ≡ Some ys
  each_all_of ys so_far past = ap (λ l. each_of f (map g l)) (sym (take_all i xs past)) ∙ so_far

-- no element has two values
pub each_once : {A B : Type 0} (f : A → Option B) (xs : List A) (ys zs : List B) → each_of f xs ≡ Some ys → each_of f xs ≡ Some zs → ys ≡ zs
each_once f xs ys zs a b = same_Some ys zs (sym a ∙ b)

-- a value comes from the element at its place
front_parts : {B : Type 0} (o : Option B) (rest : Option (List B)) (ys : List B) → in_front o rest ≡ Some ys → (y : B) × (zs : List B) × (o ≡ Some y) × (rest ≡ Some zs) × (ys ≡ y ∷ zs)
front_parts o rest ys e = grind (arith, none-some, same_Some)

pub record ComesFrom {A B : Type 0} (f : A → Option B) (xs : List A) (i : ℕ) (y : B) : Type 0 where
  pub source : A
  pub there : slice_get xs i ≡ Some source
  pub is : f source ≡ Some y

pub each_at : {A B : Type 0} (f : A → Option B) (xs : List A) (ys : List B) (i : ℕ) (y : B) → each_of f xs ≡ Some ys → slice_get ys i ≡ Some y → ComesFrom f xs i y
each_at f [] ys i y e at = absurd (none-some y (ap (λ l. slice_get l i) (same_Some [] ys e) ∙ at))
each_at f (x ∷ xs) ys zero y e at = grind (arith, front_parts)
each_at f (x ∷ xs) ys (suc i) y e at =
    let p = front_parts (f x) (each_of f xs) ys e in
    let r = each_at f xs p.1 i y p.3 (ap (λ l. slice_get l (suc i)) (sym p.4) ∙ at) in
    record { source = r.source; there = r.there; is = r.is }
