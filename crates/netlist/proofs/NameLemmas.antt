-- Names and other members of lists: what can be decided of them, and lists that are taken apart in two ways.
use Rattle.netlist.proofs.Common.{◌≡◌, ℕ, zero, suc, List, [], ◌∷◌, Some, refl, sym, subst, inl, inr, ◌⊎◌, bytes_eq, ap, ◌∙◌, true, not, slice_get, filter, both_ways, cases_Bool, or_cases, or_left, or_right, not_from_false, none-some, same_Some, bytes_decides, In, In-left, In-right, In-append, get_or, slice_get-get_or, All, In-get, ModelValue, has_name, is_input, inputs_of, AreOnce, model_names, In-filter, in_filter, place_in, apart_once, slice_get-map, option_map}
pub use Rattle.tl_text.proofs.NameSetLemmas.{has_in, in_has}

-- a type that has an element, or none
abbrev pub Decided : Type 0 → Type 0
Decided A = A ⊎ (A → ⊥)

pub same_name : (a b : List ℕ) → Decided (a ≡ b)
same_name a b = elim (cases_Bool (bytes_eq a b)) [ inl t ↦ inl ((bytes_decides a b).0 t) | inr f ↦ inr (λ e. both_ways (bytes_eq a b) f ((bytes_decides a b).1 e)) ]

-- an element of a kind, by its place
pub record Found {A : Type 0} (P : ℕ → A → Type 0) (xs : List A) : Type 0 where
  pub index : ℕ
  pub item : A
  pub at : slice_get xs index ≡ Some item
  pub is : P index item

not_found : {A : Type 0} (P : ℕ → A → Type 0) (x : A) (xs : List A) → (P 0 x → ⊥) → (Found (λ i. P (suc i)) xs → ⊥) → (i : ℕ) (y : A) → slice_get (x ∷ xs) i ≡ Some y → P i y → ⊥
not_found P x xs n o zero y e p = n (subst (P 0) (sym (same_Some x y e)) p)
not_found P x xs n o (suc i) y e p = o (record { index = i; item = y; at = e; is = p })

pub find : {A : Type 0} (P : ℕ → A → Type 0) (xs : List A) → ((i : ℕ) (x : A) → Decided (P i x)) → Decided (Found P xs)
find P [] h = inr (λ f. none-some f.item f.at)
find P (x ∷ xs) h = elim (h 0 x) [
  | inl y ↦ inl (record { index = 0; item = x; at = refl; is = y })
  | inr n ↦ (elim (find (λ i. P (suc i)) xs (λ i. h (suc i))) [
    | inl f ↦ inl (record { index = suc f.index; item = f.item; at = f.at; is = f.is })
    | inr o ↦ inr (λ f. not_found P x xs n o f.index f.item f.at f.is)
  ])
]

-- a member of a kind
pub record Member {A : Type 0} (P : A → Type 0) (xs : List A) : Type 0 where
  pub item : A
  pub member : In xs item
  pub is : P item

pub find_member : {A : Type 0} (P : A → Type 0) (xs : List A) → ((x : A) → Decided (P x)) → Decided (Member P xs)
find_member P xs h = elim (find (λ i. P) xs (λ i. h)) [
  | inl f ↦ inl (record { item = f.item; member = In-get xs f.index f.item f.at; is = f.is })
  | inr o ↦ inr (λ m. let p = place_in xs m.item m.member in o (record { index = p.0; item = m.item; at = p.1; is = m.is }))
]

module _ {A : Type 0} where
  pub not_empty : {ns : List A} (x : A) (xs : List A) → ns ≡ [] → ns ≡ x ∷ xs → ⊥
  not_empty x xs a b = cc

  pub same_first : {ns : List A} (x y : A) (xs ys : List A) → ns ≡ x ∷ xs → ns ≡ y ∷ ys → x ≡ y
  same_first x y xs ys a b = cc

  pub same_rest : {ns : List A} (x y : A) (xs ys : List A) → ns ≡ x ∷ xs → ns ≡ y ∷ ys → xs ≡ ys
  same_rest x y xs ys a b = cc

  pub cons_first : (x y : A) (xs ys : List A) → x ∷ xs ≡ y ∷ ys → x ≡ y
  cons_first x y xs ys e = cc

  pub cons_rest : (x y : A) (xs ys : List A) → x ∷ xs ≡ y ∷ ys → xs ≡ ys
  cons_rest x y xs ys e = cc

-- the inputs of a model are the names that are inputs
pub input_in : (m : ModelValue) (name : List ℕ) → is_input m name ≡ true → In (inputs_of m) name
input_in m name t = elim (cases_Bool (has_name m.inputs name)) [
  | inl y ↦ In-left m.inputs (filter (λ n. not (has_name m.inputs n)) m.clocks) name (has_in m.inputs name y)
  | inr y ↦ In-right m.inputs (filter (λ n. not (has_name m.inputs n)) m.clocks) name (in_filter (λ n. not (has_name m.inputs n)) m.clocks name
      (elim (or_cases (has_name m.inputs name) (has_name m.clocks name) t) [ inl z ↦ absurd (both_ways (has_name m.inputs name) y z) | inr z ↦ has_in m.clocks name z ]) (not_from_false (has_name m.inputs name) y))
]

pub in_input : (m : ModelValue) (name : List ℕ) → In (inputs_of m) name → is_input m name ≡ true
in_input m name i = elim (In-append m.inputs (filter (λ n. not (has_name m.inputs n)) m.clocks) name i) [
  | inl j ↦ or_left (has_name m.inputs name) (has_name m.clocks name) (in_has m.inputs name j)
  | inr j ↦ or_right (has_name m.inputs name) (has_name m.clocks name) (in_has m.clocks name (In-filter (λ n. not (has_name m.inputs n)) m.clocks name j).0)
]

-- models by their names
pub same_number : (models : List ModelValue) (i j : ℕ) (a b : ModelValue) → AreOnce (model_names models) → slice_get models i ≡ Some a → slice_get models j ≡ Some b → a.name ≡ b.name → i ≡ j
same_number models i j a b once p q e =
    let name = λ (m : ModelValue). m.name in
    apart_once (model_names models) i j a.name once (slice_get-map name models i ∙ ap (option_map name) p) (slice_get-map name models j ∙ ap (option_map name) q ∙ ap Some (sym e))

-- what holds of the members holds of all elements
pub all_members : {A : Type 0} (P : A → Type 0) (xs : List A) → ((x : A) → In xs x → P x) → All P xs
all_members P xs h k d b = h (get_or xs k d) (In-get xs k (get_or xs k d) (slice_get-get_or xs k d b))
