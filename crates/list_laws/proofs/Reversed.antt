-- The members of a reversed list.
use Rattle.list_laws.proofs.Common.{List, [], ◌∷◌, reverse, ◌⊎◌, inl, inr, In}
use mathlib.Core.List.{reverse_aux}

-- what stands in a reversed list stands in the list
reversed_parts : {A : Type 0} (xs ys : List A) (x : A) → In (reverse_aux xs ys) x → In xs x ⊎ In ys x
reversed_parts [] ys x i = inr i
reversed_parts (y ∷ xs) ys x i = elim (reversed_parts xs (y ∷ ys) x i) [ inl j ↦ inl (inr j) | inr (inl e) ↦ inl (inl e) | inr (inr j) ↦ inr j ]

pub reversed_in : {A : Type 0} (xs : List A) (x : A) → In (reverse xs) x → In xs x
reversed_in xs x i = elim (reversed_parts xs [] x i) [ inl j ↦ j | inr o ↦ absurd o ]

-- and the other way
to_reversed : {A : Type 0} (xs ys : List A) (x : A) → In xs x ⊎ In ys x → In (reverse_aux xs ys) x
to_reversed [] ys x (inl i) = absurd i
to_reversed [] ys x (inr i) = i
to_reversed (y ∷ xs) ys x (inl (inl e)) = to_reversed xs (y ∷ ys) x (inr (inl e))
to_reversed (y ∷ xs) ys x (inl (inr i)) = to_reversed xs (y ∷ ys) x (inl i)
to_reversed (y ∷ xs) ys x (inr i) = to_reversed xs (y ∷ ys) x (inr (inr i))

pub in_reversed : {A : Type 0} (xs : List A) (x : A) → In xs x → In (reverse xs) x
in_reversed xs x i = to_reversed xs [] x (inl i)
