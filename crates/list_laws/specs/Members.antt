-- Membership in a list.
use Rattle.std.specs.Prelude.{◌≡◌, ℕ, List, [], ◌∷◌, ◌⊎◌}

-- x is an element of the list
abbrev pub In : {A : Type 0} → List A → A → Type 0
In [] x = ⊥
In (y ∷ ys) x = (x ≡ y) ⊎ In ys x

-- every element of a is one of b
abbrev pub Within : List ℕ → List ℕ → Type 0
Within a b = (n : ℕ) → In a n → In b n
