-- Lists that lie one after another in one list, and where each begins.
use Rattle.std.specs.Prelude.{◌≡◌, ℕ, ◌≤◌, List, [], ◌∷◌, slice_range}

-- the parts of a list between one place and the next
abbrev pub parts_from : {A : Type 0} → ℕ → List ℕ → List A → List (List A)
parts_from start [] items = []
parts_from start (end ∷ ends) items = slice_range items start end ∷ parts_from end ends items

-- the parts that begin at these places; the last place is the end
abbrev pub parts_of : {A : Type 0} → List ℕ → List A → List (List A)
parts_of [] items = []
parts_of (start ∷ ends) items = parts_from start ends items

-- the places do not fall, and the last one is this end
abbrev pub RisesTo : ℕ → ℕ → List ℕ → Type 0
RisesTo last start [] = start ≡ last
RisesTo last start (end ∷ ends) = (start ≤ end) × RisesTo last end ends

-- there is a first place, from which on they do so
abbrev pub StartsTo : ℕ → List ℕ → Type 0
StartsTo last [] = ⊥
StartsTo last (start ∷ ends) = RisesTo last start ends
