-- Lists of numbers in order, without repeats.
use Rattle.std.specs.Prelude.{ℕ, ◌<◌, List, [], ◌∷◌}
use Rattle.list_laws.specs.Members.{In}

abbrev pub IsAscending : List ℕ → Type 0
IsAscending [] = Unit {0}
IsAscending (x ∷ xs) = ((n : ℕ) → In xs n → x < n) × IsAscending xs

abbrev pub IsDescending : List ℕ → Type 0
IsDescending [] = Unit {0}
IsDescending (x ∷ xs) = ((n : ℕ) → In xs n → n < x) × IsDescending xs
