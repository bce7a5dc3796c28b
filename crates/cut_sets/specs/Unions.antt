-- The union of two ascending lists.
use Rattle.std.specs.Prelude.{ℕ, Bool, if◌then◌else◌, ◌==◌, nat_lt, List, [], ◌∷◌, ◌⊎◌}
use Rattle.std.specs.List.{list_any, list_all}
use Rattle.cut_sets.specs.Words.{In, Within, IsAscending}

-- an ascending list with one more element
abbrev pub put : ℕ → List ℕ → List ℕ
put x [] = x ∷ []
put x (y ∷ ys) = if nat_lt x y then x ∷ y ∷ ys else if x == y then y ∷ ys else y ∷ put x ys

-- the elements of both
abbrev pub union : List ℕ → List ℕ → List ℕ
union [] b = b
union (x ∷ xs) b = union xs (put x b)

-- is every element of a one of b
abbrev pub subset : List ℕ → List ℕ → Bool
subset a b = list_all (λ x. list_any (λ y. y == x) b) a

-- c is the ascending list of exactly the elements of a and b
pub record IsUnion (a b c : List ℕ) : Type 0 where
  pub ascending : IsAscending c
  pub only : (n : ℕ) → In c n → In a n ⊎ In b n
  pub left : Within a c
  pub right : Within b c
