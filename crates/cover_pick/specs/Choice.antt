-- The rule by which a cut is chosen for a node with a required depth.
use Rattle.std.specs.Prelude.{◌≡◌, ℕ, ◌<◌, ◌≤◌, true, List, length, ◌⊎◌}
use Rattle.cover_pick.specs.Words.{In, lex, height}

-- c is chosen before d: it has fewer leaves, or as many and a lower height, or as many and the same and comes no later
pub data Precedes (label : ℕ → ℕ) (c d : List ℕ) : Type 0 where
  fewer : length c < length d → Precedes label c d
  lower : length c ≡ length d → height label c < height label d → Precedes label c d
  before : length c ≡ length d → height label c ≡ height label d → (c ≡ d) ⊎ (lex c d ≡ true) → Precedes label c d

-- among the cuts of a height of at most r the one with the fewest leaves, then the least height, then the lexicographically least list
pub record IsChosen (label : ℕ → ℕ) (r : ℕ) (cs : List (List ℕ)) (c : List ℕ) : Type 0 where
  pub one : In cs c
  pub low : height label c ≤ r
  pub first : (d : List ℕ) → In cs d → height label d ≤ r → Precedes label c d
