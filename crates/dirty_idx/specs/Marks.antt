-- A set of numbers below a size, by its marks: one for each of these numbers, in their order.
use Rattle.std.specs.Prelude.{◌≡◌, ℕ, ◌<◌, Bool, true, false, List, length, Option, Some, None, slice_set}
-- is a number a member
pub use Rattle.list_laws.specs.Digits.{bit_in as is_marked}

-- i is the least member
pub record IsLeast (marks : List Bool) (i : ℕ) : Type 0 where
  pub within : i < length marks
  pub marked : is_marked marks i ≡ true
  pub least : (j : ℕ) → j < i → is_marked marks j ≡ false

-- there is no member
pub record IsEmpty (marks : List Bool) : Type 0 where
  pub none : (i : ℕ) → is_marked marks i ≡ false

-- the set without one of its members, where one is given
abbrev pub without : List Bool → Option ℕ → List Bool
without marks None = marks
without marks (Some i) = slice_set marks i false
