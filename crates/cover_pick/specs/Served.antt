-- Rows of cuts over which plans are made.
use Rattle.std.specs.Prelude.{◌≡◌, ℕ, List}
use Rattle.cover_pick.specs.Words.{Aig, IsAnd, row_at, IsOrdered, AreLeastHeights, AreServing, Rule, FewestLeaves}

-- the labels are the least heights, and each AND node has a row of its cuts, one of which is as low as its label
pub record IsServed (g : Aig) (k : ℕ) (label : ℕ → ℕ) (rows : List (List (List ℕ))) : Type 0 where
  pub heights : AreLeastHeights g k label
  pub serving : AreServing g k label rows

-- so for some number of leaves, and the rows are in the order of cuts where the fewest leaves are chosen
pub record IsServing (rule : Rule) (g : Aig) (label : ℕ → ℕ) (rows : List (List (List ℕ))) : Type 0 where
  pub k : ℕ
  pub served : IsServed g k label rows
  pub ordered : rule ≡ FewestLeaves → (n : ℕ) → IsAnd g n → IsOrdered (row_at rows n)
