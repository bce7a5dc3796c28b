-- The table of cuts: a row for each node.
use Rattle.std.specs.Prelude.{◌≡◌, ℕ, ◌<◌, ◌≤◌, List, [], length, sum_by}
use Rattle.cut_enum.specs.Words.{Aig, first_and, IsAnd, AreMinimal, row_at}
use Rattle.cut_enum.specs.declared.limits.TheConstants.{MOST_OF_A_NODE, MOST_OF_A_TABLE}

-- The rows of the first n nodes, within the limits: the minimal cuts of each AND node, and none of a source.
pub record AreRows (g : Aig) (k n : ℕ) (rows : List (List (List ℕ))) : Type 0 where
  pub count : length rows ≡ n
  pub sources : (m : ℕ) → m < first_and g → row_at rows m ≡ []
  pub each : (m : ℕ) → m < n → IsAnd g m → AreMinimal g k m (row_at rows m)
  pub few : (m : ℕ) → length (row_at rows m) ≤ MOST_OF_A_NODE
  pub total : sum_by length rows ≤ MOST_OF_A_TABLE
