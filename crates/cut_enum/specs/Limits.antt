-- When a graph has too many cuts for a table.
use Rattle.std.specs.Prelude.{ℕ, ◌+◌, ◌<◌, ◌≤◌, List, length, sum_by}
use Rattle.cut_enum.specs.Words.{Aig, IsAnd, AreMinimal}
use Rattle.cut_enum.specs.Table.{AreRows}
use Rattle.cut_enum.specs.declared.limits.TheConstants.{MOST_OF_A_NODE, MOST_OF_A_TABLE}
use Rattle.cut_enum.specs.declared.table.CutErr.{CutErr}
use Rattle.cut_enum.specs.declared.table.CutErr.TheVariants.{NodeCuts, TotalCuts, Memory}

-- n is an AND node, the nodes below keep the limits, and these are its cuts
pub record Reaches (g : Aig) (k n : ℕ) (rows : List (List (List ℕ))) (cuts : List (List ℕ)) : Type 0 where
  pub node : IsAnd g n
  pub below : AreRows g k n rows
  pub are : AreMinimal g k n cuts

-- What each refusal means: this is the first node that has too many cuts, or with which they are too many
abbrev pub IsLimit : Aig → ℕ → CutErr → Type 0
IsLimit g k (NodeCuts n) = (rows : List (List (List ℕ))) × (cuts : List (List ℕ)) × Reaches g k n rows cuts × (MOST_OF_A_NODE < length cuts)
IsLimit g k (TotalCuts n) = (rows : List (List (List ℕ))) × (cuts : List (List ℕ)) × Reaches g k n rows cuts × (length cuts ≤ MOST_OF_A_NODE) × (MOST_OF_A_TABLE < sum_by length rows + length cuts)
IsLimit g k Memory = ⊥
