-- Labels and best cuts: the least depth at which each node can stand, and a cut that reaches it.
use Rattle.std.specs.Prelude.{◌≡◌, ℕ, ◌<◌, ◌≤◌, true, List, [], slice_index_or, ◌⊎◌}
use Rattle.aig_core.specs.Aig.{Aig, first_and, node_count, IsAnd}
use Rattle.list_laws.specs.Members.{In}
use Rattle.cut_sets.specs.Sets.{before}
use Rattle.cut_sets.specs.Labels.{height, label_at}
use Rattle.cut_enum.specs.Table.{AreRows}
use Rattle.cut_sets.specs.Rows.{row_at}

-- a label is 0 at a source and past the last node, and the least height of an AND node's minimal cuts
pub record AreLabels (g : Aig) (cuts : ℕ → List (List ℕ)) (label : ℕ → ℕ) : Type 0 where
  pub sources : (n : ℕ) → n < first_and g → label n ≡ 0
  pub past : (n : ℕ) → node_count g ≤ n → label n ≡ 0
  pub least : (n : ℕ) (c : List ℕ) → IsAnd g n → In (cuts n) c → label n ≤ height label c
  pub met : (n : ℕ) → IsAnd g n → (c : List ℕ) × In (cuts n) c × (label n ≡ height label c)

-- what labels are seen as: one label and one best cut a node
pub record LabelsValue : Type 0 where
  pub labels : List ℕ
  pub best : List (List ℕ)

-- the label of a node, 0 past the last one
abbrev pub label_of : LabelsValue → ℕ → ℕ
label_of v n = label_at v.labels n

-- the best cut of a node, none of a source
abbrev pub best_of : LabelsValue → ℕ → List ℕ
best_of v n = slice_index_or v.best n []

-- the table of all nodes' minimal cuts, of at least two leaves each where they need them
pub record IsCutTable (g : Aig) (rows : List (List (List ℕ))) : Type 0 where
  pub k : ℕ
  pub two : 2 ≤ k
  pub are : AreRows g k (node_count g) rows

-- c is as good as d: its height is lower, or the same, and then it has fewer leaves, or as many and comes no later
pub data IsAsGood (label : ℕ → ℕ) (c d : List ℕ) : Type 0 where
  lower : height label c < height label d → IsAsGood label c d
  tie : height label c ≡ height label d → (c ≡ d) ⊎ (before c d ≡ true) → IsAsGood label c d

-- the cut of the least height, among these of the fewest leaves, among these the lexicographically least
pub record IsBestCut (label : ℕ → ℕ) (cs : List (List ℕ)) (c : List ℕ) : Type 0 where
  pub one : In cs c
  pub first : (d : List ℕ) → In cs d → IsAsGood label c d

-- the labels and best cuts of a graph with this table
pub record AreLabelled (g : Aig) (rows : List (List (List ℕ))) (v : LabelsValue) : Type 0 where
  pub labels : AreLabels g (row_at rows) (label_of v)
  pub best : (n : ℕ) → IsAnd g n → IsBestCut (label_of v) (row_at rows n) (best_of v n)
  pub met : (n : ℕ) → IsAnd g n → label_of v n ≡ height (label_of v) (best_of v n)

-- a graph with this table has one label and one best cut a node
pub record HasOneLabelling (g : Aig) (rows : List (List (List ℕ))) : Type 0 where
  pub once : (v w : LabelsValue) → AreLabelled g rows v → AreLabelled g rows w → (n : ℕ) → label_of v n ≡ label_of w n
  pub best_once : (v w : LabelsValue) → AreLabelled g rows v → AreLabelled g rows w → (n : ℕ) → IsAnd g n → best_of v n ≡ best_of w n
