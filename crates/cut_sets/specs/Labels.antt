-- Labels: the least depth at which each node can stand.
use Rattle.std.specs.Prelude.{◌≡◌, ℕ, ◌+◌, ◌^◌, ◌<◌, ◌≤◌, max, List, [], ◌∷◌, Option, slice_index_or}
use Rattle.aig_core.specs.Aig.{Aig, first_and, node_count, IsAnd}
use Rattle.cut_sets.specs.Cuts.{IsCut}
use Rattle.cut_sets.specs.Covers.{IsCover, HasDepth}

-- the greatest label of a list of nodes
abbrev pub greatest : (ℕ → ℕ) → List ℕ → ℕ
greatest label [] = 0
greatest label (m ∷ ms) = max (label m) (greatest label ms)

abbrev pub height : (ℕ → ℕ) → List ℕ → ℕ
height label [] = 0
height label (m ∷ ms) = 1 + greatest label (m ∷ ms)

-- the label of a node, 0 past the last one
abbrev pub label_at : List ℕ → ℕ → ℕ
label_at labels n = slice_index_or labels n 0

-- one more than each label fits a word
abbrev pub AreSmall : List ℕ → Type 0
AreSmall labels = (n : ℕ) → 1 + label_at labels n < 2 ^ 32

-- A label is 0 at a source and past the last node, and the least height of an AND node's cuts of at most k leaves, minimal or not.
pub record AreLeastHeights (g : Aig) (k : ℕ) (label : ℕ → ℕ) : Type 0 where
  pub sources : (n : ℕ) → n < first_and g → label n ≡ 0
  pub past : (n : ℕ) → node_count g ≤ n → label n ≡ 0
  pub least : (n : ℕ) (c : List ℕ) → IsAnd g n → IsCut g k n c → label n ≤ height label c
  pub met : (n : ℕ) → IsAnd g n → (c : List ℕ) × IsCut g k n c × (label n ≡ height label c)

-- no cover of the graph, whatever its cuts, has a node at a lower depth than the node's label
pub record AreLeastDepths (g : Aig) (k : ℕ) (label : ℕ → ℕ) : Type 0 where
  pub least : (roots : List ℕ) (cover : ℕ → Option (List ℕ)) (n d : ℕ) → IsCover g k roots cover → HasDepth g cover n d → label n ≤ d
