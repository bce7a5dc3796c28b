-- Labels and low cuts.
use Rattle.std.specs.Prelude.{◌≡◌, ℕ, List, [], slice_index_or, ◌<◌, ◌≤◌, ◌⊎◌}
use Rattle.flow_label.specs.Words.{Aig, IsAnd, first_and, IsSource, IsCut, Blocks, height, label_at, AreLeastHeights, Regular, IsFanIn}

-- what labels by flow are seen as: one label and one low cut a node
pub record FlowValue : Type 0 where
  pub labels : List ℕ
  pub cuts : List (List ℕ)

abbrev pub label_of : FlowValue → ℕ → ℕ
label_of v n = label_at v.labels n

-- the low cut of a node, none of a source
abbrev pub low_cut_of : FlowValue → ℕ → List ℕ
low_cut_of v n = slice_index_or v.cuts n []

-- each low cut is a cut of its node whose height is the node's label
pub record AreLowCuts (g : Aig) (k : ℕ) (v : FlowValue) : Type 0 where
  pub cut : (n : ℕ) → IsAnd g n → IsCut g k n (low_cut_of v n)
  pub met : (n : ℕ) → IsAnd g n → height (label_of v) (low_cut_of v n) ≡ label_of v n

-- a graph has one label for each node
pub record HasOneLabelling (g : Aig) (k : ℕ) : Type 0 where
  pub once : (f h : ℕ → ℕ) → AreLeastHeights g k f → AreLeastHeights g k h → (n : ℕ) → f n ≡ h n

-- Labels that are known below a node.

-- A regular source is at or below m: it is one, or an AND node with a label of at least 1. Other nodes are free.
abbrev pub IsLive : Aig → (ℕ → ℕ) → ℕ → Type 0
IsLive g label m = IsSource g Regular m ⊎ (IsAnd g m × (1 ≤ label m))

-- What a search below n uses of the labels: sources have 0, no label is below that of a fan-in, and a node with label 0 is free.
pub record AreKnownTo (g : Aig) (n : ℕ) (label : ℕ → ℕ) : Type 0 where
  pub sources : (m : ℕ) → m < first_and g → label m ≡ 0
  pub rising : (m v : ℕ) → v < n → IsFanIn g m v → label m ≤ label v
  pub free : (m : ℕ) → m < n → IsAnd g m → label m ≡ 0 → Blocks g [] m
