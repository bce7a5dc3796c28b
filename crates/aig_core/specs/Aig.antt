-- A graph of AND nodes with complemented edges: its sources, its AND nodes, and what every pair keeps.
use Rattle.std.specs.Prelude.{◌≡◌, ℕ, ◌+◌, ◌-◌, ◌*◌, ◌/◌, ◌<◌, ◌≤◌, List, length, Option, Some, slice_get}
use Rattle.aig_core.specs.declared.lit.Kind.{Kind}
use Rattle.aig_core.specs.declared.lit.Pair.{Pair}

-- A graph: the kinds of its sources, the pairs of its AND nodes, and how many of these it may have.
pub record Aig : Type 0 where
  pub kinds : List Kind
  pub pairs : List Pair
  pub max : ℕ

-- the index of the first AND node: the constant and the sources stand before it
abbrev pub first_and : Aig → ℕ
first_and g = 1 + length g.kinds

-- how many indices there are
abbrev pub node_count : Aig → ℕ
node_count g = first_and g + length g.pairs

-- a literal of the graph
abbrev pub IsLit : Aig → ℕ → Type 0
IsLit g lit = lit < 2 * node_count g

-- n is an AND node
abbrev pub IsAnd : Aig → ℕ → Type 0
IsAnd g n = (first_and g ≤ n) × (n < node_count g)

-- the pair of an AND node
abbrev pub pair_of : Aig → ℕ → Option Pair
pair_of g n = slice_get g.pairs (n - first_and g)

-- What every AND node's pair keeps: no constant, two nodes in ascending order, both below the node.
pub record IsNormal (node : ℕ) (p : Pair) : Type 0 where
  pub no_constant : 2 ≤ p.x.0
  pub ordered : p.x.0 / 2 < p.y.0 / 2
  pub below : p.y.0 / 2 < node

pub record AreNormal (first : ℕ) (pairs : List Pair) : Type 0 where
  pub each : (i : ℕ) (p : Pair) → slice_get pairs i ≡ Some p → IsNormal (first + i) p
  pub once : (i j : ℕ) (p : Pair) → slice_get pairs i ≡ Some p → slice_get pairs j ≡ Some p → i ≡ j

-- n is a source of this kind
pub record IsSource (g : Aig) (kind : Kind) (n : ℕ) : Type 0 where
  pub above : 1 ≤ n
  pub is : slice_get g.kinds (n - 1) ≡ Some kind

-- n is the AND node of this pair
pub record IsNode (g : Aig) (p : Pair) (n : ℕ) : Type 0 where
  pub above : first_and g ≤ n
  pub is : pair_of g n ≡ Some p
