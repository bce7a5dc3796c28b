-- The values of a graph's nodes as a relation: when a list of values fits a graph, and the value of a literal under it.
use Rattle.std.specs.Prelude.{◌≡◌, ℕ, ◌-◌, ◌/◌, ◌%◌, ◌<◌, ◌≤◌, Bool, true, false, ◌&&◌, not, ◌==◌, List, length, take, slice_index_or}
-- the value of a node, where a list has those of all nodes by their indices
pub use Rattle.list_laws.specs.Digits.{bit_in as node_value}
use Rattle.aig_core.specs.declared.lit.Pair.{Pair}
use Rattle.aig_core.specs.Aig.{Aig, first_and, node_count, IsNode}

abbrev pub xor : Bool → Bool → Bool
xor true b = not b
xor false b = b

-- the value of a literal from that of its node: a complement flips it
abbrev pub in_phase : ℕ → Bool → Bool
in_phase lit b = xor b ((lit % 2) == 1)

-- the value of a literal under the values of the nodes
abbrev pub value_of : List Bool → ℕ → Bool
value_of values lit = in_phase lit (node_value values (lit / 2))

-- The values of all indices fit a graph under the values of its sources: the constant is 0, each source has its value, and each AND node is the product of its two literals' values.
pub record FitsGraph (g : Aig) (sources values : List Bool) : Type 0 where
  pub given : length sources ≡ length g.kinds
  pub count : length values ≡ node_count g
  pub constant : node_value values 0 ≡ false
  pub source : (n : ℕ) → 1 ≤ n → n < first_and g → node_value values n ≡ slice_index_or sources (n - 1) false
  pub node : (n : ℕ) (p : Pair) → IsNode g p n → node_value values n ≡ (value_of values p.x.0 && value_of values p.y.0)

-- Under these values of the sources one list of values fits the graph, and no other.
pub record HasOneFit (g : Aig) (sources : List Bool) : Type 0 where
  pub values : List Bool
  pub fits : FitsGraph g sources values
  pub only : (others : List Bool) → FitsGraph g sources others → others ≡ values

-- Whatever values fit the graph, a literal's is the product of two literals' values.
pub record IsProduct (g : Aig) (a b lit : ℕ) : Type 0 where
  pub value : (sources values : List Bool) → FitsGraph g sources values → value_of values lit ≡ (value_of values a && value_of values b)

-- Whatever values fit the new graph, the first of them fit the old one: so each literal of the old graph keeps its value.
pub record KeepsValues (old new : Aig) : Type 0 where
  pub front : (sources values : List Bool) → FitsGraph new sources values → FitsGraph old sources (take (node_count old) values)
