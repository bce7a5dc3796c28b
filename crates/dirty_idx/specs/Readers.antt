-- Who reads a node of a pack's graph: the AND nodes that it is a fan-in of, and the addresses of the bits that are its literals.
use Rattle.std.specs.Prelude.{◌≡◌, ◌⊎◌, ℕ, ◌/◌, ◌<◌, List, [], length, Some, slice_get, slice_index_or}
use Rattle.list_laws.specs.Members.{In}
use Rattle.list_laws.specs.Order.{IsAscending}
use Rattle.aig_core.specs.declared.lit.Lit.{Lit}
use Rattle.aig_core.specs.declared.lit.Pair.{Pair}
use Rattle.aig_core.specs.Aig.{Aig, node_count, IsNode}
use Rattle.ppc_pack.specs.Pack.{PackValue}

-- m is an AND node with a fan-in of node n
pub record Reads (g : Aig) (n m : ℕ) : Type 0 where
  pub pair : Pair
  pub is : IsNode g pair m
  pub fan_in : (pair.x.0 / 2 ≡ n) ⊎ (pair.y.0 / 2 ≡ n)

-- the bit at address a is a literal of node n
pub record IsLitOf (bits : List Lit) (n a : ℕ) : Type 0 where
  pub lit : Lit
  pub is : slice_get bits a ≡ Some lit
  pub node : lit.0 / 2 ≡ n

-- the list has exactly the numbers of which P holds, ascending, so each of them once
pub record AreAll (P : ℕ → Type 0) (ms : List ℕ) : Type 0 where
  pub ascending : IsAscending ms
  pub only : (m : ℕ) → In ms m → P m
  pub all : (m : ℕ) → P m → In ms m

-- a list for each node, of the AND nodes and of the addresses that read it
pub record ReadersValue : Type 0 where
  pub nodes : List (List ℕ)
  pub addresses : List (List ℕ)

-- those of one node: none past the last
abbrev pub nodes_of : ReadersValue → ℕ → List ℕ
nodes_of readers n = slice_index_or readers.nodes n []

abbrev pub addresses_of : ReadersValue → ℕ → List ℕ
addresses_of readers n = slice_index_or readers.addresses n []

-- they are the readers of this pack: for each node of its graph exactly the AND nodes and the addresses that read it
pub record AreReaders (pack : PackValue) (readers : ReadersValue) : Type 0 where
  pub node_lists : length readers.nodes ≡ node_count pack.graph
  pub address_lists : length readers.addresses ≡ node_count pack.graph
  pub nodes : (n : ℕ) → n < node_count pack.graph → AreAll (Reads pack.graph n) (nodes_of readers n)
  pub addresses : (n : ℕ) → n < node_count pack.graph → AreAll (IsLitOf pack.bits n) (addresses_of readers n)
