-- An evaluated pack, and how a change of its parameters runs through it.
use Rattle.std.specs.Prelude.{◌≡◌, ℕ, ◌+◌, ◌-◌, ◌/◌, ◌<◌, ◌≤◌, Bool, true, false, ◌&&◌, if◌then◌else◌, List, [], ◌∷◌, length, map, take, replicate, Some, slice_get, slice_set}
use Rattle.std.specs.List.{filter}
use Rattle.spec_core.specs.Words.{Assign, Pair, Aig, first_and, node_count, IsAnd, IsNode, AreNormal, xor, node_value, value_of, PackValue, IsPack}
use Rattle.aig_core.specs.declared.lit.Lit.{Lit}
use Rattle.aig_core.specs.Roots.{lits_of}
use Rattle.dirty_idx.specs.Marks.{is_marked}
use Rattle.dirty_idx.specs.Readers.{ReadersValue, AreReaders, nodes_of, addresses_of}
use Rattle.spec_core.specs.Touched.{is_changed, is_touched}

-- what a change of parameters changes: the values of the nodes, and the marks of the AND nodes to be evaluated again and of the addresses whose literals changed
pub record Progress : Type 0 where
  pub values : List Bool
  pub nodes : List Bool
  pub addresses : List Bool

-- a pack with how many of its pairs were read, its readers, and the values of its nodes
pub record EvaluationValue : Type 0 where
  pub pack : PackValue
  pub reads : ℕ
  pub readers : ReadersValue
  pub now : Progress

-- The pack is one, its pairs are normal, the readers are its own, each node has a value and a mark and each bit a mark, and only AND nodes are marked.
pub record Belong (pack : PackValue) (readers : ReadersValue) (now : Progress) : Type 0 where
  pub is : IsPack pack.params pack.graph pack.bits
  pub normal : AreNormal (first_and pack.graph) pack.graph.pairs
  pub read : AreReaders pack readers
  pub values : length now.values ≡ node_count pack.graph
  pub nodes : length now.nodes ≡ node_count pack.graph
  pub addresses : length now.addresses ≡ length pack.bits
  pub ands : (n : ℕ) → is_marked now.nodes n ≡ true → IsAnd pack.graph n

-- the bits of a pack under the values of its nodes
abbrev pub bits_under : PackValue → List Bool → List Bool
bits_under pack values = map (value_of values) (lits_of pack.bits)

-- the value of an AND node of this pair
abbrev pub product_of : List Bool → Pair → Bool
product_of values pair = value_of values pair.x.0 && value_of values pair.y.0

-- marks with those of some numbers set
abbrev pub with_marks : List Bool → List ℕ → List Bool
with_marks marks [] = marks
with_marks marks (n ∷ ns) = with_marks (slice_set marks n true) ns

-- a node with a value, and all that reads it marked where that is another value
abbrev pub stored : ReadersValue → Progress → ℕ → Bool → Progress
stored readers now n value =
    if xor (node_value now.values n) value
    then record { values = slice_set now.values n value; nodes = with_marks now.nodes (nodes_of readers n); addresses = with_marks now.addresses (addresses_of readers n) }
    else now

-- parameters with new values: their nodes come after the constant's
abbrev pub with_assigned : ReadersValue → Progress → List Assign → Progress
with_assigned readers now [] = now
with_assigned readers now (assign ∷ assigns) = with_assigned readers (stored readers now (1 + assign.param) assign.bit) assigns

-- n is an AND node with a fan-in that has changed
pub record IsStale (g : Aig) (old now : List Bool) (n : ℕ) : Type 0 where
  pub pair : Pair
  pub is : IsNode g pair n
  pub touched : is_touched old now pair ≡ true

-- the bit at address a is a literal of a node that has changed
pub record IsMoved (bits : List Lit) (old now : List Bool) (a : ℕ) : Type 0 where
  pub lit : Lit
  pub is : slice_get bits a ≡ Some lit
  pub changed : is_changed old now (lit.0 / 2) ≡ true

-- From the point on exactly the AND nodes are marked that have a fan-in that has changed, and exactly the addresses whose nodes have.
pub record AreMarked (pack : PackValue) (old : List Bool) (now : Progress) (point : ℕ) : Type 0 where
  pub from : (n : ℕ) → is_marked now.nodes n ≡ true → point ≤ n
  pub stale : (n : ℕ) → is_marked now.nodes n ≡ true → IsStale pack.graph old now.values n
  pub all_stale : (n : ℕ) → point ≤ n → IsStale pack.graph old now.values n → is_marked now.nodes n ≡ true
  pub moved : (a : ℕ) → is_marked now.addresses a ≡ true → IsMoved pack.bits old now.values a
  pub all_moved : (a : ℕ) → IsMoved pack.bits old now.values a → is_marked now.addresses a ≡ true

-- In the middle of a sweep the nodes below a point have their new values and those from it on their old ones, and there were at most as many steps as touched nodes below it.
pub record IsSweeping (pack : PackValue) (old new : List Bool) (now : Progress) (start end : ℕ) : Type 0 where
  pub point : ℕ
  pub from : first_and pack.graph ≤ point
  pub below : (n : ℕ) → n < point → node_value now.values n ≡ node_value new n
  pub above : (n : ℕ) → point ≤ n → node_value now.values n ≡ node_value old n
  pub marks : AreMarked pack old now point
  pub few : end ≤ start + length (filter (is_touched old new) (take (point - first_and pack.graph) pack.graph.pairs))

-- A sweep is done: all nodes have their new values, none is marked, and exactly the addresses are whose nodes changed.
pub record IsSwept (pack : PackValue) (old new : List Bool) (now : Progress) (start end : ℕ) : Type 0 where
  pub values : now.values ≡ new
  pub nodes : now.nodes ≡ replicate (node_count pack.graph) false
  pub moved : (a : ℕ) → is_marked now.addresses a ≡ true → IsMoved pack.bits old new a
  pub all_moved : (a : ℕ) → IsMoved pack.bits old new a → is_marked now.addresses a ≡ true
  pub few : end ≤ start + length (filter (is_touched old new) pack.graph.pairs)
