-- The edges of a graph over numbered nodes.
use Rattle.std.specs.Prelude.{ℕ, ◌<◌, List, [], ◌∷◌}
use Rattle.list_laws.specs.Members.{In}
use Rattle.depth_first.specs.declared.edge.Edge.{Edge}
use Rattle.depth_first.specs.declared.edge.Edge.TheVariants.{Node, Stop, Pass}
use Rattle.depth_first.specs.DepthFirst.{Way, leads, stops, nodes_of}

-- where edges lead, without those that are passed over
abbrev pub ways_of : {S : Type 0} → List (Edge S) → List (Way ℕ S)
ways_of [] = []
ways_of (Node n ∷ es) = leads n ∷ ways_of es
ways_of (Stop s ∷ es) = stops s ∷ ways_of es
ways_of (Pass ∷ es) = ways_of es

-- the ways on from a node, and its successors
abbrev pub ways_from : {S : Type 0} → (ℕ → List (Edge S)) → ℕ → List (Way ℕ S)
ways_from edges n = ways_of (edges n)

abbrev pub successors : {S : Type 0} → (ℕ → List (Edge S)) → ℕ → List ℕ
successors edges n = nodes_of (ways_of (edges n))

-- the nodes of a graph: they are below the count, and edges lead from nodes to nodes
pub record AreNodes (IsNode : ℕ → Type 0) (next : ℕ → List ℕ) (count : ℕ) : Type 0 where
  pub below : (n : ℕ) → IsNode n → n < count
  pub closed : (n m : ℕ) → IsNode n → In (next n) m → IsNode m
