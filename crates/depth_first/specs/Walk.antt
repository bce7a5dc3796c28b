-- What a walk is seen as, and what its visits do.
use Rattle.std.specs.Prelude.{◌≡◌, ℕ, ◌==◌, if◌then◌else◌, List, [], ◌∷◌, ◌++◌, Option, Some, None}
use Rattle.depth_first.specs.declared.edge.Edge.{Edge}
use Rattle.depth_first.specs.declared.edge.End.{End}
use Rattle.depth_first.specs.declared.edge.End.TheVariants.{Loop, Stop as stopped}
use Rattle.depth_first.specs.DepthFirst.{Way, leads, Ending, repeats, halts, Meets, MeetsAll, Posts, PostsAll, ends_at, goes_through, Enters}
use Rattle.depth_first.specs.Order.{IsAfter, IsSettled}
use Rattle.depth_first.specs.Reach.{AddsReached}
use Rattle.depth_first.specs.Edges.{ways_from, successors}

-- how many nodes are numbered, the nodes that were entered, those that are done, and those on the path, each the last first
pub record WalkValue : Type 0 where
  pub count : ℕ
  pub begun : List ℕ
  pub order : List ℕ
  pub path : List ℕ

-- an end, with the path on which it was found
abbrev pub ending_of : {S : Type 0} → List ℕ → End S → Ending ℕ S
ending_of path (Loop n) = repeats n path
ending_of path (stopped s) = halts s path

-- edges that lead to these nodes
abbrev pub leads_to : {S : Type 0} → List ℕ → List (Way ℕ S)
leads_to [] = []
leads_to (n ∷ ns) = leads n ∷ leads_to ns

-- the nodes of a path, the last first, in order from a node's place on
abbrev pub from_node : ℕ → List ℕ → List ℕ
from_node n [] = []
from_node n (m ∷ path) = if n == m then m ∷ [] else from_node n path ++ m ∷ []

-- a visit that came to no end: it entered these nodes, did the postorder, and stands on no path
pub record IsDone {S : Type 0} (edges : ℕ → List (Edge S)) (w v : WalkValue) (start : ℕ) : Type 0 where
  pub path : v.path ≡ []
  pub settled : IsSettled (ways_from edges) v.order
  pub after : IsAfter (successors edges) v.order
  pub meets : Meets (ways_from edges) [] start None
  pub posts : Posts (successors edges) w.order start v.order
  pub enters : Enters (ways_from edges) [] w.begun (leads start ∷ []) (goes_through v.begun)
  pub reached : AddsReached (successors edges) w.order (start ∷ []) v.order

-- a visit that came to an end: its path is the one on which a walk without memory first comes to an end, and to this one
pub record IsEnded {S : Type 0} (edges : ℕ → List (Edge S)) (w v : WalkValue) (start : ℕ) (end : End S) : Type 0 where
  pub meets : Meets (ways_from edges) [] start (Some (ending_of v.path end))
  pub enters : Enters (ways_from edges) [] w.begun (leads start ∷ []) (ends_at (ending_of v.path end))

abbrev pub Visited : {S : Type 0} → (ℕ → List (Edge S)) → WalkValue → WalkValue → ℕ → Option (End S) → Type 0
Visited edges w v start None = IsDone edges w v start
Visited edges w v start (Some end) = IsEnded edges w v start end

-- the same of several starts in turn
pub record AreDone {S : Type 0} (edges : ℕ → List (Edge S)) (w v : WalkValue) (starts : List ℕ) : Type 0 where
  pub path : v.path ≡ []
  pub settled : IsSettled (ways_from edges) v.order
  pub after : IsAfter (successors edges) v.order
  pub meets : MeetsAll (ways_from edges) [] (leads_to starts) None
  pub posts : PostsAll (successors edges) w.order starts v.order
  pub reached : AddsReached (successors edges) w.order starts v.order

pub record AreEnded {S : Type 0} (edges : ℕ → List (Edge S)) (v : WalkValue) (starts : List ℕ) (end : End S) : Type 0 where
  pub meets : MeetsAll (ways_from edges) [] (leads_to starts) (Some (ending_of v.path end))

abbrev pub VisitedAll : {S : Type 0} → (ℕ → List (Edge S)) → WalkValue → WalkValue → List ℕ → Option (End S) → Type 0
VisitedAll edges w v starts None = AreDone edges w v starts
VisitedAll edges w v starts (Some end) = AreEnded edges v starts end
