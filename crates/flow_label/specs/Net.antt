-- The part of a graph in which paths to one node are sought.
--
-- A height of at least 2 is given. A node below the node is low where its label is at least two less than the height: of the paths that are
-- sought at most one may pass a low node.
use Rattle.std.specs.Prelude.{◌≡◌, ℕ, ◌+◌, ◌<◌, ◌≤◌, ◌⊎◌, ◌==◌, Bool, true, ◌&&◌, ◌||◌, nat_lt, nat_le, List, [], length, slice_index}
use Rattle.flow_label.specs.Words.{Aig, first_and, IsAnd, AreNormal, AreApart, In, label_at, IsFanIn}
use Rattle.flow_label.specs.Value.{IsLive, AreKnownTo}
use Rattle.flow_label.specs.Trunks.{AreIndependent}

-- The node, the height, and the readers: for each node that the walk down from it through deep nodes met, the node from which it was met
-- first, and 0 for the others. Paths start at or below the floor, at its linked nodes; no other node down there is on a path.
pub record FlowNet : Type 0 where
  pub graph : Aig
  pub label : ℕ → ℕ
  pub node : ℕ
  pub height : ℕ
  pub reader : ℕ → ℕ
  pub floor : ℕ
  pub linked : ℕ → Bool

abbrev pub IsLow : FlowNet → ℕ → Type 0
IsLow net m = net.label m + 1 < net.height

-- a low AND node above the floor that isn't free: a path that passes it comes from one of its fan-ins
pub record IsInner (net : FlowNet) (a : ℕ) : Type 0 where
  pub and : IsAnd net.graph a
  pub above : net.floor < a
  pub below : a < net.node
  pub low : IsLow net a
  pub live : 1 ≤ net.label a

-- a live node that may be on a path: above the floor, or linked
pub record IsOpen (net : FlowNet) (m : ℕ) : Type 0 where
  pub live : IsLive net.graph net.label m
  pub reached : (net.floor < m) ⊎ (net.linked m ≡ true)

-- a node at which a path may start: a linked one at or below the floor
pub record IsRoot (net : FlowNet) (m : ℕ) : Type 0 where
  pub live : IsLive net.graph net.label m
  pub below : m ≤ net.floor
  pub linked : net.linked m ≡ true

-- the node itself, or a deep node that was met
abbrev pub IsUpper : FlowNet → ℕ → Type 0
IsUpper net v = (v ≡ net.node) ⊎ ((0 < net.reader v) × (net.height ≤ net.label v + 1))

-- a low node that was met: from it on a path goes up by readers
pub record IsEnd (net : FlowNet) (u : ℕ) : Type 0 where
  pub met : 0 < net.reader u
  pub low : IsLow net u

-- a node that was met: a live one that an upper node reads
pub record IsMet (net : FlowNet) (m : ℕ) : Type 0 where
  pub live : IsLive net.graph net.label m
  pub reads : IsFanIn net.graph m (net.reader m)
  pub upper : IsUpper net (net.reader m)
  pub below : m < net.node

-- each node that was met was met from an upper node, and all live nodes that upper nodes read were met
pub record AreReaders (net : FlowNet) : Type 0 where
  pub met : (m : ℕ) → 0 < net.reader m → IsMet net m
  pub all : (m v : ℕ) → IsUpper net v → IsFanIn net.graph m v → IsLive net.graph net.label m → 0 < net.reader m

-- the nodes from which paths go up by readers
pub record AreEnds (net : FlowNet) (ends : List ℕ) : Type 0 where
  pub once : AreApart ends
  pub only : (u : ℕ) → In ends u → IsEnd net u
  pub all : (u : ℕ) → IsEnd net u → In ends u

-- The node and the labels below it are such that paths may be sought. Each set that blocks some of the nodes at which paths may start has as
-- many leaves.
pub record IsNet (net : FlowNet) : Type 0 where
  pub and : IsAnd net.graph net.node
  pub high : 2 ≤ net.height
  pub normal : AreNormal (first_and net.graph) net.graph.pairs
  pub known : AreKnownTo net.graph net.node net.label
  pub met : (m : ℕ) → 0 < net.reader m → IsLive net.graph net.label m × (m < net.node)
  pub sources : length net.graph.kinds ≤ net.floor
  pub under : net.floor < net.node
  pub rooted : AreIndependent net.graph (IsRoot net)

-- are all regular sources linked, or those nodes alone that are linked up to this floor
abbrev pub is_linked : Aig → ℕ → List ℕ → ℕ → Bool
is_linked g floor until m = (floor == length g.kinds) || nat_le floor (slice_index until m)

-- the net of a node of a graph with these labels, for a height, with these readers, above a floor
abbrev pub net_on : Aig → List ℕ → ℕ → ℕ → List ℕ → ℕ → List ℕ → FlowNet
net_on g labels n h readers floor until = record { graph = g; label = label_at labels; node = n; height = h; reader = λ m. slice_index readers m; floor = floor; linked = λ m. is_linked g floor until m }

-- the net down to the sources
abbrev pub net_at : Aig → List ℕ → ℕ → ℕ → List ℕ → FlowNet
net_at g labels n h readers = net_on g labels n h readers (length g.kinds) []

-- what a site is seen as
pub record SiteValue : Type 0 where
  pub graph : Aig
  pub labels : List ℕ
  pub node : ℕ
  pub height : ℕ
  pub readers : List ℕ
  pub floor : ℕ
  pub until : List ℕ

abbrev pub net_of : SiteValue → FlowNet
net_of s = net_on s.graph s.labels s.node s.height s.readers s.floor s.until

-- is m an inner node
abbrev pub is_inner : SiteValue → ℕ → Bool
is_inner s m = nat_lt s.floor m && (nat_lt m s.node && (nat_lt (label_at s.labels m + 1) s.height && nat_lt 0 (label_at s.labels m)))

-- what a site keeps
pub record IsSite (at : FlowNet) (low : List ℕ) : Type 0 where
  pub net : IsNet at
  pub ends : AreEnds at low
