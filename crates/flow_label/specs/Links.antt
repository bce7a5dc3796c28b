-- How the paths to a node run, on its low nodes.
--
-- Each inner node has chosen one of its fan-ins, from which a path comes to it, or itself where no path passes it. The node
-- itself has chosen an end for each path. A low node is chosen at most once: `owner` is who has chosen it. So the paths are a
-- matching of choosers and low nodes, and one more path is one more pair of the matching.
use Rattle.std.specs.Prelude.{◌≡◌, ℕ, ◌<◌, ◌≢◌, if◌then◌else◌, ◌==◌, List, slice_index, length, ◌⊎◌, ◌+◌, nat_lt, Some, slice_get}
use Rattle.flow_label.specs.Words.{node_count, AreApart, In, IsFanIn, IsPath}
use Rattle.flow_label.specs.Value.{IsLive}
use Rattle.flow_label.specs.Net.{FlowNet, SiteValue, net_of, is_inner, IsInner, IsEnd, IsLow, IsUpper, IsOpen, IsRoot}

-- what an inner node may choose: itself or an open node that it reads
abbrev pub IsChoice : FlowNet → ℕ → ℕ → Type 0
IsChoice net a u = (u ≡ a) ⊎ (IsFanIn net.graph u a × IsOpen net u)

-- an inner node that has chosen u
pub record HasChosen (net : FlowNet) (chosen : ℕ → ℕ) (a u : ℕ) : Type 0 where
  pub inner : IsInner net a
  pub is : chosen a ≡ u

-- Each inner node owns its choice, and each node that is owned is its owner's choice, apart from the loose one, which nobody has
-- (0 is none). The node has chosen count ends.
pub record IsLinked (net : FlowNet) (loose : ℕ) (owner chosen : ℕ → ℕ) (count : ℕ) : Type 0 where
  pub none : owner 0 ≡ 0
  pub full : (a : ℕ) → IsInner net a → 0 < owner a
  pub choice : (a : ℕ) → IsInner net a → IsChoice net a (chosen a)
  pub apart : (a : ℕ) → IsInner net a → chosen a ≢ loose
  pub owns : (a : ℕ) → IsInner net a → owner (chosen a) ≡ a
  pub owned : (u : ℕ) → u ≢ loose → 0 < owner u → ((owner u ≡ net.node) × IsEnd net u) ⊎ HasChosen net chosen (owner u) u
  pub ends : List ℕ
  pub all_ends : (u : ℕ) → u ≢ loose → owner u ≡ net.node → In ends u
  pub count_ends : length ends ≡ count

-- where the paths start: linked nodes with an owner
pub record AreStarts (net : FlowNet) (owner : ℕ → ℕ) (starts : List ℕ) : Type 0 where
  pub once : AreApart starts
  pub root : (s : ℕ) → In starts s → IsRoot net s
  pub owned : (s : ℕ) → In starts s → 0 < owner s

-- a function that has one new value
pub record IsUpdated (old new : ℕ → ℕ) (at value : ℕ) : Type 0 where
  pub there : new at ≡ value
  pub elsewhere : (m : ℕ) → m ≢ at → new m ≡ old m

-- the paths that there are: how they run, and where they start
pub record AreRouted (net : FlowNet) (owner chosen : ℕ → ℕ) (starts : List ℕ) : Type 0 where
  pub linked : IsLinked net 0 owner chosen (length starts)
  pub begin : AreStarts net owner starts

-- the owner of a node before the first path: an inner node's is the node itself
abbrev pub first_owner : SiteValue → ℕ → ℕ
first_owner s m = if is_inner s m then m else 0

-- the owner of a node: the one that was set, or else the first one
abbrev pub owner_in : SiteValue → List ℕ → ℕ → ℕ
owner_in s owners m = if slice_index owners m == 0 then first_owner s m else slice_index owners m

-- The links of a site: who has chosen each node, whom each inner node has chosen, and where the paths start.
pub record AreLinks (site : SiteValue) (owners starts : List ℕ) : Type 0 where
  pub chosen : ℕ → ℕ
  pub routed : AreRouted (net_of site) (owner_in site owners) chosen starts
  pub size : length owners ≡ node_count site.graph

-- the next node up: the owner of a low node, but for an end, and otherwise the reader
abbrev pub next_of : FlowNet → (ℕ → ℕ) → ℕ → ℕ
next_of net owner m = if nat_lt (net.label m + 1) net.height then (if owner m == net.node then net.reader m else owner m) else net.reader m

-- a path comes to m: a low node that another one owns, or an upper one
pub data IsOnWay (net : FlowNet) (owner : ℕ → ℕ) (m : ℕ) : Type 0 where
  low : IsLive net.graph net.label m → IsLow net m → 0 < owner m → owner m ≢ m → IsOnWay net owner m
  upper : IsUpper net m → IsOnWay net owner m

-- the path that starts at s passes x, from owner to owner
pub data PathPasses (net : FlowNet) (owner : ℕ → ℕ) (s : ℕ) : ℕ → Type 0 where
  start : {x : ℕ} → x ≡ s → PathPasses net owner s x
  onward : {x : ℕ} (v : ℕ) → PathPasses net owner s v → owner v ≡ x → IsInner net x → PathPasses net owner s x

-- a path from s up to m, on low nodes from owner to owner
pub record IsWayTo (net : FlowNet) (owner : ℕ → ℕ) (s m : ℕ) (path : List ℕ) : Type 0 where
  pub is : IsPath net.graph m path
  pub on : IsOnWay net owner m
  pub low : (x : ℕ) → In path x → x ≢ net.node → IsLow net x → PathPasses net owner s x

-- the paths that start at the first of these nodes
pub record AreWaysTo (net : FlowNet) (owner : ℕ → ℕ) (starts : List ℕ) (limit : ℕ) (paths : List (List ℕ)) : Type 0 where
  pub count : length paths ≡ limit
  pub each : (i : ℕ) (p : List ℕ) → slice_get paths i ≡ Some p → IsWayTo net owner (slice_index starts i) net.node p

-- the paths that start at all of them
abbrev pub AreWays : FlowNet → (ℕ → ℕ) → List ℕ → List (List ℕ) → Type 0
AreWays net owner starts paths = AreWaysTo net owner starts (length starts) paths
