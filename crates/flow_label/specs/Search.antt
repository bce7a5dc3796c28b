-- The search for one more path, depth first.
--
-- The queue has the low nodes that the search has met, each once, and the stack has the places of those that wait. A node that an inner
-- node owns is handed on: the owner would choose another node, so its choices are met too. A node without an owner ends the search.
use Rattle.std.specs.Prelude.{◌≡◌, ℕ, ◌-◌, ◌<◌, ◌≤◌, Bool, true, false, List, [], ◌∷◌, ◌++◌, length, slice_index, slice_set, ◌⊎◌, ◌+◌}
use Rattle.flow_label.specs.Words.{node_count, AreApart, In, IsFanIn}
use Rattle.flow_label.specs.Value.{IsLive}
use Rattle.flow_label.specs.Net.{FlowNet, SiteValue, net_of, IsLow, IsInner, IsEnd, IsOpen}
use Rattle.flow_label.specs.Links.{IsChoice, owner_in}
use Rattle.flow_label.specs.declared.search.SearchEnd.{SearchEnd}
use Rattle.flow_label.specs.declared.search.SearchEnd.TheVariants.{Found, Blocked}

-- where a node of the queue comes from: an end from nowhere (0), another from the place before `back`, whose owner may choose it
pub record ComesFrom (net : FlowNet) (owner : ℕ → ℕ) (queue : List ℕ) (back j : ℕ) : Type 0 where
  pub end : back ≡ 0 → IsEnd net (slice_index queue j)
  pub earlier : back ≤ j
  pub inner : 0 < back → IsInner net (owner (slice_index queue (back - 1)))
  pub choice : 0 < back → IsChoice net (owner (slice_index queue (back - 1))) (slice_index queue j)

-- the nodes that a search has met, and whence
pub record AreMet (net : FlowNet) (owner : ℕ → ℕ) (queue backs : List ℕ) : Type 0 where
  pub once : AreApart queue
  pub nodes : (u : ℕ) → In queue u → (u < net.node) × IsOpen net u × IsLow net u
  pub count : length backs ≡ length queue
  pub whence : (j : ℕ) → j < length queue → ComesFrom net owner queue (slice_index backs j) j

-- all choices of the owner were met
abbrev pub IsHandedOn : FlowNet → (ℕ → ℕ) → List ℕ → ℕ → Type 0
IsHandedOn net owner queue u = (owner u ≡ net.node) ⊎ (IsInner net (owner u) × ((m : ℕ) → IsChoice net (owner u) m → In queue m))

-- the marks of the inner nodes whose choices were met
pub record ArePassed (net : FlowNet) (owner : ℕ → ℕ) (queue open' passed : List ℕ) : Type 0 where
  pub size : length passed ≡ node_count net.graph
  pub only : (m : ℕ) → 0 < slice_index passed m → (u : ℕ) × In queue u × (owner u ≡ m) × (m < net.node)
  pub all : (j : ℕ) → j < length queue → In open' j ⊎ ((owner (slice_index queue j) ≡ net.node) ⊎ (0 < slice_index passed (owner (slice_index queue j))))

-- The search, with the marks of the nodes that it met. All places have been handed on but these.
pub record IsSearching (net : FlowNet) (owner : ℕ → ℕ) (seen queue backs passed open' : List ℕ) : Type 0 where
  pub met : AreMet net owner queue backs
  pub owned : (u : ℕ) → In queue u → 0 < owner u
  pub inside : (j : ℕ) → In open' j → j < length queue
  pub handed : (j : ℕ) → j < length queue → In open' j ⊎ IsHandedOn net owner queue (slice_index queue j)
  pub passed_are : ArePassed net owner queue open' passed
  pub size : length seen ≡ node_count net.graph
  pub in_seen : (m : ℕ) → In queue m → 0 < slice_index seen m
  pub seen_in : (m : ℕ) → 0 < slice_index seen m → In queue m

-- how the search goes on: what was met stays, in its place
pub record Extends (queue queue' : List ℕ) : Type 0 where
  pub kept : (x : ℕ) → In queue x → In queue' x
  pub same : (j : ℕ) → j < length queue → slice_index queue' j ≡ slice_index queue j
  pub longer : length queue ≤ length queue'

-- One more node is met, unless it is free or was seen. If nobody has chosen it, it ends the search; otherwise its place waits.
pub data HasMet (net : FlowNet) (owner : ℕ → ℕ) (m back : ℕ) (seen queue backs stack seen' queue' backs' stack' : List ℕ) : Bool → Type 0 where
  free : {b : Bool} → b ≡ false → (IsOpen net m → ⊥) → seen' ≡ seen → queue' ≡ queue → backs' ≡ backs → stack' ≡ stack → HasMet net owner m back seen queue backs stack seen' queue' backs' stack' b
  old : {b : Bool} → b ≡ false → 0 < slice_index seen m → seen' ≡ seen → queue' ≡ queue → backs' ≡ backs → stack' ≡ stack → HasMet net owner m back seen queue backs stack seen' queue' backs' stack' b
  end : {b : Bool} → b ≡ true → IsOpen net m → slice_index seen m ≡ 0 → owner m ≡ 0 → seen' ≡ slice_set seen m 1 → queue' ≡ queue ++ m ∷ [] → backs' ≡ backs ++ back ∷ [] → stack' ≡ stack
      → HasMet net owner m back seen queue backs stack seen' queue' backs' stack' b
  new : {b : Bool} → b ≡ false → IsOpen net m → slice_index seen m ≡ 0 → 0 < owner m → seen' ≡ slice_set seen m 1 → queue' ≡ queue ++ m ∷ [] → backs' ≡ backs ++ back ∷ [] → stack' ≡ stack ++ length queue ∷ []
      → HasMet net owner m back seen queue backs stack seen' queue' backs' stack' b

-- a search that came to a node without an owner, as the last that it met
pub record IsFound (site : SiteValue) (owners queue backs : List ℕ) : Type 0 where
  pub met : AreMet (net_of site) (owner_in site owners) queue backs
  pub some : 0 < length queue
  pub free : owner_in site owners (slice_index queue (length queue - 1)) ≡ 0

-- a search that has handed on all that it met, ends among them
pub record IsBlocked (site : SiteValue) (owners queue backs passed : List ℕ) : Type 0 where
  pub met : AreMet (net_of site) (owner_in site owners) queue backs
  pub ends : (u : ℕ) → IsEnd (net_of site) u → IsOpen (net_of site) u → In queue u
  pub handed : (u : ℕ) → In queue u → IsHandedOn (net_of site) (owner_in site owners) queue u
  pub passed_are : ArePassed (net_of site) (owner_in site owners) queue [] passed

-- a search that wasn't held up at the floor: each end is open, and so is each live node that a passed node reads
pub record IsTight (net : FlowNet) (owner : ℕ → ℕ) (queue : List ℕ) : Type 0 where
  pub ends : (u : ℕ) → IsEnd net u → IsOpen net u
  pub passed : (u m : ℕ) → In queue u → IsInner net (owner u) → IsFanIn net.graph m (owner u) → IsLive net.graph net.label m → IsOpen net m

-- the numbers that one step back along the search reads are in range
pub record CanTurn (site : SiteValue) (owners queue backs : List ℕ) (j : ℕ) : Type 0 where
  pub back : slice_index backs j - 1 < j
  pub node : slice_index queue j < node_count site.graph
  pub chooser : 0 < owner_in site owners (slice_index queue (slice_index backs j - 1))

-- How a search ends, and how the adding of paths does.

-- what each outcome tells of the search
abbrev pub IsEnded : SiteValue → List ℕ → List ℕ → List ℕ → List ℕ → SearchEnd → Type 0
IsEnded site owners queue backs passed Found = IsFound site owners queue backs
IsEnded site owners queue backs passed Blocked = IsBlocked site owners queue backs passed

-- there are k + 1 paths, or fewer and a blocked search
abbrev pub AreAdded : SiteValue → ℕ → List ℕ → List ℕ → List ℕ → List ℕ → List ℕ → SearchEnd → Type 0
AreAdded site k owners starts queue backs passed Found = length starts ≡ k + 1
AreAdded site k owners starts queue backs passed Blocked = (length starts ≤ k) × IsBlocked site owners queue backs passed
