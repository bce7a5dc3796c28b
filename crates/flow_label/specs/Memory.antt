-- What the walk and the search do to their working memory.
use Rattle.std.specs.Prelude.{◌≡◌, ℕ, ◌+◌, ◌-◌, ◌<◌, Bool, List, length, slice_index, slice_set}
use Rattle.flow_label.specs.Words.{Aig, label_at, AreApart, In}
use Rattle.flow_label.specs.Value.{IsLive}
use Rattle.flow_label.specs.declared.scratch.Links.{Links}
use Rattle.flow_label.specs.declared.scratch.PathSearch.{PathSearch}
use Rattle.flow_label.specs.declared.scratch.ConeWalk.{ConeWalk}
use Rattle.flow_label.specs.declared.scratch.Scratch.{Scratch}
use Rattle.flow_label.specs.declared.scratch.Trunks.{Trunks}
use Rattle.flow_label.specs.Trunks.{AreTrunks}
use Rattle.flow_label.specs.declared.search.SearchEnd.{SearchEnd}
use Rattle.flow_label.specs.Links.{owner_in}
use Rattle.flow_label.specs.Net.{SiteValue, net_of, net_at, AreReaders, AreEnds}
use Rattle.flow_label.specs.Search.{AreAdded, HasMet, IsSearching}
use Rattle.flow_label.specs.Walks.{HasRead}

-- a node is read, or not, where the walk is down to this height
abbrev pub Reads : Aig → List ℕ → ℕ → ℕ → ℕ → ConeWalk → ConeWalk → Type 0
Reads g labels height m v old new = HasRead g (label_at labels) height m v old.readers old.uppers.items old.ends.items new.readers new.uppers.items new.ends.items

-- a search is under way, and these places wait
abbrev pub Searches : SiteValue → Links → PathSearch → List ℕ → Type 0
Searches site links search waiting = IsSearching (net_of site) (owner_in site links.owners) search.seen search.queue.items search.backs.items search.passed waiting

-- one more node is met, or not
abbrev pub Meets : SiteValue → Links → ℕ → ℕ → PathSearch → PathSearch → Bool → Type 0
Meets site links m back old new ends =
    HasMet (net_of site) (owner_in site links.owners) m back old.seen old.queue.items old.backs.items old.stack.items new.seen new.queue.items new.backs.items new.stack.items ends

-- as many places more wait as nodes more were met
abbrev pub WaitForAll : PathSearch → PathSearch → Type 0
WaitForAll old new = length new.stack.items + length old.queue.items ≡ length old.stack.items + length new.queue.items

-- the marks keep their number
pub record KeepsMarks (old new : PathSearch) : Type 0 where
  pub room : length new.passed ≡ length old.passed
  pub size : length new.seen ≡ length old.seen

-- there are n marks of each kind
pub record HasMarks (n : ℕ) (search : PathSearch) : Type 0 where
  pub room : length search.passed ≡ n
  pub size : length search.seen ≡ n

-- the owners after one step back along a search: the owner of the place before chooses the node of this place
abbrev pub turned : SiteValue → List ℕ → PathSearch → ℕ → List ℕ
turned site owners search j = slice_set owners (slice_index search.queue.items j) (owner_in site owners (slice_index search.queue.items (slice_index search.backs.items j - 1)))

-- there are k + 1 paths, or fewer and a blocked search
abbrev pub Adds : SiteValue → ℕ → Links → PathSearch → SearchEnd → Type 0
Adds site k links search outcome = AreAdded site k links.owners links.starts.items search.queue.items search.backs.items search.passed outcome

-- what a walk has met is the readers and the ends of the net of n
pub record HasWalked (g : Aig) (labels : List ℕ) (n h : ℕ) (scratch : Scratch) : Type 0 where
  pub readers : AreReaders (net_at g labels n h scratch.walk.readers)
  pub ends : AreEnds (net_at g labels n h scratch.walk.readers) scratch.walk.ends.items

-- the trunks of a graph, with all floors below n
abbrev pub HasTrunks : Aig → ℕ → Trunks → Type 0
HasTrunks g n trunks = AreTrunks g n trunks.floors.items trunks.until.items trunks.top

-- Live nodes below n, at which paths are to end, each once; those that are marked.
pub record AreProposed (g : Aig) (label : ℕ → ℕ) (n : ℕ) (marks nodes : List ℕ) : Type 0 where
  pub once : AreApart nodes
  pub each : (m : ℕ) → In nodes m → IsLive g label m × (m < n)
  pub marked : (m : ℕ) → In nodes m → 0 < slice_index marks m
  pub only : (m : ℕ) → 0 < slice_index marks m → In nodes m

abbrev pub HasProposed : Aig → List ℕ → ℕ → ConeWalk → Type 0
HasProposed g labels n walk = AreProposed g (label_at labels) n walk.readers walk.ends.items

-- the floors and what is linked at them stay as they are
pub record KeepsTrunks (old new : Trunks) : Type 0 where
  pub floors : new.floors.items ≡ old.floors.items
  pub until : new.until.items ≡ old.until.items
  pub top : new.top ≡ old.top
