-- Low cuts: what a search has met and not passed, or the ends.
use Rattle.std.specs.Prelude.{◌≡◌, ℕ, ◌+◌, ◌<◌, ◌≤◌, ◌==◌, List, [], filter, slice_index, Option, MatchOption}
use Rattle.flow_label.specs.Words.{Aig, In, IsCut, height, union}
use Rattle.flow_label.specs.Net.{SiteValue, net_of}
use Rattle.flow_label.specs.Links.{owner_in}
use Rattle.flow_label.specs.Search.{IsBlocked, IsTight}

-- these nodes as an ascending list
abbrev pub ascending_of : List ℕ → List ℕ
ascending_of nodes = union nodes []

-- the nodes that have no mark
abbrev pub unmarked : List ℕ → List ℕ → List ℕ
unmarked marks nodes = filter (λ u. slice_index marks u == 0) nodes

-- what a blocked search has met and not passed
pub record IsBarrier (site : SiteValue) (owners kept : List ℕ) : Type 0 where
  pub queue : List ℕ
  pub backs : List ℕ
  pub passed : List ℕ
  pub blocked : IsBlocked site owners queue backs passed
  pub tight : IsTight (net_of site) (owner_in site owners) queue
  pub is : kept ≡ unmarked passed queue

-- a cut below a height: of labels that are at least two less
pub record IsLowCut (g : Aig) (k n h : ℕ) (label : ℕ → ℕ) (c : List ℕ) : Type 0 where
  pub cut : IsCut g k n c
  pub low : (m : ℕ) → In c m → label m + 1 < h

-- each cut has this height at least
pub record IsHigh (g : Aig) (k n h : ℕ) (label : ℕ → ℕ) : Type 0 where
  pub high : (c : List ℕ) → IsCut g k n c → h ≤ height label c

-- a low cut, or none where each cut is high
abbrev pub IsAnswer : Aig → ℕ → ℕ → ℕ → (ℕ → ℕ) → Option (List ℕ) → Type 0
IsAnswer g k n h label answer = MatchOption answer (IsHigh g k n h label) (IsLowCut g k n h label)
