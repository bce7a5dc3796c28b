-- The marks of the nodes that are on two paths of a step, path by path. A node that was met has the place after the one of the
-- first path in which it stands.
use Rattle.std.specs.Prelude.{◌≡◌, ℕ, ◌-◌, ◌<◌, ◌≤◌, Bool, true, false, List, length, Some, slice_get, slice_index, slice_index_or, slice_set, ◌+◌, ◌≢◌, ◌⊎◌}
use Rattle.flow_cert.specs.Words.{In, PathValue, StepValue}
use Rattle.flow_cert.specs.Needed.{IsShared}

-- the mark of a node
abbrev pub mark : List Bool → ℕ → Bool
mark marks m = slice_index_or marks m false

-- m stands in a path, at a place before the limit
pub record StandsIn (s : StepValue) (limit m place : ℕ) : Type 0 where
  pub path : PathValue
  pub is : slice_get s.paths place ≡ Some path
  pub before : place < limit
  pub inside : In path.nodes m

-- a node of the path at a place is taken: it is met there first, or again, or in an earlier path
pub data HasTaken (node place m : ℕ) (marks : List Bool) (met : List ℕ) (marks' : List Bool) (met' : List ℕ) : Type 0 where
  first : slice_index met m ≡ 0 → met' ≡ slice_set met m (place + 1) → marks' ≡ marks → HasTaken node place m marks met marks' met'
  again : 0 < slice_index met m → (slice_index met m ≡ place + 1) ⊎ (m ≡ node) → met' ≡ met → marks' ≡ marks → HasTaken node place m marks met marks' met'
  shared : 0 < slice_index met m → slice_index met m ≢ place + 1 → m ≢ node → met' ≡ met → marks' ≡ slice_set marks m true → HasTaken node place m marks met marks' met'

-- the first paths, and `nodes` as the beginning of the next one, have been taken
pub record AreTaken (s : StepValue) (limit : ℕ) (nodes : List ℕ) (met : List ℕ) : Type 0 where
  pub first : (m : ℕ) → 0 < slice_index met m → StandsIn s limit m (slice_index met m - 1) ⊎ ((slice_index met m - 1 ≡ limit) × In nodes m)
  pub all : (m i : ℕ) → StandsIn s limit m i → (0 < slice_index met m) × (slice_index met m - 1 ≤ i)
  pub here : (m : ℕ) → In nodes m → (0 < slice_index met m) × (slice_index met m - 1 ≤ limit)

-- what is marked then
pub record AreMarkedTo (s : StepValue) (limit : ℕ) (nodes : List ℕ) (old new : List Bool) : Type 0 where
  pub size : length new ≡ length old
  pub kept : (m : ℕ) → mark old m ≡ true → mark new m ≡ true
  pub only : (m : ℕ) → mark new m ≡ true → (mark old m ≡ true) ⊎ IsShared s m
  pub all : (m i : ℕ) → m < s.node → StandsIn s limit m i → (In nodes m ⊎ ((j : ℕ) × (i < j) × StandsIn s limit m j)) → mark new m ≡ true

-- the nodes that the step's paths share are marked too
pub record AreMarked (s : StepValue) (old new : List Bool) : Type 0 where
  pub size : length new ≡ length old
  pub kept : (m : ℕ) → mark old m ≡ true → mark new m ≡ true
  pub only : (m : ℕ) → mark new m ≡ true → (mark old m ≡ true) ⊎ IsShared s m
  pub all : (m : ℕ) → IsShared s m → mark new m ≡ true

-- the numbers of the nodes of a step are in range
pub record FitStep (s : StepValue) (n : ℕ) : Type 0 where
  pub each : (p : PathValue) (m : ℕ) → In s.paths p → In p.nodes m → (m ≤ s.node) × (m < n)
