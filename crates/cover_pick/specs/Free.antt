-- How the free nodes are marked.
use Rattle.std.specs.Prelude.{◌≡◌, ℕ, ◌/◌, ◌<◌, true, false, Bool, List, [], ◌∷◌, length, slice_set, slice_index_or}
use Rattle.cover_pick.specs.Words.{Aig, node_count, In, IsNode, IsSource, Parameter, Pair, Lut}
use Rattle.cover_pick.specs.Work.{IsFree}

-- the mark of a node
abbrev pub mark_of : List Bool → ℕ → Bool
mark_of marks n = slice_index_or marks n false

-- the marked nodes are free
pub record AreFree (g : Aig) (luts : List Lut) (marks : List Bool) : Type 0 where
  pub each : (n : ℕ) → mark_of marks n ≡ true → IsFree g luts n

-- marks: a node that is marked is no leaf of these LUTs
pub record BarLeaves (luts : List Lut) (marks : List Bool) : Type 0 where
  pub each : (n : ℕ) → mark_of marks n ≡ true → (t : Lut) → In luts t → In t.leaves n → ⊥

-- the marked nodes below a place are free, none of the marked ones is a leaf, and all free ones are marked
pub record AreFreeTo (g : Aig) (luts : List Lut) (marks : List Bool) (i : ℕ) : Type 0 where
  pub barred : BarLeaves luts marks
  pub below : (n : ℕ) → n < i → mark_of marks n ≡ true → IsFree g luts n
  pub all : (n : ℕ) → n < node_count g → IsFree g luts n → mark_of marks n ≡ true
  pub long : length marks ≡ node_count g

-- what a node that is no leaf is free by, as the marks of its fan-ins tell
pub data HasFreeParts (g : Aig) (marks : List Bool) (n : ℕ) : Type 0 where
  is_constant : n ≡ 0 → HasFreeParts g marks n
  is_parameter : IsSource g Parameter n → HasFreeParts g marks n
  has_fan_ins : (p : Pair) → IsNode g p n → mark_of marks (p.x.0 / 2) ≡ true → mark_of marks (p.y.0 / 2) ≡ true → HasFreeParts g marks n

-- marks after some nodes lose theirs, and after the leaves of LUTs do
abbrev pub unmarked : List Bool → List ℕ → List Bool
unmarked marks [] = marks
unmarked marks (m ∷ ms) = unmarked (slice_set marks m false) ms

abbrev pub all_unmarked : List Bool → List Lut → List Bool
all_unmarked marks [] = marks
all_unmarked marks (t ∷ ts) = all_unmarked (unmarked marks t.leaves) ts
