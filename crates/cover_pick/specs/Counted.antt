-- How the work of LUTs is counted: one LUT after another, and then the nodes that are counted once.
use Rattle.std.specs.Prelude.{◌≡◌, ℕ, ◌+◌, ◌/◌, ◌<◌, ◌≤◌, Bool, true, List, length, ◌⊎◌, ◌*◌}
use Rattle.cover_pick.specs.Words.{Aig, node_count, In, MOST_WORK, Lut}
use Rattle.cover_pick.specs.Mapping.{AscendByLit}
use Rattle.cover_pick.specs.Work.{Path, IsOwnWork, IsWork}
use Rattle.cover_pick.specs.Free.{mark_of, BarLeaves}
use Rattle.cover_pick.specs.Cone.{once_in, AreClosed, IsBelowMet}

-- the work of LUTs is within the limit, where these nodes are counted once
pub record IsWithin (g : Aig) (once : ℕ → Type 0) (ts : List Lut) : Type 0 where
  pub work : ℕ
  pub is : IsWork g once ts work
  pub within : work ≤ MOST_WORK

-- or past it
pub record IsPast (g : Aig) (once : ℕ → Type 0) (ts : List Lut) : Type 0 where
  pub work : ℕ
  pub is : IsWork g once ts work
  pub past : MOST_WORK < work

-- LUTs whose work is counted: they ascend, and their literals are of nodes
pub record AreCountable (g : Aig) (ts : List Lut) : Type 0 where
  pub inside : (t : Lut) → In ts t → t.lit.0 < 2 * node_count g
  pub ascending : AscendByLit ts

-- marks of nodes that are counted once: their fan-ins are marked, and none is a leaf
pub record CountOnce (g : Aig) (ts : List Lut) (once : List Bool) : Type 0 where
  pub closed : AreClosed g once
  pub barred : BarLeaves ts once

-- the nodes that were met in the cones of all LUTs but those that are left
pub record AreMet (g : Aig) (once : List Bool) (ts left : List Lut) (met : List Bool) : Type 0 where
  pub size : length met ≡ node_count g
  pub only : (m : ℕ) → mark_of met m ≡ true → once_in once m × (t : Lut) × In ts t × Path g t.leaves m (t.lit.0 / 2)
  pub all : (t : Lut) → In ts t → In left t ⊎ ((m : ℕ) → Path g t.leaves m (t.lit.0 / 2) → once_in once m → IsBelowMet g met m)

-- the work of all LUTs but those that are left, each by itself
pub record IsOwnWorkTo (g : Aig) (once : ℕ → Type 0) (ts left : List Lut) (work : ℕ) : Type 0 where
  pub more : (rest : ℕ) → IsOwnWork g once left rest → IsOwnWork g once ts (work + rest)
