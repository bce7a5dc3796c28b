-- What the fan-ins of a node give to its cuts.
use Rattle.std.specs.Prelude.{◌≡◌, ℕ, ◌/◌, ◌<◌, ◌≤◌, max, List, [], ◌∷◌, slice_index_or}
use Rattle.flow_label.specs.Words.{Aig, IsNode, Pair, union}
use Rattle.flow_label.specs.Value.{IsLive}

-- the low cut at a place, none past the last one
abbrev pub low_at : List (List ℕ) → ℕ → List ℕ
low_at cuts m = slice_index_or cuts m []

-- a node as a cut: nothing if it is free, otherwise itself
pub data IsOwnPart (g : Aig) (label : ℕ → ℕ) (m : ℕ) (c : List ℕ) : Type 0 where
  live : IsLive g label m → c ≡ m ∷ [] → IsOwnPart g label m c
  free : (IsLive g label m → ⊥) → c ≡ [] → IsOwnPart g label m c

-- the part of a node in a cut of labels below p: itself if its label is below p, otherwise its low cut
pub data IsLowPart (g : Aig) (label : ℕ → ℕ) (lows : ℕ → List ℕ) (p m : ℕ) (c : List ℕ) : Type 0 where
  own : label m < p → IsOwnPart g label m c → IsLowPart g label lows p m c
  low : p ≤ label m → c ≡ lows m → IsLowPart g label lows p m c

-- the greater label of the fan-ins
pub record IsGreatest (g : Aig) (label : ℕ → ℕ) (n p : ℕ) : Type 0 where
  pub pair : Pair
  pub node : IsNode g pair n
  pub is : p ≡ max (label (pair.x.0 / 2)) (label (pair.y.0 / 2))

-- the live fan-ins
pub record IsFanInCut (g : Aig) (label : ℕ → ℕ) (n : ℕ) (c : List ℕ) : Type 0 where
  pub pair : Pair
  pub node : IsNode g pair n
  pub x : List ℕ
  pub y : List ℕ
  pub x_is : IsOwnPart g label (pair.x.0 / 2) x
  pub y_is : IsOwnPart g label (pair.y.0 / 2) y
  pub is : c ≡ union x y
