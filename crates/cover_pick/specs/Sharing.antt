-- What a cut costs where some nodes are needed already, and the cut of the least cost.
use Rattle.std.specs.Prelude.{◌≡◌, ℕ, ◌+◌, ◌/◌, ◌^◌, ◌<◌, ◌≤◌, true, List, [], ◌∷◌, length, Option, Some, ◌⊎◌}
use Rattle.cover_pick.specs.Words.{In, before, height}

-- m is needed from above n: it is a root's node, or a leaf of the chosen cut of a node above n
pub data IsNeededAbove (roots : List ℕ) (cover : ℕ → Option (List ℕ)) (n m : ℕ) : Type 0 where
  root : (l : ℕ) → In roots l → l / 2 ≡ m → IsNeededAbove roots cover n m
  leaf : (reader : ℕ) (c : List ℕ) → n < reader → cover reader ≡ Some c → In c m → IsNeededAbove roots cover n m

-- what a leaf costs: nothing where it is needed already or has no flow, else its flow
pub data IsLeafCost (flow : ℕ → ℕ) (needed : ℕ → Type 0) (m cost : ℕ) : Type 0 where
  shared : needed m → cost ≡ 0 → IsLeafCost flow needed m cost
  free : flow m ≡ 0 → cost ≡ 0 → IsLeafCost flow needed m cost
  new : (needed m → ⊥) → cost ≡ flow m → IsLeafCost flow needed m cost

-- what some leaves cost together
abbrev pub AreLeafCosts : (ℕ → ℕ) → (ℕ → Type 0) → List ℕ → ℕ → Type 0
AreLeafCosts flow needed [] cost = cost ≡ 0
AreLeafCosts flow needed (m ∷ ms) cost = (first : ℕ) × (rest : ℕ) × IsLeafCost flow needed m first × AreLeafCosts flow needed ms rest × (cost ≡ first + rest)

-- what a cut costs: the bits of its table, and its leaves
pub record IsCost (flow : ℕ → ℕ) (needed : ℕ → Type 0) (c : List ℕ) (cost : ℕ) : Type 0 where
  pub leaves : ℕ
  pub are : AreLeafCosts flow needed c leaves
  pub is : cost ≡ 2 ^ length c + leaves

-- c is chosen before d: it costs less, or as much and comes no later in the order of cuts
pub data IsCheaper (c d : List ℕ) (cost other : ℕ) : Type 0 where
  less : cost < other → IsCheaper c d cost other
  earlier : cost ≡ other → (c ≡ d) ⊎ (before c d ≡ true) → IsCheaper c d cost other

-- among the cuts of a height of at most r the one of the least cost, and of these the first in the order of cuts
pub record IsCheapest (flow : ℕ → ℕ) (needed : ℕ → Type 0) (label : ℕ → ℕ) (r : ℕ) (cs : List (List ℕ)) (c : List ℕ) : Type 0 where
  pub one : In cs c
  pub low : height label c ≤ r
  pub cost : ℕ
  pub is : IsCost flow needed c cost
  pub first : (d : List ℕ) (other : ℕ) → In cs d → height label d ≤ r → IsCost flow needed d other → IsCheaper c d cost other
