-- Which cut the low cut of a node is.
use Rattle.std.specs.Prelude.{◌≡◌, ℕ, ◌+◌, ◌/◌, ◌<◌, ◌≤◌, List, [], length}
use Rattle.flow_label.specs.Words.{Aig, IsAnd, IsNode, Pair, In, Blocks, AreLeastHeights, IsFanIn, union}
use Rattle.list_laws.specs.Order.{IsAscending}
use Rattle.flow_label.specs.Value.{IsLive}
use Rattle.flow_label.specs.Barriers.{IsLowCut}
use Rattle.flow_label.specs.Parts.{IsLowPart, IsGreatest, IsFanInCut}

-- a node through which a low cut is looked for: n itself, or a live node below it that is reached through such nodes and has a label of at least p
pub data IsDeep (g : Aig) (label : ℕ → ℕ) (n p : ℕ) : ℕ → Type 0 where
  top : {v : ℕ} → v ≡ n → IsDeep g label n p v
  down : {m : ℕ} (v : ℕ) → IsDeep g label n p v → IsFanIn g m v → IsLive g label m → p ≤ label m → IsDeep g label n p m

-- an end: a live node of a label below p that one of these reads
pub record IsEndOf (g : Aig) (label : ℕ → ℕ) (n p u : ℕ) : Type 0 where
  pub reader : ℕ
  pub deep : IsDeep g label n p reader
  pub reads : IsFanIn g u reader
  pub live : IsLive g label u
  pub low : label u < p

-- exactly the ends
pub record AreEndsOf (g : Aig) (label : ℕ → ℕ) (n p : ℕ) (c : List ℕ) : Type 0 where
  pub ascending : IsAscending c
  pub only : (u : ℕ) → In c u → IsEndOf g label n p u
  pub all : (u : ℕ) → IsEndOf g label n p u → In c u

-- there are more than k ends
pub record HasManyEnds (g : Aig) (k : ℕ) (label : ℕ → ℕ) (n p : ℕ) : Type 0 where
  pub ends : List ℕ
  pub are : AreEndsOf g label n p ends
  pub many : k < length ends

-- the union of the low parts of the fan-ins
pub record IsJoin (g : Aig) (label : ℕ → ℕ) (lows : ℕ → List ℕ) (n p : ℕ) (c : List ℕ) : Type 0 where
  pub pair : Pair
  pub node : IsNode g pair n
  pub x : List ℕ
  pub y : List ℕ
  pub x_is : IsLowPart g label lows p (pair.x.0 / 2) x
  pub y_is : IsLowPart g label lows p (pair.y.0 / 2) y
  pub is : c ≡ union x y

-- it has more than k leaves
pub record IsWide (g : Aig) (k : ℕ) (label : ℕ → ℕ) (lows : ℕ → List ℕ) (n p : ℕ) : Type 0 where
  pub join : List ℕ
  pub are : IsJoin g label lows n p join
  pub wide : k < length join

-- The least low cut nearest to the node: no low cut has fewer leaves, and each of as few blocks all its leaves.
pub record IsNearest (g : Aig) (k n h : ℕ) (label : ℕ → ℕ) (c : List ℕ) : Type 0 where
  pub cut : IsLowCut g k n h label c
  pub least : (d : List ℕ) → IsLowCut g k n h label d → length c ≤ length d
  pub nearest : (d : List ℕ) (m : ℕ) → IsLowCut g k n h label d → length d ≤ length c → In c m → Blocks g d m

-- The low cut of a node, where p is the greatest label of its fan-ins: the live fan-ins if its label is greater or p is 0. Otherwise its leaves have labels below p: they are the join of the fan-ins' low parts if that has at most k leaves, else the ends if these are at most k, else the least low cut nearest to the node.
pub data IsLowOf (g : Aig) (k : ℕ) (label : ℕ → ℕ) (lows : ℕ → List ℕ) (n p : ℕ) (c : List ℕ) : Type 0 where
  fan_ins : (label n ≡ p → p ≡ 0) → IsFanInCut g label n c → IsLowOf g k label lows n p c
  joined : label n ≡ p → 1 ≤ p → IsJoin g label lows n p c → length c ≤ k → IsLowOf g k label lows n p c
  ends : label n ≡ p → 1 ≤ p → IsWide g k label lows n p → AreEndsOf g label n p c → length c ≤ k → IsLowOf g k label lows n p c
  nearest : label n ≡ p → 1 ≤ p → IsWide g k label lows n p → HasManyEnds g k label n p → IsNearest g k n (p + 1) label c → IsLowOf g k label lows n p c

pub record HasLow (g : Aig) (k : ℕ) (label : ℕ → ℕ) (lows : ℕ → List ℕ) (n : ℕ) (c : List ℕ) : Type 0 where
  pub greatest : ℕ
  pub is : IsGreatest g label n greatest
  pub low : IsLowOf g k label lows n greatest c

-- the low cut of each AND node, by the labels and the low cuts below it
pub record AreLowsOf (g : Aig) (k : ℕ) (label : ℕ → ℕ) (lows : ℕ → List ℕ) : Type 0 where
  pub none : (n : ℕ) → (IsAnd g n → ⊥) → lows n ≡ []
  pub each : (n : ℕ) → IsAnd g n → HasLow g k label lows n (lows n)

-- a graph has one low cut for each node
pub record HasOneLow (g : Aig) (k : ℕ) : Type 0 where
  pub once : (f h : ℕ → ℕ) (lows others : ℕ → List ℕ) → AreLeastHeights g k f → AreLeastHeights g k h → AreLowsOf g k f lows → AreLowsOf g k h others → (n : ℕ) → lows n ≡ others n
