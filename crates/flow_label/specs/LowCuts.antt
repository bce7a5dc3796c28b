-- Which low cut the code finds, node by node: as in Lows, with the node's label as a number of its own.
use Rattle.std.specs.Prelude.{◌≡◌, ℕ, ◌+◌, ◌<◌, ◌≤◌, List, [], length, ◌≢◌}
use Rattle.aig_core.specs.Aig.{Aig, IsAnd}
use Rattle.flow_label.specs.Value.{FlowValue, label_of, low_cut_of}
use Rattle.flow_label.specs.Barriers.{IsHigh}
use Rattle.flow_label.specs.declared.question.FlowEnd.{FlowEnd}
use Rattle.flow_label.specs.declared.question.FlowEnd.TheVariants.{High, Low, HeldUp}
use Rattle.flow_label.specs.Parts.{IsGreatest, IsFanInCut}
use Rattle.flow_label.specs.Lows.{AreEndsOf, HasManyEnds, IsJoin, IsWide, IsNearest}

-- what walk and search find: the ends if these are at most k, else the least low cut nearest to the node
pub data IsFlowCut (g : Aig) (k : ℕ) (label : ℕ → ℕ) (n p : ℕ) (c : List ℕ) : Type 0 where
  by_walk : AreEndsOf g label n p c → length c ≤ k → IsFlowCut g k label n p c
  by_search : HasManyEnds g k label n p → IsNearest g k n (p + 1) label c → IsFlowCut g k label n p c

-- a cut of labels below p: the join if it has at most k leaves, else what the flow finds
pub data IsLowerCut (g : Aig) (k : ℕ) (label : ℕ → ℕ) (lows : ℕ → List ℕ) (n p : ℕ) (c : List ℕ) : Type 0 where
  by_join : IsJoin g label lows n p c → length c ≤ k → IsLowerCut g k label lows n p c
  by_flow : IsWide g k label lows n p → IsFlowCut g k label n p c → IsLowerCut g k label lows n p c

-- the low cut of a node with the label x, where p is the greatest label of its fan-ins
pub data IsLowWith (g : Aig) (k : ℕ) (label : ℕ → ℕ) (lows : ℕ → List ℕ) (n p x : ℕ) (c : List ℕ) : Type 0 where
  by_fan_ins : (x ≡ p → p ≡ 0) → IsFanInCut g label n c → IsLowWith g k label lows n p x c
  by_lower : x ≡ p → 1 ≤ p → IsLowerCut g k label lows n p c → IsLowWith g k label lows n p x c

pub record HasLowWith (g : Aig) (k : ℕ) (label : ℕ → ℕ) (lows : ℕ → List ℕ) (n x : ℕ) (c : List ℕ) : Type 0 where
  pub greatest : ℕ
  pub is : IsGreatest g label n greatest
  pub low : IsLowWith g k label lows n greatest x c

-- the low cuts of the first n nodes
pub record AreLowsTo (g : Aig) (k n : ℕ) (v : FlowValue) : Type 0 where
  pub none : (m : ℕ) → (IsAnd g m → ⊥) → low_cut_of v m ≡ []
  pub each : (m : ℕ) → m < n → IsAnd g m → HasLowWith g k (label_of v) (low_cut_of v) m (label_of v m) (low_cut_of v m)

-- what a flow shows of the cuts of n: each one is high, or the nearest least low cut, or nothing if a floor above the sources held it up
abbrev pub IsShown : Aig → ℕ → ℕ → ℕ → (ℕ → ℕ) → ℕ → FlowEnd → Type 0
IsShown g k n h label floor High = IsHigh g k n h label
IsShown g k n h label floor (Low c) = IsNearest g k n h label c
IsShown g k n h label floor HeldUp = floor ≢ length g.kinds
