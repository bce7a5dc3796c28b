-- The walk down from a node through deep nodes, as the code takes it: upper nodes wait in a queue.
use Rattle.std.specs.Prelude.{◌≡◌, ℕ, ◌+◌, ◌<◌, ◌≤◌, List, [], ◌∷◌, ◌++◌, length, slice_index, slice_set}
use Rattle.flow_label.specs.Words.{Aig, IsAnd, AreApart, In, IsFanIn}
use Rattle.flow_label.specs.Value.{IsLive}
use Rattle.flow_label.specs.Net.{FlowNet, IsUpper, IsMet, AreEnds}

-- m is read by v: it may have been met before or be free, and else it is one more upper node or one more end
pub data HasRead (g : Aig) (label : ℕ → ℕ) (height m v : ℕ) (readers uppers ends readers' uppers' ends' : List ℕ) : Type 0 where
  free : (IsLive g label m → ⊥) → readers' ≡ readers → uppers' ≡ uppers → ends' ≡ ends → HasRead g label height m v readers uppers ends readers' uppers' ends'
  again : 0 < slice_index readers m → readers' ≡ readers → uppers' ≡ uppers → ends' ≡ ends → HasRead g label height m v readers uppers ends readers' uppers' ends'
  low : IsLive g label m → slice_index readers m ≡ 0 → label m + 1 < height → readers' ≡ slice_set readers m v → uppers' ≡ uppers → ends' ≡ ends ++ m ∷ [] → HasRead g label height m v readers uppers ends readers' uppers' ends'
  deep : IsLive g label m → slice_index readers m ≡ 0 → height ≤ label m + 1 → readers' ≡ slice_set readers m v → uppers' ≡ uppers ++ m ∷ [] → ends' ≡ ends → HasRead g label height m v readers uppers ends readers' uppers' ends'

-- the upper nodes that wait, or have read
pub record AreUppers (net : FlowNet) (uppers : List ℕ) : Type 0 where
  pub once : AreApart uppers
  pub only : (v : ℕ) → In uppers v → IsUpper net v × IsAnd net.graph v × (v ≤ net.node)
  pub all : (v : ℕ) → IsUpper net v → In uppers v

-- the first `done` of the upper nodes have read their live fan-ins
pub record IsWalked (net : FlowNet) (uppers ends : List ℕ) (done : ℕ) : Type 0 where
  pub met : (m : ℕ) → 0 < net.reader m → IsMet net m
  pub uppers_are : AreUppers net uppers
  pub ends_are : AreEnds net ends
  pub within : done ≤ length uppers
  pub read : (j m : ℕ) → j < done → IsFanIn net.graph m (slice_index uppers j) → IsLive net.graph net.label m → 0 < net.reader m
