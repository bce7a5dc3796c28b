-- What can be reached along edges.
use Rattle.std.specs.Prelude.{◌≡◌, ◌⊎◌, List}
use Rattle.list_laws.specs.Members.{In}

-- n reaches m: it is m, or one of its successors reaches m
pub data Reaches {N : Type 0} (next : N → List N) : N → N → Type 0 where
  here : {n m : N} → m ≡ n → Reaches next n m
  through : {n m : N} (k : N) → In (next n) k → Reaches next k m → Reaches next n m

-- one of several nodes reaches m
pub record IsReached {N : Type 0} (next : N → List N) (starts : List N) (m : N) : Type 0 where
  pub start : N
  pub member : In starts start
  pub reaches : Reaches next start m

-- the nodes that are done after a walk are those that were done before, and those that the starts reach
pub record AddsReached {N : Type 0} (next : N → List N) (before starts after : List N) : Type 0 where
  pub keeps : (m : N) → In before m → In after m
  pub all : (m : N) → IsReached next starts m → In after m
  pub only : (m : N) → In after m → In before m ⊎ IsReached next starts m
