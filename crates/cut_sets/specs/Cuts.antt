-- The cuts of a node: what blocks it, and which of these are minimal.
use Rattle.std.specs.Prelude.{◌≡◌, ℕ, ◌/◌, ◌<◌, ◌≤◌, List, length, ◌⊎◌}
use Rattle.cut_sets.specs.Words.{Aig, IsAnd, Regular, Parameter, Pair, In, Within, IsAscending, IsSource, IsNode}
use Rattle.cut_sets.specs.Sets.{IsOrdered}

-- A set blocks a node when the node is in it, or is the constant or a parameter, or both fan-ins are blocked.
pub data Blocks (g : Aig) (c : List ℕ) : ℕ → Type 0 where
  member : {n : ℕ} → In c n → Blocks g c n
  constant : {n : ℕ} → n ≡ 0 → Blocks g c n
  parameter : {n : ℕ} → IsSource g Parameter n → Blocks g c n
  fan_ins : {n : ℕ} (p : Pair) → IsNode g p n → Blocks g c (p.x.0 / 2) → Blocks g c (p.y.0 / 2) → Blocks g c n

-- a regular source or an AND node
abbrev pub CanBeLeaf : Aig → ℕ → Type 0
CanBeLeaf g m = IsSource g Regular m ⊎ IsAnd g m

-- a cut of at most k leaves
pub record IsCut (g : Aig) (k n : ℕ) (c : List ℕ) : Type 0 where
  pub ascending : IsAscending c
  pub few : length c ≤ k
  pub below : (m : ℕ) → In c m → (m < n) × CanBeLeaf g m
  pub blocks : Blocks g c n

-- no proper part of it is a cut
pub record IsMinimal (g : Aig) (k n : ℕ) (c : List ℕ) : Type 0 where
  pub cut : IsCut g k n c
  pub least : (d : List ℕ) → IsCut g k n d → Within d c → d ≡ c

-- some set of the list is within c
pub record Covers (cs : List (List ℕ)) (c : List ℕ) : Type 0 where
  pub by : List ℕ
  pub in' : In cs by
  pub part : Within by c

-- exactly the minimal cuts, those with fewer leaves first, then lexicographically: so each occurs once
pub record AreMinimal (g : Aig) (k n : ℕ) (cs : List (List ℕ)) : Type 0 where
  pub only : (c : List ℕ) → In cs c → IsMinimal g k n c
  pub all : (c : List ℕ) → IsMinimal g k n c → In cs c
  pub ordered : IsOrdered cs

-- each list of at most k nodes that blocks a node has the node itself, or one of these cuts within it
pub record EachContainsOne (g : Aig) (k n : ℕ) (cs : List (List ℕ)) : Type 0 where
  pub each : (c : List ℕ) → IsAscending c → length c ≤ k → Blocks g c n → In c n ⊎ Covers cs c
