-- The steps of the needed nodes, from above.
use Rattle.std.specs.Prelude.{◌≡◌, ℕ, ◌≤◌, Bool, true, List, length, map, ◌⊎◌, ◌+◌, ◌<◌, ◌≢◌, ◌∷◌, Some, reverse, slice_get}
use Rattle.flow_cert.specs.Words.{Aig, node_count, IsAnd, In, StepValue, PathValue, IsJustified}
use Rattle.list_laws.specs.Order.{IsAscending, IsDescending}
use Rattle.flow_cert.specs.Marks.{mark}
use Rattle.flow_cert.specs.Needed.{IsShared, HasStep}
use Rattle.cut_sets.specs.Paths.{Climbs, IsPath}

-- from v the nodes of the list, read backwards, go up to n
pub record IsDownTo (g : Aig) (n v : ℕ) (nodes : List ℕ) : Type 0 where
  pub rest : List ℕ
  pub is : reverse nodes ≡ v ∷ rest
  pub climbs : Climbs g v rest n

-- k + 1 paths to n, any two of which share only n and nodes whose label is at least one less than that of n
pub record AreShowing (g : Aig) (k : ℕ) (label : ℕ → ℕ) (n : ℕ) (paths : List PathValue) : Type 0 where
  pub count : length paths ≡ k + 1
  pub each : (p : PathValue) → In paths p → IsPath g n p.nodes
  pub apart : (i j m : ℕ) (p q : PathValue) → i < j → slice_get paths i ≡ Some p → slice_get paths j ≡ Some q → In p.nodes m → In q.nodes m → m ≢ n → label n ≤ label m + 1

-- a step that claims its node's label, and is justified where all claims are labels
pub record IsStepOf (g : Aig) (k : ℕ) (label : ℕ → ℕ) (s : StepValue) : Type 0 where
  pub and : IsAnd g s.node
  pub claim : s.claim ≡ label s.node
  pub positive : 1 ≤ s.claim
  pub justified : IsJustified g k label s

-- the node where the certificate begins: 0 for none, or an AND node with a label of 1 at least
abbrev pub CanBegin : Aig → (ℕ → ℕ) → ℕ → Type 0
CanBegin g label begin = (begin ≡ 0) ⊎ (IsAnd g begin × (1 ≤ label begin))

-- m is where it begins, or stands in two paths of a step above it
pub data IsWanted (begin : ℕ) (steps : List StepValue) (m : ℕ) : Type 0 where
  first : m ≡ begin → IsWanted begin steps m
  shared : (t : StepValue) → In steps t → IsShared t m → IsWanted begin steps m

-- the nodes from the limit on have their steps, and these have marked what they need
pub record AreDoneTo (g : Aig) (k : ℕ) (label : ℕ → ℕ) (begin limit : ℕ) (marks : List Bool) (steps : List StepValue) : Type 0 where
  pub size : length marks ≡ node_count g
  pub descending : IsDescending (map (λ s. s.node) steps)
  pub above : (s : StepValue) → In steps s → limit ≤ s.node
  pub each : (s : StepValue) → In steps s → IsStepOf g k label s
  pub why : (s : StepValue) → In steps s → IsWanted begin steps s.node
  pub marked : (m : ℕ) → mark marks m ≡ true → IsAnd g m × (1 ≤ label m) × IsWanted begin steps m
  pub have : (m : ℕ) → limit ≤ m → mark marks m ≡ true → HasStep steps m
  pub shares : (s : StepValue) (m : ℕ) → In steps s → IsShared s m → mark marks m ≡ true
  pub begun : IsAnd g begin → mark marks begin ≡ true

-- the steps of a certificate, in ascending order
pub record AreSteps (g : Aig) (k : ℕ) (label : ℕ → ℕ) (begin : ℕ) (steps : List StepValue) : Type 0 where
  pub ascending : IsAscending (map (λ s. s.node) steps)
  pub each : (s : StepValue) → In steps s → IsStepOf g k label s
  pub why : (s : StepValue) → In steps s → IsWanted begin steps s.node
  pub shares : (s : StepValue) (m : ℕ) → In steps s → IsShared s m → HasStep steps m
  pub begun : IsAnd g begin → HasStep steps begin

-- one more node is done, the next one down, wherever the steps begin
abbrev pub DoesNode : Aig → ℕ → (ℕ → ℕ) → ℕ → List Bool → List StepValue → List Bool → List StepValue → Type 0
DoesNode g k label n marks steps marks' steps' = (begin : ℕ) → AreDoneTo g k label begin (n + 1) marks steps → AreDoneTo g k label begin n marks' steps'
