-- The required depths and the chosen cuts as the walk finds them.
use Rattle.std.specs.Prelude.{◌≡◌, ℕ, ◌-◌, ◌/◌, ◌<◌, ◌≤◌, if◌then◌else◌, nat_lt, List, length, Option, Some, None, slice_index_or, ◌⊎◌}
use Rattle.cover_pick.specs.Words.{Aig, first_and, node_count, IsAnd, In, IsCover, HasDepth, RootsWithin, IsLeastDepth, row_at, height, flow_at, Rule, LeastCost, Scope, AnyHeight, LeastHeight}
use Rattle.cover_pick.specs.Target.{target}
use Rattle.cover_pick.specs.Flow.{flows_by}
use Rattle.cover_pick.specs.Served.{IsServed}
use Rattle.cover_pick.specs.Sharing.{IsNeededAbove}
use Rattle.cover_pick.specs.Ruled.{AreCapped, choice_of}
use Rattle.cover_pick.specs.Required.{need, required, cover_of}
use Rattle.cover_pick.specs.Schedule.{AtMost, FromRoot, IsRuled}
use Rattle.cover_pick.specs.Uses.{uses, cost_of}
use Rattle.cover_pick.specs.Rounds.{PlanValue}

-- A rule of choice keeps within the required depth: wherever a node's label is at most a depth, the choice is one of the node's cuts, of no greater height.
pub record Chooses (g : Aig) (cuts : ℕ → List (List ℕ)) (label : ℕ → ℕ) (choice : ℕ → ℕ → List ℕ) : Type 0 where
  pub cut : (n r : ℕ) → IsAnd g n → label n ≤ r → In (cuts n) (choice n r)
  pub low : (n r : ℕ) → IsAnd g n → label n ≤ r → height label (choice n r) ≤ r

-- a required depth comes from a needed node that has it as a leaf of its choice
pub record FromChoice (g : Aig) (choice : ℕ → ℕ → List ℕ) (reqs : ℕ → Option ℕ) (n r : ℕ) : Type 0 where
  pub reader : ℕ
  pub depth : ℕ
  pub and : IsAnd g reader
  pub needed : reqs reader ≡ Some depth
  pub leaf : In (choice reader depth) n
  pub is : r ≡ depth - 1

-- the rule of required depths over a rule of choice
pub record IsWalked (g : Aig) (label : ℕ → ℕ) (choice : ℕ → ℕ → List ℕ) (roots : List ℕ) (t : ℕ) (reqs : ℕ → Option ℕ) : Type 0 where
  pub low : (n r : ℕ) → IsAnd g n → reqs n ≡ Some r → label n ≤ r
  pub root : (l : ℕ) → In roots l → IsAnd g (l / 2) → AtMost (reqs (l / 2)) t
  pub leaf : (n r m : ℕ) → IsAnd g n → reqs n ≡ Some r → In (choice n r) m → AtMost (reqs m) (r - 1)
  pub whence : (n r : ℕ) → reqs n ≡ Some r → FromRoot roots t n r ⊎ FromChoice g choice reqs n r

-- the cut of a node in a list of one a node
abbrev pub cut_at : List (Option (List ℕ)) → ℕ → Option (List ℕ)
cut_at cuts n = slice_index_or cuts n None

-- the required depths of the rule's choices by some flows
abbrev pub depths_of : Rule → Aig → List (List (List ℕ)) → (ℕ → ℕ) → List ℕ → List ℕ → List (Option ℕ)
depths_of rule g rows label roots flows = required g (choice_of rule g rows label roots flows) roots (target g label roots)

-- the required depths of AND nodes alone
abbrev pub and_depths : Aig → List (Option ℕ) → ℕ → Option ℕ
and_depths g reqs n = if nat_lt n (first_and g) then None else need reqs n

-- the chosen cuts of the needed AND nodes
abbrev pub plan_of : Rule → Aig → List (List (List ℕ)) → (ℕ → ℕ) → List ℕ → List ℕ → ℕ → Option (List ℕ)
plan_of rule g rows label roots flows = cover_of g (choice_of rule g rows label roots flows) (depths_of rule g rows label roots flows)

-- a cover whose depth is at most t, where that of no cover is below t
pub record IsLeastCover (g : Aig) (k : ℕ) (roots : List ℕ) (cover : ℕ → Option (List ℕ)) (t : ℕ) : Type 0 where
  pub is : IsCover g k roots cover
  pub within : RootsWithin g cover roots t
  pub least : IsLeastDepth g k roots t

-- flows of a graph: only its AND nodes have any, and none is above the most
pub record AreFlows (g : Aig) (flows : List ℕ) : Type 0 where
  pub capped : AreCapped flows
  pub sources : (m : ℕ) → m < first_and g → flow_at flows m ≡ 0
  pub past : (m : ℕ) → node_count g ≤ m → flow_at flows m ≡ 0

-- what is chosen by some flows, and what the choice is good for
pub record IsPlanned (rule : Rule) (g : Aig) (rows : List (List (List ℕ))) (label : ℕ → ℕ) (roots flows : List ℕ) (cover : ℕ → Option (List ℕ)) : Type 0 where
  pub chosen : (n : ℕ) → cover n ≡ plan_of rule g rows label roots flows n
  pub schedule : IsWalked g label (choice_of rule g rows label roots flows) roots (target g label roots) (need (depths_of rule g rows label roots flows))
  pub best : (n r : ℕ) → IsAnd g n → need (depths_of rule g rows label roots flows) n ≡ Some r → IsRuled rule (flow_at flows) (IsNeededAbove roots cover n) label r (row_at rows n) (choice_of rule g rows label roots flows n r)
  pub timely : (n r : ℕ) → IsAnd g n → need (depths_of rule g rows label roots flows) n ≡ Some r → HasDepth g cover n r
  pub size : length (depths_of rule g rows label roots flows) ≡ node_count g
  pub least : (k : ℕ) → IsServed g k label rows → IsLeastCover g k roots cover (target g label roots)

-- the plan that the walk finds by some flows
abbrev pub plan_by : Aig → List (List (List ℕ)) → (ℕ → ℕ) → List ℕ → List ℕ → PlanValue
plan_by g rows label roots flows = record { reqs = and_depths g (depths_of LeastCost g rows label roots flows); cover = plan_of LeastCost g rows label roots flows }

-- the flows of the round after that by some flows
abbrev pub next_flows : Aig → List (List (List ℕ)) → (ℕ → ℕ) → List ℕ → Scope → List ℕ → List ℕ
next_flows g rows label roots scope flows = flows_by g rows label scope (uses g (plan_of LeastCost g rows label roots flows))

abbrev pub cost_by : Aig → List (List (List ℕ)) → (ℕ → ℕ) → List ℕ → List ℕ → ℕ
cost_by g rows label roots flows = cost_of g (plan_of LeastCost g rows label roots flows)

-- of two flows those whose plan costs less, the first ones where both cost the same
abbrev pub cheaper_flows : Aig → List (List (List ℕ)) → (ℕ → ℕ) → List ℕ → List ℕ → List ℕ → List ℕ
cheaper_flows g rows label roots first second = if nat_lt (cost_by g rows label roots second) (cost_by g rows label roots first) then second else first

-- the same of two lists of chosen cuts
abbrev pub cheaper_cuts : Aig → List (Option (List ℕ)) → List (Option (List ℕ)) → List (Option (List ℕ))
cheaper_cuts g first second = if nat_lt (cost_of g (cut_at second)) (cost_of g (cut_at first)) then second else first

-- of the first three rounds that begin with these flows
abbrev pub three_rounds : Aig → List (List (List ℕ)) → (ℕ → ℕ) → List ℕ → Scope → List ℕ → List ℕ
three_rounds g rows label roots scope flows =
    cheaper_flows g rows label roots (cheaper_flows g rows label roots flows (next_flows g rows label roots scope flows)) (next_flows g rows label roots scope (next_flows g rows label roots scope flows))

-- of six rounds from these counts on: those over all cuts and those over the cuts of the least height
abbrev pub six_rounds : Aig → List (List (List ℕ)) → (ℕ → ℕ) → List ℕ → (ℕ → ℕ) → List ℕ
six_rounds g rows label roots counts =
    cheaper_flows g rows label roots (three_rounds g rows label roots AnyHeight (flows_by g rows label AnyHeight counts)) (three_rounds g rows label roots LeastHeight (flows_by g rows label LeastHeight counts))
