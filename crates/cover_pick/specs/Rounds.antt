-- Rounds: plans each of which is made by flows over what the one before it uses. Sets of cuts are made twice, with six rounds each, and the first plan of the least cost is taken.
use Rattle.std.specs.Prelude.{◌≡◌, ℕ, ◌<◌, ◌≤◌, Bool, false, List, [], ◌∷◌, ◌++◌, length, Option, ◌⊎◌}
use Rattle.cover_pick.specs.Words.{Aig, In, LeastCost, FewestLeaves, Scope, AnyHeight, LeastHeight, flow_at, fan_out, AreSets}
use Rattle.cover_pick.specs.Flow.{flows_by}
use Rattle.cover_pick.specs.Schedule.{IsPlanBy}
use Rattle.cover_pick.specs.Uses.{uses, has_cut, cost_of}

-- required depths and chosen cuts
pub record PlanValue : Type 0 where
  pub reqs : ℕ → Option ℕ
  pub cover : ℕ → Option (List ℕ)

-- Rounds over the allowed cuts, from these counts on: the first plan is by the flows for the counts, and the others are rounds from what it uses on.
abbrev pub AreRounds : Aig → List (List (List ℕ)) → (ℕ → ℕ) → List ℕ → Scope → (ℕ → ℕ) → List PlanValue → Type 0
AreRounds g rows label roots scope counts [] = Unit {0}
AreRounds g rows label roots scope counts (p ∷ ps) = IsPlanBy LeastCost g rows label roots (flow_at (flows_by g rows label scope counts)) p.reqs p.cover × AreRounds g rows label roots scope (uses g p.cover) ps

-- no plan of the list costs less than this
abbrev pub NoneBelow : Aig → ℕ → List PlanValue → Type 0
NoneBelow g cost ps = (p : PlanValue) → In ps p → cost ≤ cost_of g p.cover

-- p is the first plan of the least cost in the list: it is the first of the list, and none after it costs less; or it costs less than the first, and is that of the others
abbrev pub IsFirst : Aig → PlanValue → List PlanValue → Type 0
IsFirst g p [] = ⊥
IsFirst g p (q ∷ qs) = ((p ≡ q) × NoneBelow g (cost_of g p.cover) qs) ⊎ ((cost_of g p.cover < cost_of g q.cover) × IsFirst g p qs)

-- Six rounds from these counts on: three over all cuts, and three over the cuts of the least height.
pub record AreSixRounds (g : Aig) (rows : List (List (List ℕ))) (label : ℕ → ℕ) (roots : List ℕ) (counts : ℕ → ℕ) (plans : List PlanValue) : Type 0 where
  pub any : List PlanValue
  pub any_three : length any ≡ 3
  pub any_rounds : AreRounds g rows label roots AnyHeight counts any
  pub low : List PlanValue
  pub low_three : length low ≡ 3
  pub low_rounds : AreRounds g rows label roots LeastHeight counts low
  pub are : plans ≡ any ++ low

-- A making: the sets for these counts and favoured nodes, and six rounds over them from these counts on.
pub record IsMaking (g : Aig) (k : ℕ) (lows : ℕ → List ℕ) (label : ℕ → ℕ) (roots : List ℕ) (counts : ℕ → ℕ) (favoured : ℕ → Bool) (plans : List PlanValue) : Type 0 where
  pub sets : List (List (List ℕ))
  pub made : AreSets g k label lows counts favoured sets
  pub rounds : AreSixRounds g sets label roots counts plans

-- The first plan of the least cost of two makings: one over the fan-outs, where no node is favoured; and one over what its first plan of the least cost uses, where the nodes are favoured that this plan needs.
pub record IsLeastOfMakings (g : Aig) (k : ℕ) (lows : ℕ → List ℕ) (label : ℕ → ℕ) (roots : List ℕ) (reqs : ℕ → Option ℕ) (cover : ℕ → Option (List ℕ)) : Type 0 where
  pub first : List PlanValue
  pub first_making : IsMaking g k lows label roots (fan_out g) (λ m. false) first
  pub best : PlanValue
  pub best_is : IsFirst g best first
  pub second : List PlanValue
  pub second_making : IsMaking g k lows label roots (uses g best.cover) (λ m. has_cut (best.cover m)) second
  pub plan : PlanValue
  pub plan_is : IsFirst g plan (first ++ second)
  pub depths : (n : ℕ) → reqs n ≡ plan.reqs n
  pub cuts : (n : ℕ) → cover n ≡ plan.cover n

-- no node has a flow
abbrev pub no_flow : ℕ → ℕ
no_flow m = 0

-- What a plan is chosen from: rows of all nodes' cuts, of which those of the fewest leaves are chosen; or bounded sets for LUTs of at most k inputs, made over these low cuts, of which those of the least cost are chosen.
pub data Supply : Type 0 where
  Rows : List (List (List ℕ)) → Supply
  Sets : ℕ → (ℕ → List ℕ) → Supply

-- The required depths and the chosen cuts: the fewest leaves need no flows, and the least cost is that of twelve plans, each by flows of its own.
abbrev pub IsPlan : Supply → Aig → (ℕ → ℕ) → List ℕ → (ℕ → Option ℕ) → (ℕ → Option (List ℕ)) → Type 0
IsPlan (Rows rows) g label roots reqs cover = IsPlanBy FewestLeaves g rows label roots no_flow reqs cover
IsPlan (Sets k lows) g label roots reqs cover = IsLeastOfMakings g k lows label roots reqs cover
