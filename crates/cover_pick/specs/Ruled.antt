-- How the cut of a node is found by a rule, in the walk of the required depths.
use Rattle.std.specs.Prelude.{ℕ, List, length, Option, None, ◌≡◌, ◌<◌, ◌&&◌, if◌then◌else◌, ◌==◌, nat_lt, [], ◌∷◌, Some, slice_index_or, ◌+◌, ◌^◌, ◌≤◌, sum_by, ◌⊎◌, true}
use Rattle.cover_pick.specs.Words.{Aig, first_and, row_at, Rule, FewestLeaves, LeastCost, height, comes_before, flow_at, MOST_FLOW}
pub use Rattle.depth_label.specs.Fold.{or_empty}
use Rattle.cover_pick.specs.Target.{target}
use Rattle.cover_pick.specs.Required.{met_at, roots_required, need}
use Rattle.cover_pick.specs.declared.choice.Candidate.{Candidate}
use Rattle.cover_pick.specs.declared.cost.Offer.{Offer}

-- what a leaf of this flow costs, which is needed by a depth, or not yet
abbrev pub cost_where : Option ℕ → ℕ → ℕ
cost_where None flow = flow
cost_where (Some r) flow = 0

abbrev pub leaf_cost : List ℕ → List (Option ℕ) → ℕ → ℕ
leaf_cost flows reqs m = cost_where (need reqs m) (flow_at flows m)

abbrev pub cut_cost : List ℕ → List (Option ℕ) → List ℕ → ℕ
cut_cost flows reqs c = 2 ^ length c + sum_by (leaf_cost flows reqs) c

-- no flow is greater than the most
abbrev pub AreCapped : List ℕ → Type 0
AreCapped flows = (m : ℕ) → flow_at flows m ≤ MOST_FLOW

-- the cheaper of a cut that was found and another one, and of two of the same cost the first in the order of cuts
abbrev pub cheaper : (List ℕ → ℕ) → Option (List ℕ) → List ℕ → Option (List ℕ)
cheaper cost None c = Some c
cheaper cost (Some b) c = if nat_lt (cost c) (cost b) then Some c else if (cost c == cost b) && comes_before c b then Some c else Some b

-- the same where the later one is low enough
abbrev pub cheaper_low : (List ℕ → ℕ) → (ℕ → ℕ) → ℕ → Option (List ℕ) → List ℕ → Option (List ℕ)
cheaper_low cost label r best c = if nat_lt r (height label c) then best else cheaper cost best c

-- the cheapest cut of a list for a required depth, if one is low enough
abbrev pub cheapest : (List ℕ → ℕ) → (ℕ → ℕ) → ℕ → Option (List ℕ) → List (List ℕ) → Option (List ℕ)
cheapest cost label r best [] = best
cheapest cost label r best (c ∷ cs) = cheapest cost label r (cheaper_low cost label r best c) cs

-- an offer tells of a cut of a list, with what it costs, or none of none
abbrev pub IsOffer : (List ℕ → ℕ) → List (List ℕ) → Option Offer → Option (List ℕ) → Type 0
IsOffer cost cs None None = Unit {0}
IsOffer cost cs None (Some c) = ⊥
IsOffer cost cs (Some b) None = ⊥
IsOffer cost cs (Some b) (Some c) = (b.place < length cs) × (slice_index_or cs b.place [] ≡ c) × (b.cost ≡ cost c)

-- what an offer becomes by the cut at a place of a row: by its cost alone, and where the cut is ignored that is too high
abbrev pub TakesCheaper : (List ℕ → ℕ) → List (List ℕ) → ℕ → Option Offer → Option Offer → Type 0
TakesCheaper cost row i best next = (o : Option (List ℕ)) → IsOffer cost row best o → IsOffer cost row next (cheaper cost o (slice_index_or row i []))

abbrev pub TakesCheaperLow : (List ℕ → ℕ) → (ℕ → ℕ) → ℕ → List (List ℕ) → ℕ → Option Offer → Option Offer → Type 0
TakesCheaperLow cost label r row i best next = (o : Option (List ℕ)) → IsOffer cost row best o → IsOffer cost row next (cheaper_low cost label r o (slice_index_or row i []))

-- the offer of the cheapest cut of a row for a required depth
abbrev pub IsCheapestOffer : (List ℕ → ℕ) → (ℕ → ℕ) → ℕ → List (List ℕ) → Option Offer → Type 0
IsCheapestOffer cost label r row best = IsOffer cost row best (cheapest cost label r None row)

-- the cut at a place costs less than an offer, or as much and comes before it in the order of cuts
abbrev pub IsFirstOf : List (List ℕ) → ℕ → ℕ → Offer → Type 0
IsFirstOf row i cost best = (cost < best.cost) ⊎ ((cost ≡ best.cost) × (comes_before (slice_index_or row i []) (slice_index_or row best.place []) ≡ true))

-- the better of two cuts, where the second has no fewer leaves and comes later: it is taken where it is the first one low enough, or has as few leaves and a lower height
abbrev pub better : (ℕ → ℕ) → ℕ → Option (List ℕ) → List ℕ → Option (List ℕ)
better label r None c = if nat_lt r (height label c) then None else Some c
better label r (Some b) c = if (length c == length b) && nat_lt (height label c) (height label b) then Some c else Some b

-- the best cut of an ordered list for a required depth, if one is low enough
abbrev pub fewest : (ℕ → ℕ) → ℕ → Option (List ℕ) → List (List ℕ) → Option (List ℕ)
fewest label r best [] = best
fewest label r best (c ∷ cs) = fewest label r (better label r best c) cs

-- a place tells of a cut of a list, with the number of its leaves and its height, or none of none
abbrev pub IsAt : (ℕ → ℕ) → List (List ℕ) → Option Candidate → Option (List ℕ) → Type 0
IsAt label cs None None = Unit {0}
IsAt label cs None (Some c) = ⊥
IsAt label cs (Some b) None = ⊥
IsAt label cs (Some b) (Some c) = (b.place < length cs) × (slice_index_or cs b.place [] ≡ c) × (b.len ≡ length c) × (b.height ≡ height label c)

-- what a place becomes by a later cut of the row, which has no fewer leaves
abbrev pub TakesBetter : (ℕ → ℕ) → ℕ → List (List ℕ) → ℕ → Option Candidate → Option Candidate → Type 0
TakesBetter label r row i best next = (o : Option (List ℕ)) → IsAt label row best o → IsAt label row next (better label r o (slice_index_or row i []))

-- there is one of fewer leaves
abbrev pub IsShorter : Option Candidate → ℕ → Type 0
IsShorter None len = ⊥
IsShorter (Some b) len = b.len < len

-- the cut that is found in a row for a required depth, where these nodes are needed so far
abbrev pub found_in : Rule → (ℕ → ℕ) → List ℕ → List (Option ℕ) → List (List ℕ) → ℕ → Option (List ℕ)
found_in FewestLeaves label flows reqs row r = fewest label r None row
found_in LeastCost label flows reqs row r = cheapest (cut_cost flows reqs) label r None row

-- the choice of a node by what is needed so far
abbrev pub choice_by : Rule → List (List (List ℕ)) → (ℕ → ℕ) → List ℕ → List (Option ℕ) → ℕ → ℕ → List ℕ
choice_by rule rows label flows reqs n r = or_empty (found_in rule label flows reqs (row_at rows n) r)

-- what the walk from these required depths finds at a node
abbrev pub found_from : Rule → Aig → List (List (List ℕ)) → (ℕ → ℕ) → List ℕ → List (Option ℕ) → ℕ → ℕ → Option (List ℕ)
found_from rule g rows label flows reqs n r = found_in rule label flows (met_at (choice_by rule rows label flows) (first_and g) (length g.pairs) reqs n) (row_at rows n) r

-- the cut that is found by some flows for a node and its required depth
abbrev pub found_of : Rule → Aig → List (List (List ℕ)) → (ℕ → ℕ) → List ℕ → List ℕ → ℕ → ℕ → Option (List ℕ)
found_of rule g rows label roots flows n r = found_from rule g rows label flows (roots_required g roots (target g label roots)) n r

abbrev pub choice_of : Rule → Aig → List (List (List ℕ)) → (ℕ → ℕ) → List ℕ → List ℕ → ℕ → ℕ → List ℕ
choice_of rule g rows label roots flows n r = or_empty (found_of rule g rows label roots flows n r)
