-- The flows of a graph's nodes, over the cuts of each node or over those of the least height.
use Rattle.std.specs.Prelude.{ℕ, List, if◌then◌else◌, nat_lt}
use Rattle.cover_pick.specs.Words.{Aig, node_count, height, MOST_FLOW, Scope, AnyHeight, LeastHeight, cut_flow, flows_below}

-- for these counts of readers
abbrev pub flows_by : Aig → List (List (List ℕ)) → (ℕ → ℕ) → Scope → (ℕ → ℕ) → List ℕ
flows_by g rows label scope counts = flows_below g scope label rows counts (node_count g)

-- what a cut's LUT and all below it cost, and the most where it is not allowed
abbrev pub allowed_flow : Scope → (ℕ → ℕ) → ℕ → List ℕ → List ℕ → ℕ
allowed_flow AnyHeight label n flows c = cut_flow flows c
allowed_flow LeastHeight label n flows c = if nat_lt (label n) (height label c) then MOST_FLOW else cut_flow flows c
