-- The flow of a node: what its LUT and all LUTs below it cost, each shared evenly among as many readers as are counted of it.
use Rattle.std.specs.Prelude.{ℕ, zero, suc, ◌+◌, ◌/◌, ◌^◌, min, max, if◌then◌else◌, ◌==◌, nat_lt, List, [], ◌∷◌, ◌++◌, length, sum_by, slice_index_or}
use Rattle.bounded_cuts.specs.Words.{Aig, first_and, Pair, height, row_at}
use Rattle.bounded_cuts.specs.declared.limits.TheConstants.{MOST_FLOW, TABLE_PRICE}
use Rattle.bounded_cuts.specs.declared.scope.Scope.{Scope}
use Rattle.bounded_cuts.specs.declared.scope.Scope.TheVariants.{AnyHeight, LeastHeight}

-- how many of a pair's fan-ins are a node
abbrev pub times_read : ℕ → Pair → ℕ
times_read m p = (if (p.x.0 / 2) == m then 1 else 0) + (if (p.y.0 / 2) == m then 1 else 0)

-- how many AND nodes have a node as a fan-in: a pair has two different nodes
abbrev pub fan_out : Aig → ℕ → ℕ
fan_out g m = sum_by (times_read m) g.pairs

-- the flow of a node in a list of one a node
abbrev pub flow_at : List ℕ → ℕ → ℕ
flow_at flows m = slice_index_or flows m 0

-- what a cut's LUT and all below it cost
abbrev pub cut_flow : List ℕ → List ℕ → ℕ
cut_flow flows c = TABLE_PRICE + (2 ^ length c + sum_by (flow_at flows) c)

-- the least over some cuts, and no more than the most flow
abbrev pub least_flow : List ℕ → List (List ℕ) → ℕ
least_flow flows [] = MOST_FLOW
least_flow flows (c ∷ cs) = min (cut_flow flows c) (least_flow flows cs)

-- the cuts of a height of at most this one
abbrev pub cuts_within : (ℕ → ℕ) → ℕ → List (List ℕ) → List (List ℕ)
cuts_within label most [] = []
cuts_within label most (c ∷ cs) = if nat_lt most (height label c) then cuts_within label most cs else c ∷ cuts_within label most cs

-- a node's cuts over which its flow is the least: its label is the least height of its cuts
abbrev pub allowed_row : Scope → (ℕ → ℕ) → ℕ → List (List ℕ) → List (List ℕ)
allowed_row AnyHeight label r row = row
allowed_row LeastHeight label r row = cuts_within label r row

-- the flow of a node over those of the nodes below it: 0 of the constant and a source, else the least over its allowed cuts, shared among its readers, one at least
abbrev pub node_flow : Aig → Scope → (ℕ → ℕ) → List (List (List ℕ)) → (ℕ → ℕ) → List ℕ → ℕ → ℕ
node_flow g scope label rows counts flows n = if nat_lt n (first_and g) then 0 else least_flow flows (allowed_row scope label (label n) (row_at rows n)) / max 1 (counts n)

-- the flows of the first n nodes, for these counts of readers
abbrev pub flows_below : Aig → Scope → (ℕ → ℕ) → List (List (List ℕ)) → (ℕ → ℕ) → ℕ → List ℕ
flows_below g scope label rows counts zero = []
flows_below g scope label rows counts (suc n) = flows_below g scope label rows counts n ++ node_flow g scope label rows counts (flows_below g scope label rows counts n) n ∷ []
