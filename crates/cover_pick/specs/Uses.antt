-- How often a cover uses each node, and what a cover costs.
use Rattle.std.specs.Prelude.{ℕ, zero, suc, ◌+◌, ◌^◌, Bool, true, false, if◌then◌else◌, ◌==◌, List, length, sum_by, Option, Some, None}
use Rattle.cover_pick.specs.Words.{Aig, node_count, TABLE_PRICE}

-- how often a node is among some leaves: a cut names no leaf twice
abbrev pub times_in : ℕ → List ℕ → ℕ
times_in m c = sum_by (λ l. if l == m then 1 else 0) c

abbrev pub times_leaf : ℕ → Option (List ℕ) → ℕ
times_leaf m None = 0
times_leaf m (Some c) = times_in m c

-- how many of the first n nodes have chosen a cut with this node as a leaf
abbrev pub uses_below : (ℕ → Option (List ℕ)) → ℕ → ℕ → ℕ
uses_below cover m zero = 0
uses_below cover m (suc n) = uses_below cover m n + times_leaf m (cover n)

-- how many nodes of a graph have chosen a cut with this node as a leaf
abbrev pub uses : Aig → (ℕ → Option (List ℕ)) → ℕ → ℕ
uses g cover m = uses_below cover m (node_count g)

-- has a node a chosen cut
abbrev pub has_cut : Option (List ℕ) → Bool
has_cut None = false
has_cut (Some c) = true

-- what the table of a chosen cut costs, its bits counted
abbrev pub price : Option (List ℕ) → ℕ
price None = 0
price (Some c) = TABLE_PRICE + 2 ^ length c

abbrev pub cost_below : (ℕ → Option (List ℕ)) → ℕ → ℕ
cost_below cover zero = 0
cost_below cover (suc n) = cost_below cover n + price (cover n)

-- what a cover costs: its tables
abbrev pub cost_of : Aig → (ℕ → Option (List ℕ)) → ℕ
cost_of g cover = cost_below cover (node_count g)
