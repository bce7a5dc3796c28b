-- How the required depths are found: the AND nodes are taken in descending order, and each needed one requires the leaves of its chosen cut.
use Rattle.std.specs.Prelude.{ℕ, zero, suc, ◌+◌, ◌-◌, ◌/◌, min, if◌then◌else◌, ◌==◌, nat_lt, List, [], ◌∷◌, length, Option, Some, None, slice_set, slice_index_or, replicate}
use Rattle.cover_pick.specs.Words.{Aig, first_and, node_count}

-- the required depth of a node, if it is needed so far
abbrev pub need : List (Option ℕ) → ℕ → Option ℕ
need reqs n = slice_index_or reqs n None

abbrev pub least_of : Option ℕ → ℕ → Option ℕ
least_of None r = Some r
least_of (Some s) r = Some (min s r)

abbrev pub require : List (Option ℕ) → ℕ → ℕ → List (Option ℕ)
require reqs m r = slice_set reqs m (least_of (need reqs m) r)

abbrev pub require_each : List (Option ℕ) → List ℕ → ℕ → List (Option ℕ)
require_each reqs [] r = reqs
require_each reqs (m ∷ ms) r = require_each (require reqs m r) ms r

-- a needed node requires its chosen cut's leaves
abbrev pub visit : (ℕ → ℕ → List ℕ) → ℕ → Option ℕ → List (Option ℕ) → List (Option ℕ)
visit choice n None reqs = reqs
visit choice n (Some r) reqs = require_each reqs (choice n r) (r - 1)

-- the nodes from the last of k down to the first
abbrev pub walk : (ℕ → ℕ → List ℕ) → ℕ → ℕ → List (Option ℕ) → List (Option ℕ)
walk choice first zero reqs = reqs
walk choice first (suc k) reqs = walk choice first k (visit choice (first + k) (need reqs (first + k)) reqs)

-- the same walk by a choice that sees which nodes are needed so far
abbrev pub walk_by : (List (Option ℕ) → ℕ → ℕ → List ℕ) → ℕ → ℕ → List (Option ℕ) → List (Option ℕ)
walk_by choice first zero reqs = reqs
walk_by choice first (suc k) reqs = walk_by choice first k (visit (choice reqs) (first + k) (need reqs (first + k)) reqs)

-- what is needed when the walk comes to a node
abbrev pub met_at : (List (Option ℕ) → ℕ → ℕ → List ℕ) → ℕ → ℕ → List (Option ℕ) → ℕ → List (Option ℕ)
met_at choice first zero reqs n = reqs
met_at choice first (suc k) reqs n = if n == (first + k) then reqs else met_at choice first k (visit (choice reqs) (first + k) (need reqs (first + k)) reqs) n

abbrev pub require_root : ℕ → ℕ → List (Option ℕ) → ℕ → List (Option ℕ)
require_root first t reqs l = if nat_lt (l / 2) first then reqs else require reqs (l / 2) t

abbrev pub require_roots : ℕ → ℕ → List (Option ℕ) → List ℕ → List (Option ℕ)
require_roots first t reqs [] = reqs
require_roots first t reqs (l ∷ ls) = require_roots first t (require_root first t reqs l) ls

-- the required depths of the roots' nodes
abbrev pub roots_required : Aig → List ℕ → ℕ → List (Option ℕ)
roots_required g roots t = require_roots (first_and g) t (replicate (node_count g) None) roots

-- the required depths of the whole graph
abbrev pub required : Aig → (ℕ → ℕ → List ℕ) → List ℕ → ℕ → List (Option ℕ)
required g choice roots t = walk choice (first_and g) (length g.pairs) (roots_required g roots t)

-- the chosen cuts of the needed AND nodes
abbrev pub chosen : (ℕ → ℕ → List ℕ) → ℕ → Option ℕ → Option (List ℕ)
chosen choice n None = None
chosen choice n (Some r) = Some (choice n r)

abbrev pub cover_of : Aig → (ℕ → ℕ → List ℕ) → List (Option ℕ) → ℕ → Option (List ℕ)
cover_of g choice reqs n = if nat_lt n (first_and g) then None else chosen choice n (need reqs n)
