-- The product of two literals: a constant or one of them where that is its value, else the node of their pair, made unless it exists.
use Rattle.std.specs.Prelude.{ℕ, ◌+◌, ◌-◌, ◌*◌, ◌/◌, ◌%◌, Bool, ◌&&◌, if◌then◌else◌, ◌==◌, min, max, List, [], ◌∷◌, ◌++◌, length, Option, Some, None, position}
use Rattle.aig_core.specs.declared.lit.Pair.{Pair}
use Rattle.aig_core.specs.Aig.{Aig, first_and}

-- the other phase of a literal
abbrev pub complement : ℕ → ℕ
complement lit = if (lit % 2) == 0 then lit + 1 else lit - 1

-- is this the pair of x and y
abbrev pub is_pair : ℕ → ℕ → Pair → Bool
is_pair x y p = (x == p.x.0) && (y == p.y.0)

-- the answer of `and`, and the pairs that then stand
pub record Answer : Type 0 where
  pub pairs : List Pair
  pub lit : ℕ

-- the node of the pair at a place, or a new one at the end
abbrev pub found_or_new : ℕ → List Pair → ℕ → ℕ → Option ℕ → Answer
found_or_new first pairs x y (Some i) = record { pairs = pairs; lit = 2 * (first + i) }
found_or_new first pairs x y None = record { pairs = pairs ++ record { x = record { 0 = x }; y = record { 0 = y } } ∷ []; lit = 2 * (first + length pairs) }

-- the product of two literals in order, by a linear search for their pair
abbrev pub and_in_order : ℕ → List Pair → ℕ → ℕ → Answer
and_in_order first pairs x y =
    if x == 0 then record { pairs = pairs; lit = 0 }
    else if x == 1 then record { pairs = pairs; lit = y }
    else if x == y then record { pairs = pairs; lit = x }
    else if (x / 2) == (y / 2) then record { pairs = pairs; lit = 0 }
    else found_or_new first pairs x y (position (is_pair x y) pairs)

-- the product of any two literals, where `first` is the index of the first AND node and `pairs` are the nodes so far
abbrev pub product_of : ℕ → List Pair → ℕ → ℕ → Answer
product_of first pairs a b = and_in_order first pairs (min a b) (max a b)

abbrev pub and_of : Aig → ℕ → ℕ → Answer
and_of g a b = product_of (first_and g) g.pairs a b

abbrev pub with_pairs : Aig → List Pair → Aig
with_pairs g pairs = record g { pairs = pairs }
