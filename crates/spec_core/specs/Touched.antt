-- The AND nodes that a change of parameters touches: those with a fan-in whose value changes.
use Rattle.std.specs.Prelude.{ℕ, ◌+◌, ◌/◌, ◌≤◌, Bool, ◌||◌, List, length}
use Rattle.std.specs.List.{filter}
use Rattle.spec_core.specs.Words.{Pair, Aig, xor, node_value, FitsGraph}

-- has a node another value
abbrev pub is_changed : List Bool → List Bool → ℕ → Bool
is_changed old new n = xor (node_value old n) (node_value new n)

-- has a fan-in of a pair another value
abbrev pub is_touched : List Bool → List Bool → Pair → Bool
is_touched old new pair = is_changed old new (pair.x.0 / 2) || is_changed old new (pair.y.0 / 2)

-- the touched nodes of a graph, by their pairs, each of which occurs once
abbrev pub touched : Aig → List Bool → List Bool → List Pair
touched g old new = filter (is_touched old new) g.pairs

-- From one count of steps to another there are at most as many as nodes are touched between these values of the parameters.
pub record IsWithinTouched (g : Aig) (from to : List Bool) (start end : ℕ) : Type 0 where
  pub old : List Bool
  pub before : FitsGraph g from old
  pub new : List Bool
  pub after : FitsGraph g to new
  pub few : end ≤ start + length (touched g old new)
