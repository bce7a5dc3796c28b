-- What the fields of a graph keep.
use Rattle.std.specs.Prelude.{ℕ, ◌+◌, ◌^◌, ◌<◌, ◌≤◌, List, length}
use Rattle.aig_core.specs.declared.lit.Kind.{Kind}
use Rattle.aig_core.specs.declared.lit.Pair.{Pair}
use Rattle.aig_core.specs.Aig.{AreNormal}

pub record Keeps (kinds : List Kind) (pairs : List Pair) (max : ℕ) : Type 0 where
  pub room : length pairs ≤ max
  pub small : length kinds + max < 2 ^ 30
  pub normal : AreNormal (1 + length kinds) pairs
