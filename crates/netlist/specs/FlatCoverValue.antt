-- A cover of a flat circuit as plain lists.
use Rattle.std.specs.Prelude.{ℕ, List}
use Rattle.netlist.specs.declared.flat.FlatNet.{FlatNet}

pub record FlatCoverValue : Type 0 where
  pub model : ℕ
  pub command : ℕ
  pub inputs : List FlatNet
