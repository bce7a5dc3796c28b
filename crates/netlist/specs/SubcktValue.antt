-- A subcircuit as plain lists.
use Rattle.std.specs.Prelude.{ℕ, List, map}
use Rattle.netlist.specs.declared.subckt.Connection.{Connection}

-- a subcircuit: the name of the placed model, and the connections
pub record SubcktValue : Type 0 where
  pub model : List ℕ
  pub pairs : List Connection

-- the formals of connections
abbrev pub formals : List Connection → List (List ℕ)
formals pairs = map (λ (pair : Connection). pair.formal) pairs
