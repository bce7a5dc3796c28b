-- A circuit: its header, what its lines say, and the names of its inputs and outputs.
use Rattle.std.specs.Prelude.{ℕ, List}
use Rattle.aiger_io.specs.declared.header.Header.{Header}
use Rattle.aiger_io.specs.declared.item.Item.{Item}

-- the header, the lines of inputs, latches, outputs and AND gates, and the names of the inputs and of the outputs
pub record Circuit : Type 0 where
  pub header : Header
  pub items : List Item
  pub inputs : List (List ℕ)
  pub outputs : List (List ℕ)
