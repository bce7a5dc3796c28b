-- What a flattened library keeps: the fields of its flat circuit are those of its hierarchical names, and evaluating them gives the values of the fitting maps.
use Rattle.std.specs.Prelude.{◌≡◌}
use Rattle.netlist.specs.Circuits.{FlatValue, LibraryValue}
use Rattle.netlist.specs.Evaluation.{Evaluates}
use Rattle.netlist.specs.Flat.{IsFlat}

pub record HasValues (library : LibraryValue) (flat : FlatValue) : Type 0 where
  pub fields : IsFlat library flat
  pub evaluates : Evaluates library flat fields.at

-- a library has one flat circuit at most
pub record HasOneFlat (library : LibraryValue) : Type 0 where
  pub only : (flat other : FlatValue) → IsFlat library flat → IsFlat library other → flat ≡ other
