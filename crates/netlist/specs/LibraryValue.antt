-- Models and libraries as plain lists.
use Rattle.std.specs.Prelude.{ℕ, List}
use Rattle.netlist.specs.declared.command.Command.{Command}

-- a model: its name, the line of its `.model`, its ports and its commands
pub record ModelValue : Type 0 where
  pub name : List ℕ
  pub line : ℕ
  pub inputs : List (List ℕ)
  pub outputs : List (List ℕ)
  pub clocks : List (List ℕ)
  pub commands : List Command

-- the models of a text; the first one is the main model
pub record LibraryValue : Type 0 where
  pub models : List ModelValue

-- the three lists of ports of a model
pub data Ports : Type 0 where
  input_ports : Ports
  output_ports : Ports
  clock_ports : Ports

abbrev pub ports_of : Ports → ModelValue → List (List ℕ)
ports_of input_ports m = m.inputs
ports_of output_ports m = m.outputs
ports_of clock_ports m = m.clocks
