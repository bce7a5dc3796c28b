-- A flat circuit as plain lists.
use Rattle.std.specs.Prelude.{ℕ, List, Option}
use Rattle.netlist.specs.FlatCoverValue.{FlatCoverValue}
use Rattle.netlist.specs.declared.flat.FlatLatch.{FlatLatch}
use Rattle.netlist.specs.declared.flat.OutPort.{OutPort}

pub record FlatValue : Type 0 where
  pub model : List ℕ
  pub inputs : List (List ℕ)
  pub clocks : List (List ℕ)
  pub control : Option (List ℕ)
  pub outputs : List OutPort
  pub covers : List FlatCoverValue
  pub latches : List FlatLatch
  pub order : List ℕ
  pub under : ℕ
