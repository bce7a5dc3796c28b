-- A clock cycle of a flat circuit: its outputs and next states, by evaluating its covers in its order. Its machine is that of the library's hierarchy.
use Rattle.std.specs.Prelude.{◌≡◌, ℕ, Bool, List, length, map}
use Rattle.machine.specs.Machine.{MealyMachine, GivesRun, Agrees, reading}
use Rattle.netlist.specs.Circuits.{FlatValue, LibraryValue, FlatLatch, OutPort}
use Rattle.netlist.specs.Evaluation.{net_value, flat_values}
use Rattle.netlist.specs.Runs.{library_machine}

abbrev pub flat_outputs : LibraryValue → FlatValue → List Bool → List Bool → List Bool
flat_outputs library flat x s = map (λ (o : OutPort). net_value x s (flat_values library flat x s) o.net) flat.outputs

abbrev pub flat_next : LibraryValue → FlatValue → List Bool → List Bool → List Bool
flat_next library flat x s = map (λ (l : FlatLatch). net_value x s (flat_values library flat x s) l.input) flat.latches

abbrev pub flat_inits : FlatValue → List Bool
flat_inits flat = map (λ (l : FlatLatch). l.init) flat.latches

-- from the states s, one for each latch, under the values x of the inputs, in the circuit's order
pub record IsFlatCycle (library : LibraryValue) (flat : FlatValue) (x s outputs next : List Bool) : Type 0 where
  pub states : length s ≡ length flat.latches
  pub outputs_are : outputs ≡ flat_outputs library flat x s
  pub next_are : next ≡ flat_next library flat x s

-- The machine of a flat circuit: it takes values of the inputs in their order, and starts at the latches' inits.
abbrev pub flat_machine : LibraryValue → FlatValue → MealyMachine (List Bool) (List Bool) (List Bool)
flat_machine library flat = record { IsStart = λ s. s ≡ flat_inits flat; HasCycle = IsFlatCycle library flat }

-- the values of the flat circuit's inputs, by their names
abbrev pub input_values : FlatValue → (List ℕ → Bool) → List Bool
input_values flat x = map x flat.inputs

-- The library's machine is the flat circuit's, and it has a run under any values.
pub record HasCycles (library : LibraryValue) (flat : FlatValue) : Type 0 where
  pub agrees : Agrees (library_machine library) (reading (input_values flat) (flat_machine library flat))
  pub gives : (xs : List (List ℕ → Bool)) → GivesRun (library_machine library) xs
