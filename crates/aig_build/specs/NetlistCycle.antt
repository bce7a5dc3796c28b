-- The cycles of a netlist's graph: under the values of its sources the roots have the outputs and the next states of the source circuit.
use Rattle.std.specs.Prelude.{◌≡◌, ℕ, Bool, List, ◌++◌, length, map}
use Rattle.machine.specs.Machine.{MealyMachine, Agrees, IsDetermined}
use Rattle.aig_build.specs.Words.{LibraryValue, FlatValue, Param, Lit, Aig, RootsValue, lits_of, FitsGraph, value_of}
use Rattle.netlist.specs.FlatCycle.{flat_inits}
use Rattle.netlist.specs.Runs.{library_machine}
use Rattle.aig_build.specs.NetlistGraph.{input_names}

-- the values of the sources, where the inputs have the values x by their names, and the latches the states s
abbrev pub source_values : FlatValue → List Param → (List ℕ → Bool) → List Bool → List Bool
source_values flat params x s = map x (input_names flat params) ++ s

-- the values of literals
abbrev pub literal_values : List Bool → List Lit → List Bool
literal_values values lits = map (value_of values) (lits_of lits)

-- under some values that fit the graph, the outputs and the next states are those of the roots
pub record IsGraphCycle (flat : FlatValue) (params : List Param) (g : Aig) (roots : RootsValue) (x : List ℕ → Bool) (s outputs next : List Bool) : Type 0 where
  pub states : length s ≡ length flat.latches
  pub values : List Bool
  pub fits : FitsGraph g (source_values flat params x s) values
  pub outputs_are : outputs ≡ literal_values values roots.outputs
  pub next_are : next ≡ literal_values values roots.next

-- The machine of a netlist's graph: it takes values of the inputs, by their names, and starts at the latches' inits.
abbrev pub graph_machine : FlatValue → List Param → Aig → RootsValue → MealyMachine (List ℕ → Bool) (List Bool) (List Bool)
graph_machine flat params g roots = record { IsStart = λ s. s ≡ flat_inits flat; HasCycle = IsGraphCycle flat params g roots }

-- The graph's machine is the source circuit's; whatever values fit the graph, its cycle is the same.
pub record HasSourceCycles (library : LibraryValue) (flat : FlatValue) (params : List Param) (g : Aig) (roots : RootsValue) : Type 0 where
  pub agrees : Agrees (graph_machine flat params g roots) (library_machine library)
  pub one : IsDetermined (graph_machine flat params g roots)
