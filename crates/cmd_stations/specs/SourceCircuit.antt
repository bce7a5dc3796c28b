-- The source circuit of a job: its netlist under its parameters, a clock cycle of it, and its machine.
use Rattle.std.specs.Prelude.{ℕ, length, ◌≡◌, Bool, List, map}
use Rattle.cmd_stations.specs.Words.{regular_names, param_names, MealyMachine, AreInits, IsCycle}
use Rattle.lut_sim.specs.declared.shape.Shape.{Shape}
use Rattle.cmd_stations.specs.declared.source.Source.{Source}

-- how many inputs are left besides the parameters: each cycle gives them values
abbrev pub width_of : Source → ℕ
width_of source = length (regular_names source.netlist.flat source.params.list)

-- its sources: the regular inputs, the parameters, the latches
abbrev pub shape_of : Source → Shape
shape_of source = record { regular = width_of source; params = length source.params.list; latches = length source.netlist.flat.latches }

-- from latch states, under values of the regular inputs and of the parameters: the outputs and the next states of the library's cycle
pub record IsSourceCycle (source : Source) (params values states outputs next : List Bool) : Type 0 where
  pub x : List ℕ → Bool
  pub regular : map x (regular_names source.netlist.flat source.params.list) ≡ values
  pub parameters : map x (param_names source.params.list) ≡ params
  pub cycle : IsCycle source.netlist.library x states outputs next

-- The machine of a source circuit under values of its parameters: it takes values of the regular inputs, and starts at the latches' inits.
abbrev pub source_machine : Source → List Bool → MealyMachine (List Bool) (List Bool) (List Bool)
source_machine source params = record { IsStart = AreInits source.netlist.library; HasCycle = IsSourceCycle source params }
