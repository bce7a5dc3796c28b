-- The configuration bits of a source circuit's LUTs as functions of its parameters.
use Rattle.std.specs.Prelude.{◌≡◌, Bool, List, length}
use Rattle.cmd_stations.specs.Words.{Aig, RootsValue, IsGraphOf, HasOneGraph, TemplateValue, PackValue, IsConf, GivesCycle, Refines, flat_inits}
use Rattle.bit_fun.specs.PackOf.{IsPackOf}
use Rattle.bit_fun.specs.PackLaw.{HasConfigurations}
use Rattle.lut_sim.specs.Cycle.{lut_machine, under}
use Rattle.cmd_stations.specs.declared.limits.TheConstants.{GRAPH_ROOM}
use Rattle.cmd_stations.specs.declared.source.Source.{Source}
use Rattle.cmd_stations.specs.SourceCircuit.{width_of, shape_of, source_machine}

-- If no bit is upset, the LUTs are the source circuit: under the configuration of any values of the parameters, they have a cycle from each state under each input, and their machine refines the source circuit's under these values.
pub record HasSourceTables (source : Source) (template : TemplateValue) (pack : PackValue) : Type 0 where
  pub refines : (params config : List Bool) → length params ≡ length source.params.list → IsConf pack params config
      → Refines (under config (lut_machine template (shape_of source) (flat_inits source.netlist.flat))) (source_machine source params)
  pub gives : (params config values s : List Bool) → length params ≡ length source.params.list → IsConf pack params config
      → length values ≡ width_of source → length s ≡ length source.netlist.flat.latches
      → GivesCycle (under config (lut_machine template (shape_of source) (flat_inits source.netlist.flat))) values s

-- the bits of a template as functions of the parameters, in one pack over the source circuit's one graph: its configurations are the template's, and its tables are the source circuit
pub record IsTunable (source : Source) (template : TemplateValue) (pack : PackValue) : Type 0 where
  pub graph : Aig
  pub roots : RootsValue
  pub is_graph : IsGraphOf source.netlist.library source.netlist.flat source.params.list GRAPH_ROOM graph roots
  pub one_graph : HasOneGraph source.netlist.library source.netlist.flat source.params.list
  pub pack_is : IsPackOf graph template.luts source.params.list pack
  pub configurations : HasConfigurations graph template.luts pack
  pub tables : HasSourceTables source template pack
