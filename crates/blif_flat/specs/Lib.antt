-- What public clauses say, then what only bodies are compared with; other files name all of it from here.
pub mod Refusals
pub mod Walk
pub mod DriverFaults
pub mod Written
pub mod ClockFaults
pub mod LoopFault
pub mod Faults
pub mod Circuits
pub mod Bodies
pub use Rattle.std.specs.Option.{option_or as or_later, option_to_list as control_names}
pub use Rattle.netlist.specs.SubcktValue.{formals}
pub use Rattle.netlist.specs.WellFormed.{IsWellFormedModel, IsWellFormed}
pub use Rattle.netlist.specs.Models.{model_names}
pub use Rattle.netlist.specs.Cycle.{Fits}
pub use Rattle.netlist.specs.Loops.{AreNets, with_cover, covers_among, reads_in, reads_of, ReadsCover, Depends, direct, through}
pub use Rattle.netlist.specs.Sound.{IsData, cover_data, latch_data, IsSound}
pub use Rattle.netlist.specs.Law.{HasOneCycle}
pub use Rattle.netlist.specs.Weight.{control_weight, body_weight, commands_weight, WeighAll, weighs, IsLight}
pub use Rattle.netlist.specs.DepthFirst.{Meets, met, goes}
pub use Rattle.netlist.specs.Flat.{IsNumbered, an_input, a_latch, a_cover, some_latch, no_latch, with_control_net, reads_at, underscores, most_underscores, IsFlat}
pub use Rattle.netlist.specs.Evaluation.{cover_behind}
pub use Rattle.netlist.specs.Flattened.{HasValues, HasOneFlat}
pub use Rattle.netlist.specs.FlatCycle.{HasCycles}
pub use Rattle.netlist.specs.Bounds.{IsThere, StandsBefore, IsWithinBounds}
pub use Rattle.netlist.specs.CoverWalk.{latch_covers, all_latch_covers, roots_of, LoopWalk}
pub use Rattle.netlist.specs.declared.cell.Cell.TheVariants.{Zero}
pub use Rattle.depth_first.specs.DepthFirst.{PostsAll, leads}
pub use Rattle.tl_text.specs.Once.{AreOnce}
pub use Circuits.*
pub use Refusals.*
pub use Walk.*
pub use DriverFaults.*
pub use Written.*
pub use ClockFaults.*
pub use LoopFault.*
pub use Faults.*
pub use Bodies.ClockSteps.*
pub use Bodies.FieldSteps.*
pub use Bodies.InstanceRows.*
pub use Bodies.ModelSteps.*
pub use Bodies.NetTable.*
pub use Rattle.blif_flat.specs.declared.circuit.instances.GateKind.{GateKind}
pub use Rattle.blif_flat.specs.declared.circuit.nets.Start.{Start}
pub use Rattle.blif_flat.specs.declared.circuit.connect.Circuit.{Circuit}
pub use Rattle.blif_flat.specs.declared.clock.clock_check.ClockNets.{ClockNets}
pub use Rattle.depth_first.specs.Walk.{WalkValue}
pub use Rattle.tl_fault.specs.OrMemory.{OrMemory}
