-- The words of other crates that the definitions say, passed on from one place.
pub use Rattle.tl_io.specs.Shelf.{ShelfSeen, Files}
pub use Rattle.aiger_io.specs.Circuit.{Circuit}
pub use Rattle.aiger_io.specs.WrittenText.{circuit_text}
pub use Rattle.aiger_io.specs.GraphCircuit.{IsWrittenFrom, graph_circuit}
pub use Rattle.param_list.specs.RegularPlaces.{AreRegularPlaces}
pub use Rattle.cmd_base.specs.Walk.{outside, CommandWalk}
pub use Rattle.cmd_base.specs.Writing.{FileText}
