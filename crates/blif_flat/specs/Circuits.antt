-- The words of libraries, instances, places, nets, walks and refusals, passed on from one place.
pub use Rattle.netlist.specs.Circuits.{LibraryValue, ModelValue, CoverValue, SubcktValue, input_ports, clock_ports, output_ports, cover_value, has_name, Path, model_at, body_at, inputs_of, subckts_of, model_named, is_input, is_output, placed, with_subckt, LatchAt, CoverAt, ConnectionAt, input_net, Drives, IsClock, listed, controls, Net, latch_net, cover_net, main_input, latch_output, cover_output, from_inside, from_outside, Place, is_latch, FlatOrder, InFlatOrder, InFlatOrderUnder, own_of, cover_in, latch_in, cover_at, latch_at, is_cover, own_places, flat, FlatUnder, same_place, IsDriven, IsRead, latch_control, Driver, by_input, by_latch, by_cover, by_subckt, IsDriver, input, latch, cover, output, input_actual, model_output, Ends, ends, cover_input, latch_input, InstanceAt, In, FlatValue, FlatCoverValue}
pub use Rattle.netlist.specs.declared.command.Body.{Body}
pub use Rattle.netlist.specs.declared.command.Body.TheVariants.{Cover, Latch, Subckt}
pub use Rattle.netlist.specs.declared.command.Command.{Command}
pub use Rattle.netlist.specs.declared.latch.Latch.{Latch as LatchValue}
pub use Rattle.netlist.specs.declared.subckt.Connection.{Connection}
pub use Rattle.netlist.specs.declared.flat.FlatLatch.{FlatLatch}
pub use Rattle.netlist.specs.declared.flat.FlatNet.{FlatNet}
pub use Rattle.netlist.specs.declared.flat.OutPort.{OutPort}
pub use Rattle.netlist.specs.Flat.{IsControl, TellsClocks, Places, IsFlatCover, IsFlatLatch, AreNetsOf, cover_numbers, inputs_at, latch_nets, IsNetOf}
pub use Rattle.netlist.specs.DepthFirst.{Repeat, MeetsAll}
pub use Rattle.netlist.specs.Weight.{most_weight, own_weight, Weighs}
pub use Rattle.netlist.specs.declared.flat.FlatNet.TheVariants.{Input, Input as InputNumber, Latch as LatchNumber, Cover as CoverNumber}
pub use Rattle.depth_first.specs.declared.edge.Edge.{Edge}
pub use Rattle.depth_first.specs.declared.edge.Edge.TheVariants.{Node, Pass, Stop}
pub use Rattle.tl_text.specs.NameIndex.{place_of}
pub use Rattle.blif_flat.specs.declared.flat_err.FlatErr.{FlatErr}
pub use Rattle.blif_flat.specs.declared.flat_err.FlatErr.TheVariants.{UnknownModel, RecursiveModel, UnknownFormal, Unconnected, TooLarge, DoublyDriven, Undriven, SecondClock, ClockNotInput, ClockAsData, Loop, Memory}
pub use Rattle.blif_flat.specs.declared.circuit.instances.Gate.{Gate}
pub use Rattle.blif_flat.specs.declared.circuit.instances.Instance.{Instance}
pub use Rattle.blif_flat.specs.declared.model.ports.Ports.{Ports}
