-- The words of libraries, instances, places and nets, passed on from one place.
pub use Rattle.netlist.specs.Words.{Latch, LatchValue, LibraryValue, ModelValue, Cover, Subckt, CoverValue, Body, Command, Connection, SubcktValue, input_ports, clock_ports, output_ports, cover_value}
pub use Rattle.netlist.specs.Models.{has_name, Path, model_at, body_at, inputs_of, subckts_of, model_named, is_input, is_output, placed, with_subckt}
pub use Rattle.netlist.specs.Instances.{LatchAt, CoverAt, ConnectionAt, IsMainInput}
pub use Rattle.netlist.specs.Nets.{input_net, Drives, IsClock, listed, controls, Net, latch_net, cover_net, main_input, latch_output, cover_output, from_inside, from_outside}
pub use Rattle.netlist.specs.Places.{Place, is_latch, FlatOrder, InFlatOrder, InFlatOrderUnder, own_of, cover_in, latch_in, cover_at, latch_at, is_cover, own_places, flat, FlatUnder, same_place}
pub use Rattle.netlist.specs.Drivers.{IsDriven, IsRead, latch_control, Driver, by_input, by_latch, by_cover, by_subckt, IsDriver, input, latch, cover, output, input_actual, model_output, Ends, ends, cover_input, latch_input, InstanceAt}
pub use Rattle.list_laws.specs.Members.{In}
pub use Rattle.netlist.specs.declared.flat.FlatNet.{FlatNet}
pub use Rattle.netlist.specs.declared.flat.OutPort.{OutPort}
pub use Rattle.netlist.specs.declared.flat.FlatLatch.{FlatLatch}
pub use Rattle.netlist.specs.FlatValue.{FlatValue}
pub use Rattle.netlist.specs.FlatCoverValue.{FlatCoverValue}
