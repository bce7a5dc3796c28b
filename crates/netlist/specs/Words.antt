-- The words of a library, passed on from one place.
pub use Rattle.netlist.specs.declared.command.Body.{Body}
pub use Rattle.netlist.specs.declared.command.Body.TheVariants.{Cover, Latch, Subckt}
pub use Rattle.netlist.specs.declared.command.Command.{Command}
pub use Rattle.netlist.specs.declared.latch.Latch.{Latch as LatchValue}
pub use Rattle.netlist.specs.declared.subckt.Connection.{Connection}
pub use Rattle.netlist.specs.CoverValue.{CoverValue, cover_value}
pub use Rattle.netlist.specs.SubcktValue.{SubcktValue}
pub use Rattle.netlist.specs.LibraryValue.{ModelValue, LibraryValue, input_ports, clock_ports, output_ports}
