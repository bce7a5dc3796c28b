-- The words of other crates, and the types of this one, that the definitions say, passed on from one place.
pub use Rattle.list_laws.specs.Members.{In}
pub use Rattle.netlist.specs.Circuits.{CoverValue, cover_value, input_ports, output_ports, clock_ports, ModelValue, LibraryValue, SubcktValue}
pub use Rattle.netlist.specs.declared.command.Body.{Body}
pub use Rattle.netlist.specs.declared.command.Body.TheVariants.{Cover}
pub use Rattle.netlist.specs.declared.command.Command.{Command}
pub use Rattle.netlist.specs.declared.latch.Latch.{Latch as LatchValue}
pub use Rattle.netlist.specs.declared.subckt.Connection.{Connection}
pub use Rattle.netlist.specs.SubcktValue.{formals}
pub use Rattle.netlist.specs.CoverValue.{RowValue, matches}
pub use Rattle.netlist.specs.LibraryValue.{Ports, ports_of}
pub use Rattle.netlist.specs.declared.cell.Cell.{Cell}
pub use Rattle.netlist.specs.declared.cell.Cell.TheVariants.{Zero, One, Any}
pub use Rattle.tl_text.specs.Decimal.{bit_of}
pub use Rattle.tl_text.specs.LineValue.{LineValue, WordsLine, words_line, token_bytes, AreLinesIn}
pub use Rattle.tl_text.specs.Lines.{lines_of}
pub use Rattle.tl_text.specs.Once.{AreOnce}
pub use Rattle.tl_text.specs.declared.text_err.TextErr.{TextErr}
pub use Rattle.blif_read.specs.declared.blif_err.BlifErr.{BlifErr}
pub use Rattle.blif_read.specs.declared.blif_err.BlifErr.TheVariants.{NotCommand, Unsupported, OutsideModel, Arity, BadRow, MixedRows, BadLatch, LatchKind, DuplicateModel, DuplicatePort, BadConnection, BadByte, TrailingSlash, NoModel, Memory}
pub use Rattle.blif_read.specs.declared.keyword.Keyword.{Keyword}
pub use Rattle.blif_read.specs.declared.keyword.Keyword.TheVariants.{Model, Inputs, Outputs, Clock, Names, Latch, Subckt, End, Unknown, Plain}
