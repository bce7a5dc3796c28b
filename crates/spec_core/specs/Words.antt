-- The words of other crates that the definitions say, passed on from one place.
pub use Rattle.tl_io.specs.declared.Write.{Write}
pub use Rattle.aig_core.specs.Value.{xor, FitsGraph, node_value, value_of}
pub use Rattle.tl_io.specs.declared.Assign.{Assign}
pub use Rattle.tl_io.specs.Assigns.{assigned}
pub use Rattle.tl_io.specs.Writes.{written, AreAscending, AreBitsOf}
pub use Rattle.ppc_pack.specs.Pack.{PackValue, IsConf, IsPack}
pub use Rattle.aig_core.specs.Aig.{first_and, node_count, AreNormal, Aig, IsAnd, IsNode}
pub use Rattle.aig_core.specs.declared.lit.Pair.{Pair}
