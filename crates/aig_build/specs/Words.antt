-- The words of other crates, and the types of this one, that the definitions say, passed on from one place.
pub use Rattle.aig_core.specs.Aig.{Aig, first_and, IsLit, AreNormal}
pub use Rattle.aig_core.specs.And.{complement, Answer, product_of, and_of, with_pairs}
pub use Rattle.aig_core.specs.Roots.{RootsValue, lits_of, roots_of, AreRoots}
pub use Rattle.aig_core.specs.Value.{FitsGraph, value_of}
pub use Rattle.aig_core.specs.declared.lit.Kind.{Kind}
pub use Rattle.aig_core.specs.declared.lit.Kind.TheVariants.{Regular, Parameter}
pub use Rattle.aig_core.specs.declared.lit.Lit.{Lit}
pub use Rattle.aig_core.specs.declared.lit.Pair.{Pair}
pub use Rattle.netlist.specs.Circuits.{CoverValue, cover_value, FlatCoverValue, FlatValue, LibraryValue, ModelValue}
pub use Rattle.netlist.specs.declared.flat.FlatLatch.{FlatLatch}
pub use Rattle.netlist.specs.declared.flat.OutPort.{OutPort}
pub use Rattle.netlist.specs.Evaluation.{cover_behind, net_value, gate_value, evaluated, flat_values}
pub use Rattle.netlist.specs.CoverValue.{RowValue, allows, matches, some_row}
pub use Rattle.netlist.specs.declared.cell.Cell.{Cell}
pub use Rattle.netlist.specs.declared.cell.Cell.TheVariants.{Zero, One, Any}
pub use Rattle.netlist.specs.declared.flat.FlatNet.{FlatNet}
pub use Rattle.netlist.specs.declared.flat.FlatNet.TheVariants.{Input, Latch, Cover}
pub use Rattle.param_list.specs.Parameters.{param_names, regular_names, AreParameters, ParamsValue}
pub use Rattle.param_list.specs.declared.params.Param.{Param}
