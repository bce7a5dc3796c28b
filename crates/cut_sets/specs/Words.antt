-- The words of other crates that the definitions say, passed on from one place.
pub use Rattle.aig_core.specs.Aig.{Aig, first_and, IsAnd, IsSource, IsNode}
pub use Rattle.aig_core.specs.declared.lit.Kind.TheVariants.{Regular, Parameter}
pub use Rattle.list_laws.specs.Members.{In, Within}
pub use Rattle.aig_core.specs.declared.lit.Pair.{Pair}
pub use Rattle.list_laws.specs.Order.{IsAscending}
