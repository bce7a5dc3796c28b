-- The words of other crates that the definitions say, passed on from one place.
pub use Rattle.list_laws.specs.Members.{In, Within}
pub use Rattle.list_laws.specs.Order.{IsAscending}
pub use Rattle.cut_sets.specs.Sets.{IsOrdered, before}
pub use Rattle.aig_core.specs.Aig.{Aig, IsAnd, first_and}
pub use Rattle.cut_sets.specs.Cuts.{AreMinimal}
pub use Rattle.cut_sets.specs.Rows.{row_at}
