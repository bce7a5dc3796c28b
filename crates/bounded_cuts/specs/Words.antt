-- The words of other crates that the definitions say, passed on from one place.
pub use Rattle.aig_core.specs.Aig.{Aig, IsAnd, IsNode, IsSource, first_and, AreNormal, node_count}
pub use Rattle.aig_core.specs.declared.lit.Pair.{Pair}
pub use Rattle.list_laws.specs.Members.{In, Within}
pub use Rattle.cut_sets.specs.Cuts.{Blocks, IsCut}
pub use Rattle.cut_sets.specs.Labels.{height, AreLeastHeights, label_at}
pub use Rattle.cut_sets.specs.Rows.{row_at}
