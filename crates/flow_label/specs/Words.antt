-- The words of other crates that the definitions say, passed on from one place.
pub use Rattle.aig_core.specs.Aig.{Aig, first_and, IsAnd, node_count, IsSource, IsNode, AreNormal}
pub use Rattle.list_laws.specs.Members.{In}
pub use Rattle.cut_sets.specs.Cuts.{IsCut, Blocks}
pub use Rattle.cut_sets.specs.Labels.{height, AreLeastHeights, label_at}
pub use Rattle.cut_sets.specs.Unions.{union}
pub use Rattle.aig_core.specs.declared.lit.Kind.TheVariants.{Regular}
pub use Rattle.list_laws.specs.Apart.{AreApart}
pub use Rattle.cut_sets.specs.Paths.{IsFanIn, IsPath}
pub use Rattle.aig_core.specs.declared.lit.Pair.{Pair}
