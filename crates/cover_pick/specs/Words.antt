-- The words of other crates, and the types of this one, that the definitions say, passed on from one place.
pub use Rattle.aig_core.specs.Aig.{Aig, first_and, pair_of, node_count, IsAnd, IsSource, IsNode, AreNormal, IsNormal}
pub use Rattle.aig_core.specs.Roots.{RootsValue, roots_of, AreRoots, lits_of}
pub use Rattle.aig_core.specs.declared.lit.Kind.{Kind}
pub use Rattle.aig_core.specs.declared.lit.Kind.TheVariants.{Regular, Parameter}
pub use Rattle.aig_core.specs.declared.lit.Lit.{Lit}
pub use Rattle.aig_core.specs.declared.lit.Pair.{Pair}
pub use Rattle.cut_sets.specs.Rows.{row_at}
pub use Rattle.cut_enum.specs.Table.{AreRows}
pub use Rattle.bounded_cuts.specs.declared.limits.TheConstants.{MOST_FLOW, TABLE_PRICE}
pub use Rattle.bounded_cuts.specs.declared.scope.Scope.{Scope}
pub use Rattle.bounded_cuts.specs.declared.scope.Scope.TheVariants.{AnyHeight, LeastHeight}
pub use Rattle.bounded_cuts.specs.Flow.{times_read, fan_out, flow_at, cut_flow, flows_below}
pub use Rattle.bounded_cuts.specs.Sets.{AreSets, AreServing, places}
pub use Rattle.cut_sets.specs.Covers.{IsCover, RootsWithin, IsLeastDepth, HasDepth, free, free as no_leaves, source, table}
pub use Rattle.cut_sets.specs.Cuts.{IsCut, AreMinimal, CanBeLeaf}
pub use Rattle.cut_sets.specs.Sets.{lex, before, IsOrdered, before as comes_before}
pub use Rattle.cut_sets.specs.Labels.{height, greatest, label_at, AreLeastHeights}
pub use Rattle.depth_label.specs.Label.{AreLabels, IsCutTable, label_of, AreLabelled, LabelsValue}
pub use Rattle.list_laws.specs.Members.{In}
pub use Rattle.list_laws.specs.Order.{IsAscending, IsDescending}
pub use Rattle.cover_pick.specs.declared.limits.TheConstants.{MOST_WORK}
pub use Rattle.cover_pick.specs.declared.lut.Lut.{Lut}
pub use Rattle.cover_pick.specs.declared.lut.PickErr.{PickErr}
pub use Rattle.cover_pick.specs.declared.lut.PickErr.TheVariants.{Work, Memory}
pub use Rattle.cover_pick.specs.declared.rule.Rule.{Rule}
pub use Rattle.cover_pick.specs.declared.rule.Rule.TheVariants.{FewestLeaves, LeastCost}
