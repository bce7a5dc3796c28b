-- What the proofs of this crate cite of other crates, and its own definitions, passed on from one place.
pub use Rattle.std.proofs.Common.{◌≡◌, ℕ, suc, ◌≤◌, List, [], ◌∷◌, Option, Some, refl, ap, inl, inr, arith, zero, ◌<◌, sym, subst, ◌+◌, ◌-◌, ◌/◌, ◌++◌, length, None, ◌∙◌, ◌⊎◌, get_or, length-append, true, cond, ltb, drop}
pub use Rattle.std.proofs.lemmas.Bool.{cases_lt, cases_order, ltb-true, ltb-false, false≢true}
pub use Rattle.std.proofs.lemmas.List.{get_or_past, get_or_push, drop_more, drop_all}
pub use Rattle.std.proofs.lemmas.Option.{slice_get-get_or, same_Some, none-some, get_or_from_slice_get}
pub use Rattle.aig_core.specs.Aig.{Aig, first_and, IsAnd, AreNormal, node_count, IsNormal, IsNode}
pub use Rattle.cut_sets.specs.Rows.{row_at}
pub use Rattle.cut_enum.specs.Table.{AreRows}
pub use Rattle.cut_sets.proofs.BlockLemmas.{minimal_within, contains_one}
pub use Rattle.cut_sets.proofs.HeightLemmas.{height_same, height_bound}
pub use Rattle.cut_sets.specs.Labels.{height, label_at, AreLeastDepths, AreLeastHeights}
pub use Rattle.cut_sets.specs.Cuts.{AreMinimal, Covers, member, fan_ins}
pub use Rattle.list_laws.specs.Members.{In}
pub use Rattle.depth_label.specs.Fold.{lowest, lowest_cut, AreLabelledTo, lower_of, or_empty, IsAt}
pub use Rattle.depth_label.specs.Label.{AreLabels, LabelsValue, label_of, best_of, IsAsGood, lower, tie, IsBestCut, AreLabelled, IsCutTable, HasOneLabelling}
