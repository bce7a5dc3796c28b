-- What the proofs of this crate cite of other crates, and its own definitions, passed on from one place.
pub use Rattle.std.proofs.Common.{Bool, IsSome, List, None, Option, Some, [], ap, arith, eqb, false, get_or, get_or-set_other, get_or-set_same, inl, inr, length, length-set, map, refl, reverse, set, subst, suc, sym, take, true, zero, ℕ, ◌%◌, ◌++◌, ◌+◌, ◌-◌, ◌/◌, ◌<◌, ◌^◌, ◌∙◌, ◌∷◌, ◌≡◌, ◌≤◌, ◌⊎◌, rules, Vec, Global}
pub use Rattle.std.proofs.lemmas.Bool.{cases_eq, cases_lt, eqb-false, eqb-true}
pub use Rattle.std.proofs.lemmas.List.{get_or_read, map-append, reverse-append, take_all, take_more, length-map}
pub use Rattle.std.proofs.lemmas.Option.{none-some, same_Some, slice_get-get_or, slice_get_within, slice_get-map}
pub use Rattle.std.specs.Prelude.{slice_get, IfOk}
pub use Rattle.aig_core.specs.Aig.{Aig, AreNormal, IsAnd, IsNode, IsSource, first_and, node_count}
pub use Rattle.aig_core.specs.Roots.{lits_of, roots_of}
pub use Rattle.aig_core.specs.declared.lit.Kind.TheVariants.{Regular}
pub use Rattle.aig_core.specs.declared.lit.Pair.{Pair}
pub use Rattle.cert_check.specs.CertificateValue.{CertificateValue, PathValue, StepValue}
pub use Rattle.cut_sets.specs.Paths.{ArePathsTo, IsFanIn, IsPath, first, second}
pub use Rattle.cert_check.specs.Valid.{IsJustified, IsReached, IsValid, Needs, SomeNeeds, claim_of, complemented, node, path_count}
pub use Rattle.cert_check.specs.WrittenText.{IsWritable, bare, bare_step}
pub use Rattle.cut_sets.specs.Cuts.{Blocks, IsCut, fan_ins}
pub use Rattle.cut_sets.specs.Labels.{AreLeastHeights, height, label_at}
pub use Rattle.list_laws.proofs.Choice.{choose}
pub use Rattle.list_laws.proofs.Members.{In-append, In-get, In-get_or, In-left, In-map, In-push, In-right, from_map}
pub use Rattle.list_laws.proofs.Places.{take_get}
pub use Rattle.list_laws.specs.Members.{In}
pub use Rattle.list_laws.specs.Order.{IsAscending, IsDescending}
pub use Rattle.flow_label.specs.Value.{IsLive, AreKnownTo}
pub use Rattle.flow_label.specs.Scratch.{HasRoom}
pub use Rattle.flow_cert.specs.Steps.{IsStepOf, IsDownTo, AreShowing, AreSteps, IsWanted, AreDoneTo}
pub use Rattle.flow_cert.specs.Marks.{HasTaken, AreTaken, AreMarkedTo, AreMarked, mark, FitStep}
pub use Rattle.flow_cert.specs.Needed.{AreLabelClaims, IsShared, IsNeeded, HasStep, AreNeeded, shared, IsFirstToNeed, root, ShowAlike, HasOneClaiming}
pub use Rattle.flow_cert.specs.Target.{IsTarget, no_more}
pub use Rattle.cut_sets.proofs.HeightLemmas.{height_le, height_member, height_none}
pub use Rattle.cut_sets.proofs.LeastHeightLemmas.{least_depths, label_rises}
