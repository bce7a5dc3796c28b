-- What the proofs of this crate cite of other crates, and its own definitions, passed on from one place.
pub use Rattle.std.proofs.Common.{◌≡◌, ℕ, suc, ◌/◌, ◌<◌, ◌≤◌, true, false, List, [], ◌∷◌, length, refl, sym, ◌∙◌, subst, inl, inr, ◌⊎◌, arith, zero, ◌+◌, ◌-◌, Some, ap, ◌*◌, ◌^◌, min, Bool, get_or, map, take, drop, slice_range, length-drop, ◌++◌, append_assoc, length-append, cond, eqb, ltb, sum_by, Option, None, max, bit_or, ◌%◌, count_ones, MatchOption, IfSome, IfNone, vec_len, rules, take-take}
pub use Rattle.std.proofs.lemmas.Bool.{false≢true, cases_Bool, cases_lt, or_cases, eqb-true, eqb-false, ltb-false, ltb-true, eq-eqb, and_parts, or_left, or_right, and_from, cases_eq}
pub use Rattle.std.proofs.lemmas.List.{take_all, take_more_set, append-nil, length-take-le, get_or-map, map-append, drop_more, drop_all, get_or-take, get_or-drop, length-map, take-append-le, drop-append-le, get_or_read}
pub use Rattle.std.proofs.lemmas.List.Sums.{sum_by_push}
pub use Rattle.std.proofs.lemmas.Nat.Bits.{bit_at_or, bit_at_and, same_from_bits, bit_at-zero, bit_at_lowest}
pub use Rattle.std.proofs.lemmas.Option.{same_Some, none-some, slice_get-get_or}
pub use Rattle.std.specs.Int.{bit_at}
pub use Rattle.std.specs.Int.Bits.{bit_and, or_zero_r}
pub use Rattle.std.specs.List.{slice_get, list_any, slice_set}
pub use Rattle.aig_core.specs.Aig.{Aig, first_and, IsAnd, IsNormal, AreNormal, IsSource, IsNode, node_count, pair_of}
pub use Rattle.aig_core.specs.declared.lit.Kind.TheVariants.{Regular, Parameter}
pub use Rattle.aig_core.specs.declared.lit.Pair.{Pair}
pub use Rattle.list_laws.proofs.Choice.{choose, same_test}
pub use Rattle.list_laws.proofs.Members.{In-append, In-get_or, in_or, place_in}
pub use Rattle.list_laws.specs.Members.{In, Within}
pub use Rattle.list_laws.specs.Order.{IsAscending}
pub use Rattle.cut_sets.specs.Cuts.{Blocks, member, constant, parameter, fan_ins, CanBeLeaf, IsCut, IsMinimal, AreMinimal, EachContainsOne}
pub use Rattle.cut_sets.specs.Keeps.{IsFlatCut, IsShort, AreFlatCuts, AreFlatRows}
pub use Rattle.cut_sets.specs.Rows.{row_at}
pub use Rattle.cut_sets.specs.Sets.{before, IsOrdered, lex}
pub use Rattle.cut_sets.specs.Signature.{signature_of, leaf_bit}
pub use Rattle.cut_sets.specs.Spans.{parts_from, parts_of, RisesTo, StartsTo}
pub use Rattle.cut_sets.specs.Unions.{put, union, subset, IsUnion}
pub use Rattle.cut_sets.specs.declared.limits.TheConstants.{MOST_LEAVES, MOST_CUTS}
pub use Rattle.aig_core.proofs.NodeLemmas.{source_below, node_normal, same_pair}
pub use Rattle.cut_sets.specs.Labels.{greatest, height, AreLeastHeights, AreLeastDepths, label_at}
pub use Rattle.cut_sets.specs.Paths.{IsFanIn, first, second, Climbs, IsPath, ArePathsTo}
