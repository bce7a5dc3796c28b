-- What the proofs of this crate cite of other crates, and its own definitions, passed on from one place.
pub use Rattle.std.proofs.Common.{◌≡◌, ℕ, suc, ◌/◌, ◌<◌, ◌≤◌, true, false, List, [], ◌∷◌, length, refl, sym, ◌∙◌, subst, inl, inr, ◌⊎◌, arith, zero, ◌+◌, ◌-◌, Some, ap, ◌*◌, ◌^◌, min, Bool, ◌||◌, get_or, map, take, drop, slice_range, length-drop, ◌++◌, append_assoc, length-append, cond, eqb, ltb, sum_by, Result, Ok, Err, IfOk, IfErr, Option, None, max, bit_or, count_ones, rules}
pub use Rattle.std.proofs.lemmas.Bool.{false≢true, cases_Bool, cases_lt, or_cases, or_parts, both_ways, eqb-true, eqb-false, ltb-false, cases_order, ltb-true}
pub use Rattle.std.proofs.lemmas.List.{length-take, length-take-le, get_or_append_left, get_or_push, get_or-map, take-map, drop-map, map-append, take-append-drop, drop_more, drop_all, get_or_past, get_or-take, length-map, get_or_default, ext_get_or, get_or_read, take_more}
pub use Rattle.std.proofs.lemmas.List.Sums.{sum_by-cons, sum_by_push}
pub use Rattle.std.proofs.lemmas.Nat.Bits.{bit_at_or, bit_at_and, same_from_bits}
pub use Rattle.std.proofs.lemmas.Option.{same_Some, none-some, slice_get-get_or}
pub use Rattle.std.proofs.lemmas.Result.{err_from_is_err_and}
pub use Rattle.std.specs.Int.{bit_at}
pub use Rattle.std.specs.Int.Bits.{bit_and, or_zero_r}
pub use Rattle.std.specs.List.{slice_get, list_any, insert}
pub use Rattle.aig_core.specs.Aig.{Aig, first_and, IsAnd, IsNormal, AreNormal, IsSource, IsNode, node_count, pair_of}
pub use Rattle.aig_core.specs.declared.lit.Kind.TheVariants.{Regular, Parameter}
pub use Rattle.aig_core.specs.declared.lit.Pair.{Pair}
pub use Rattle.cut_sets.proofs.AscendingLemmas.{length_within, same_within, same_length_within}
pub use Rattle.cut_sets.proofs.BlockLemmas.{Blocks-within, regular_blocked, contains_one}
pub use Rattle.cut_sets.proofs.OrderLemmas.{before_shorter, before_trans, before_none, before_length, same_ordered, before-same}
pub use Rattle.cut_sets.specs.Cuts.{Blocks, member, constant, parameter, fan_ins, CanBeLeaf, IsCut, IsMinimal, AreMinimal, Covers}
pub use Rattle.cut_sets.specs.Sets.{before, IsOrdered}
pub use Rattle.list_laws.proofs.Choice.{choose}
pub use Rattle.list_laws.proofs.Members.{In-left, In-append, In-right, In-get_or, map_agree}
pub use Rattle.list_laws.specs.Members.{In, Within}
pub use Rattle.list_laws.specs.Order.{IsAscending}
pub use Rattle.tl_fault.specs.OrMemory.{OrMemory}
pub use Rattle.cut_enum.specs.Keeps.{NoneClear, listed, AreListed, AllHave, AreShared}
pub use Rattle.cut_enum.specs.Limits.{Reaches, IsLimit}
pub use Rattle.cut_enum.specs.Merging.{AreApart, merged, starts_empty, with_own, IsRow, AreClear, add, add_holders, leading, holders, unions_at, unions_below, place, add_holder, add_union, add_unions, add_pairs, IsPlaceOf, IsAround, IsTooMany, front_of, source_front, unions_of}
pub use Rattle.cut_sets.specs.Unions.{union, subset, put}
pub use Rattle.cut_enum.specs.Refusals.{refusal_of}
pub use Rattle.cut_sets.specs.Signature.{signature_of, leaf_bit}
pub use Rattle.cut_enum.specs.Table.{AreRows}
pub use Rattle.cut_sets.specs.Rows.{row_at}
pub use Rattle.cut_enum.specs.declared.limits.TheConstants.{GROUP, MOST_OF_A_NODE, MOST_OF_A_TABLE}
pub use Rattle.cut_sets.specs.declared.limits.TheConstants.{MOST_LEAVES}
pub use Rattle.cut_enum.specs.declared.table.CutErr.{CutErr}
pub use Rattle.cut_enum.specs.declared.table.CutErr.TheVariants.{NodeCuts, TotalCuts, Memory}
pub use Rattle.cut_sets.proofs.SetLemmas.{union_left, union_right, In-union, IsAscending-union, union_within, subset_true, subset_from, put_at}
pub use Rattle.cut_sets.proofs.SignatureLemmas.{outside-subset, signature-within, outside-none, union_over_bits, signature-one, signature-union}
