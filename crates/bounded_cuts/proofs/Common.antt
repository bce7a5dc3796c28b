-- What the proofs of this crate cite of other crates, and its own definitions, passed on from one place.
pub use Rattle.std.proofs.Common.{rules, ◌≡◌, ℕ, zero, suc, ◌+◌, ◌-◌, ◌*◌, ◌/◌, ◌^◌, ◌<◌, ◌≤◌, min, max, Bool, true, false, cond, if◌then◌else◌, List, [], ◌∷◌, ◌++◌, length, map, get_or, take, drop, sum_by, refl, sym, ap, subst, ◌∙◌, pow-suc, pow_mono, swap_remove, inl, inr, ◌⊎◌, arith, length-append, replicate, append-nil, append_assoc, slice_set, set, get_or-set_same, get_or-set_other, nat_lt, ltb, Some, slice_get, suc-mul, add_comm}
pub use Rattle.std.proofs.Math.ListN.{length-set, length-replicate, get_or-replicate}
pub use Rattle.std.proofs.lemmas.Option.{get_or_from_slice_get, slice_get_within}
pub use Rattle.std.proofs.lemmas.Bool.{false≢true, cases_Bool, cases_eq, cases_lt, lt-ltb, le-ltb, ltb-false, ltb-true, eqb-true}
pub use Rattle.std.proofs.lemmas.List.{get_or-map, length-map, get_or_push, get_or_append_left, get_or_past, get_or-take, length-take, take_more, map-append}
pub use Rattle.std.proofs.lemmas.List.Sums.{sum_by-cons}
pub use Rattle.cut_sets.proofs.AscendingLemmas.{length_within, same_length_within}
pub use Rattle.cut_sets.proofs.HeightLemmas.{height_within, height_same, height_none}
pub use Rattle.cut_sets.proofs.SetLemmas.{subset_true, subset_from, In-union, union_left, union_right, IsAscending-union}
pub use Rattle.cut_sets.specs.Unions.{subset, union}
pub use Rattle.cut_sets.specs.Labels.{height, label_at, AreLeastHeights, greatest}
pub use Rattle.list_laws.proofs.Members.{In-left, In-right, In-append, In-get_or, In-push, In-pushed, In-map, from_map, place_in, In-place}
pub use Rattle.list_laws.specs.Members.{In, Within}
pub use Rattle.list_laws.specs.Order.{IsAscending}
pub use Rattle.bounded_cuts.specs.declared.limits.TheConstants.{MOST_FLOW, PLACE_BOUND, TABLE_PRICE}
pub use Rattle.bounded_cuts.specs.declared.price.Candidate.{Candidate}
pub use Rattle.bounded_cuts.specs.declared.taking.Order.{Order}
pub use Rattle.bounded_cuts.specs.declared.taking.Order.TheVariants.{LeastHeight, FewestLeaves, LeastCost}
pub use Rattle.bounded_cuts.specs.Flow.{flow_at, cut_flow, flows_below, allowed_row, least_flow, node_flow, cuts_within}
pub use Rattle.bounded_cuts.specs.Sets.{candidate_at, paid_flow, ComesBefore, by_first, by_second, by_place, AreFirst, AreInOrder, IsLeastAt, IsLeastAtHeight, IsLeft, AreTakenPlaces, places, IsTaken, HasSet, AreSets, AreOnce, AreOfUse}
pub use Rattle.bounded_cuts.specs.Taking.{AreCapped, is_favoured, HaveSmallCosts, IsPriced, ArePriced, cuts_of, Pricing, first_of, second_of, second_bound, key_at, place_of, Qualifies, looked_at, HasTakenPart, AreTaking, IsKeyOf, HasKey, AreKeys, Looks, dropped, took, CanTake, MayTake, IsTakingOn, HasTaken, ArePlaced, AreKeysOf, cuts_at}
pub use Rattle.aig_core.specs.Aig.{Aig, first_and, IsAnd, IsNode, AreNormal, IsNormal, IsSource, node_count}
pub use Rattle.aig_core.specs.declared.lit.Pair.{Pair}
pub use Rattle.aig_core.proofs.NodeLemmas.{node_normal, source_below, same_pair}
pub use Rattle.cut_sets.proofs.BlockLemmas.{Blocks-within, regular_blocked}
pub use Rattle.cut_sets.specs.Cuts.{Blocks, member, fan_ins, CanBeLeaf, IsCut, constant, parameter}
pub use Rattle.cut_sets.specs.Rows.{row_at}
pub use Rattle.cut_sets.specs.declared.limits.TheConstants.{MOST_CUTS}
pub use Rattle.bounded_cuts.specs.declared.worths.Worth.{Worth}
pub use Rattle.bounded_cuts.specs.Worths.{no_worth, worth_at, label_in, flow_in, low_flow_in, paid_in, flows_of, low_flows_of, pricing, AddsLow, as_low, none_low, AreCounted, AreBounded, IsWorth, AreWorths, IsPricedBy, ArePricedBy}
pub use Rattle.bounded_cuts.specs.Candidates.{AreCandidates, HandsOn, free, source, node, one_union, unions_with, unions, WithLow, there, missing}
pub use Rattle.std.proofs.Math.Nat.{div-le_self, mul-suc, mul-zero, mul-le-mul_left, mul_comm}
pub use Rattle.list_laws.proofs.Choice.{choose, choose_one}
pub use Rattle.bounded_cuts.specs.declared.making.Wanted.{Wanted}
pub use Rattle.bounded_cuts.specs.Making.{AreMade, CanMake, low_in, AreSetsFor, count_in, favoured_in, IsChosen}
pub use Rattle.bounded_cuts.specs.declared.scope.Scope.{Scope}
pub use Rattle.std.proofs.lemmas.Result.{on_ok_weaker, IfOk-weaker}
