-- What the proofs of this crate cite of other crates, and its own definitions, passed on from one place.
pub use Rattle.std.proofs.Common.{ap₂, subst₂, Bool, Err, IfErr, IfOk, IsSome, List, None, Ok, Option, Result, Some, [], ap, arith, cond, drop, eqb, false, get_or, get_or-set_other, get_or-set_same, inl, inr, length, length-append, ltb, max, min, refl, replicate, rules, slice_set, subst, suc, sym, take, true, zero, ℕ, ◌%◌, ◌&&◌, ◌*◌, ◌++◌, ◌+◌, ◌-◌, ◌/◌, ◌<◌, ◌^◌, ◌∙◌, ◌∷◌, ◌≡◌, ◌≤◌, ◌⊎◌}
pub use Rattle.std.proofs.Math.ListN.{get_or-append, length-set}
pub use Rattle.std.proofs.Math.Nat.{div-le_self, mul-le-mul_left, mul-one}
pub use Rattle.std.proofs.Math.Path.{fun_ext}
pub use Rattle.std.proofs.lemmas.Bool.{and_from, and_parts, both_ways, cases_Bool, cases_eq, cases_lt, cases_order, eq-eqb, eqb-false, eqb-true, false≢true, lt-ltb, ltb-false, ltb-true, ne_eqb, or_cases, or_parts, true≢false}
pub use Rattle.std.proofs.lemmas.List.{drop_all, drop_more, get_or-replicate, get_or_append_left, get_or_past, get_or_push, length-replicate, length_push, take_all, take_at}
pub use Rattle.std.proofs.lemmas.List.Sums.{sum_by-cons, sum_by_more, sum_by_push}
pub use Rattle.std.proofs.lemmas.Option.{get_or_from_slice_get, none-some, same_Some, slice_get-get_or, slice_get_within}
pub use Rattle.std.proofs.lemmas.Result.{err_from_is_err_and}
pub use Rattle.cover_pick.specs.Words.{Aig, AreNormal, IsAnd, IsNode, IsNormal, IsSource, first_and, node_count, pair_of, AreRoots, RootsValue, lits_of, roots_of, Kind, Parameter, Regular, Lit, Pair, AreRows, row_at, HasDepth, IsCover, RootsWithin, free, no_leaves, source, table, IsCut, IsOrdered, comes_before, lex, AreLabels, IsCutTable, greatest, height, label_at, label_at, In, IsAscending, IsDescending, MOST_WORK, MOST_FLOW, TABLE_PRICE, Lut, PickErr, Work, Memory, Rule, FewestLeaves, LeastCost, Scope, AnyHeight, LeastHeight}
pub use Rattle.std.specs.List.{slice_get, sum_by, AllByRecursion, list_any}
pub use Rattle.aig_core.proofs.NodeLemmas.{node_normal, source_below, same_pair}
pub use Rattle.cut_enum.proofs.Examples.{last_cuts, mux, mux_normal, mux_rows, pair}
pub use Rattle.cut_sets.specs.declared.limits.TheConstants.{MOST_LEAVES}
pub use Rattle.cut_sets.proofs.OrderLemmas.{before-same, before_trans, lex-same, lex_trans, before_none}
pub use Rattle.depth_label.specs.Fold.{or_empty}
pub use Rattle.list_laws.proofs.Choice.{choose, choose_both, choose_one, none_then, same_test, some_then}
pub use Rattle.list_laws.proofs.Members.{In-append, In-get_or, In-left, In-map, In-push, In-pushed, in_or, In-place}
pub use Rattle.tl_fault.specs.OrMemory.{OrMemory}
pub use Rattle.bounded_cuts.specs.Flow.{cuts_within, allowed_row, flow_at, times_read, fan_out, flows_below, cut_flow, least_flow, node_flow}
pub use Rattle.bounded_cuts.specs.Sets.{AreSets, AreServing}
pub use Rattle.cover_pick.specs.Flow.{allowed_flow, flows_by}
pub use Rattle.cover_pick.specs.Served.{IsServed, IsServing}
pub use Rattle.cover_pick.specs.Ruled.{cheaper, cheaper_low, cheapest, AreCapped, cut_cost, cost_where, leaf_cost, IsOffer, IsAt, IsShorter, better, fewest, choice_of, found_in, choice_by, found_from}
pub use Rattle.cover_pick.specs.Cone.{is_stop, SearchValue, stamp_at, reach, once_in, with_fan_ins, AreClosed, IsBelowMet, MeetsCone, HasOwn, HasBelowMet}
pub use Rattle.cover_pick.specs.Counted.{IsWithin, IsPast, AreCountable, CountOnce, AreMet, IsOwnWorkTo}
pub use Rattle.cover_pick.specs.Free.{mark_of, AreFree, AreFreeTo, HasFreeParts, is_constant, is_parameter, has_fan_ins, unmarked, all_unmarked}
pub use Rattle.cut_sets.specs.Cuts.{CanBeLeaf}
pub use Rattle.cover_pick.specs.Counts.{count_at, count_one, count_pair, AreCounted, AreLeaves, AreUsed, count_each}
pub use Rattle.cover_pick.specs.Mapping.{HaveBases, bits_of, IsMapping, IsLeast, AscendByLit}
pub use Rattle.cover_pick.specs.Marks.{IsMarked, Made, IsMade, tables_of, AreMade, mark_each, mark_leaves, mark_cut, mark_cuts, tables_from, leaves_of, source_leaves, root, leaf, mark_at, marks_of, add_table, add_marked}
pub use Rattle.cover_pick.specs.Places.{place_at, cut_of, cuts_from, cuts_of, found_for, AreBestPlaces, ArePlacedFrom}
pub use Rattle.cover_pick.specs.Rounds.{Supply, Rows, Sets, IsPlan, no_flow, PlanValue, IsFirst, AreRounds, NoneBelow, AreSixRounds, IsMaking, IsLeastOfMakings}
pub use Rattle.cover_pick.specs.Planned.{and_depths, depths_of, IsPlanned, cut_at, AreFlows, FromChoice, IsLeastCover, Chooses, plan_of, IsWalked, plan_by, next_flows, cost_by, cheaper_flows, cheaper_cuts, three_rounds, six_rounds}
pub use Rattle.cover_pick.specs.Choices.{CanChoose, ArePlacesBy, AreCutsBy, flows_over, three_over}
pub use Rattle.cover_pick.specs.Picked.{CanMakeTables, ArePicked, IsPicked}
pub use Rattle.cover_pick.specs.Refusals.{refusal_of}
pub use Rattle.cover_pick.specs.Required.{need, chosen, cover_of, visit, walk, met_at, walk_by, roots_required, require_each, least_of, require, require_root, require_roots, required}
pub use Rattle.cover_pick.specs.Schedule.{AtMost, IsPlanBy, HasRuled, IsRuled, FromRoot}
pub use Rattle.cover_pick.specs.Sharing.{IsCheaper, less, earlier, IsNeededAbove}
pub use Rattle.cover_pick.specs.Tables.{HasTable, IsNeeded, IsLeaves}
pub use Rattle.cover_pick.specs.Target.{target, source_level, root_level}
pub use Rattle.cover_pick.specs.Template.{TablesWithin, AreChosen, IsTemplate, AreTimely, IsTooMuch, TemplateValue}
pub use Rattle.cover_pick.specs.Uses.{uses, has_cut, cost_of, times_in, times_leaf, uses_below, price, cost_below}
pub use Rattle.cover_pick.specs.Work.{IsTableWork, IsOwnWork, IsWork, IsLight, IsCone, AreOwn, AreShared, IsFree, free_constant, free_parameter, free_product, once_by, IsInner, Path, here, left, right}
pub use Rattle.cover_pick.specs.Supplied.{HaveOneMaking, IsSupplied, HasPlan}
pub use Rattle.cut_sets.specs.Labels.{AreLeastHeights}
pub use Rattle.bounded_cuts.specs.Making.{low_in, favoured_in}
pub use Rattle.cover_pick.specs.Words.{label_of}
pub use Rattle.std.specs.Prelude.{IfSome, if◌then◌else◌, ◌==◌, nat_lt, is_some}
pub use Rattle.cover_pick.specs.declared.choices.Choices.{Choices}
pub use Rattle.list_laws.proofs.Items.{member_at, drop_at}
