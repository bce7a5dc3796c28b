-- The lemmas that answers cite, passed on from one place.
pub use Rattle.cover_pick.proofs.Common.{◌≡◌, ℕ, List, [], length, None, get_or, refl, sym, subst, arith, get_or_from_slice_get, row_at, label_at, IsAt, IsShorter, better, fewest, ◌∙◌, ap, drop_more, drop_all, IsOffer, cut_cost, cheaper_low, cheapest, Some, Option, cut_of, has_cut, is_some, or_empty, ◌+◌, ◌^◌, TABLE_PRICE, price, lits_of, cuts_of, cut_at, ◌/◌, ◌<◌, ◌++◌, ◌∷◌, suc, node_count, node_flow, flows_below, AreCapped, count_at, AreFlows, Scope, ◌≤◌, MOST_FLOW, least_flow, allowed_row, max, ltb, div-le_self, ltb-true, first_and, choose, Bool, mark_of, HasFreeParts, has_fan_ins, In, Lut, member_at, inr, err_from_is_err_and, Made, tables_of, IsFree, subst₂, low_in, favoured_in, LeastCost, AreSets, IsPlanned, six_rounds, Sets, HasPlan, ◌*◌, drop, In-get_or, mark_leaves, mark_cut, mark_cuts, rules, replicate, take_at, target, require_roots, roots_required, ArePlacesBy, slice_get, Aig, IsAnd, Rule, IsServing, need, ◌-◌, slice_set, choice_by, found_in, found_from, walk_by, met_at, found_for, AreBestPlaces, ArePlacedFrom, AnyHeight, LeastHeight, three_over, next_flows, cheaper_flows, flows_over, tables_from, FewestLeaves, label_of, Rows, AreTimely, IsSupplied, roots_of, TemplateValue, Supply, HaveOneMaking, RootsValue, IsMade, cost_below, count_each, times_in, AreMet, inl, IsOwnWorkTo, once_in, drop_at}
pub use Rattle.cover_pick.proofs.ChoiceLemmas.{fewest_stops, offer_inside}
pub use Rattle.cover_pick.proofs.RuleLemmas.{cut_at_place, cuts_length, plan_all, cuts_all, places_plan, roots_inside, root_there, places_chosen, root_below, places_next}
pub use Rattle.cover_pick.proofs.UsesLemmas.{counts_small, counted_next, flows_capped, flows_fit, node_same, least_capped, allowed_next, allowed_end, cost_next, one_if, one_more, one_size, times_cons, times_head}
pub use Rattle.cover_pick.proofs.FreeLemmas.{free_start, free_step, no_parts, parts_marked, leaf_inside, free_or_not}
pub use Rattle.cover_pick.proofs.CountedLemmas.{none_once, work_met, work_small, AreOwnCounted, counted_start, counted_step, counted_past, own_end}
pub use Rattle.cover_pick.proofs.LightLemmas.{bits_past, countable, within_none, past_none, leaves_can, count_free, within_free, past_free}
pub use Rattle.cover_pick.proofs.RoundLemmas.{leaves_by, cheaper_by, later_by, stop_first, stop_second}
pub use Rattle.cover_pick.proofs.MakingLemmas.{makings_plan, ok_serving}
pub use Rattle.cover_pick.proofs.ChosenLemmas.{are_picked, template_is, timely_is}
pub use Rattle.cover_pick.proofs.TemplateLemmas.{can_make, can_make_cheaper, cut_in}
pub use Rattle.cover_pick.proofs.WalkLemmas.{each_other, walk_step, met_now, met_later}
pub use Rattle.cover_pick.proofs.TableLemmas.{marks_length, tables_past, bits_more}
pub use Rattle.cover_pick.proofs.ServedLemmas.{table_serving, fewest_plan, serving_seen, rows_served}
pub use Rattle.cover_pick.proofs.ThereLemmas.{template_once, light_or_too_much, too_much_answer, each_maps, each_least, ok_given, sets_good}
