-- The lemmas that answers cite, passed on from one place.
pub use Rattle.bounded_cuts.proofs.Common.{◌≡◌, ◌≤◌, ◌*◌, ℕ, List, length, ap, subst, arith, IsNode, length-map, Candidate, cuts_of, label_at, on_ok_weaker, WithLow, unions, ◌<◌, sym, inl, inr, In, In-get_or, rules, [], ◌∷◌, ◌++◌, refl, ◌∙◌, length-append, as_low, none_low, map-append, append_assoc, take, row_at, node_count, AreMade, AreBounded, AreCapped, ArePricedBy, ArePlaced, HaveSmallCosts, Worth, cuts_at, label_in, pricing, CanTake, AreCandidates, count_in, first_and, IfOk-weaker, ArePriced, flows_of, low_flows_of, max, cuts_within, least_flow, IsChosen, get_or, min, cut_flow, MOST_FLOW, height, if◌then◌else◌, nat_lt, false≢true, cases_lt, Within, candidate_at, subset_true, subset_from, In-place, ◌+◌, In-push, AreKeys, Qualifies, second_of, second_bound, key_at, place_of, Bool, true, length-set, slice_set, IsTakingOn, Looks, dropped, took}
pub use Rattle.bounded_cuts.proofs.UnionLemmas.{unions_length, next_taken, priced_push, take_next, union_counted, unions_next, with_next}
pub use Rattle.bounded_cuts.proofs.MakingLemmas.{none_made, all_sets, row_few, rows_cut, made_pushed, room_for, source_flow, and_flow}
pub use Rattle.bounded_cuts.proofs.ServingLemmas.{sets_serve, set_few}
pub use Rattle.bounded_cuts.proofs.ChosenLemmas.{can_take, chosen_cut, cuts_seen}
pub use Rattle.bounded_cuts.proofs.SetLemmas.{map_next, least_push, least_low_push, low_value}
pub use Rattle.bounded_cuts.proofs.TakingLemmas.{cut_at, cut_here, keys_more, keys_same, ended, looks}
