-- The lemmas that answers cite, passed on from one place.
pub use Rattle.flow_label.proofs.Common.{◌^◌, sym, subst, ◌≡◌, ◌<◌, ◌≤◌, ◌+◌, ◌∙◌, ◌++◌, ◌-◌, ◌∷◌, [], arith, ap, length, get_or, refl, length-set, node_count, In-get_or, net_of, owner_in, CanTurn, get_or_read, union, take_all, unmarked, ℕ, List, label_at, IsHigh, by_fan_ins, by_lower, FlowValue, ◌/◌, Option, Some, None, Aig, IsNode, Pair, IsLowCut, IfSome, IfOk-weaker, same_pair, IsFlowCut, IsLowerCut, by_join, by_flow, IsWide, IsLowPart, low_at, map, ascending_of, AreWays, Vec, Global, length-map, ArePathsTo, IsNearest, inl, inr, cases_lt, In, IsInner, length-append, IsSearching, vec_len, zeros, length-replicate, set, IsAnd, HasRead, net_at, next_of, map-append, IsSource, Regular, IsWayTo}
pub use Rattle.flow_label.proofs.GraphLemmas.{live_inside, fan_in_below}
pub use Rattle.flow_label.proofs.SearchLemmas.{met_short, search_begun, met_size, popped}
pub use Rattle.flow_label.proofs.LinkLemmas.{IsTurning, owner_set, can_turn, turned, begin, finish, first_links}
pub use Rattle.flow_label.proofs.BarrierLemmas.{cut_more, cut_over, cut_all, kept_more, passed_more, blocked_cut, ends_cut}
pub use Rattle.flow_label.proofs.PartLemmas.{low_labelled, free_labelled, high_labelled, known_to, joined_low}
pub use Rattle.flow_label.proofs.HighLemmas.{ways_show}
pub use Rattle.flow_label.proofs.NearestLemmas.{links_high, ends_few}
pub use Rattle.flow_label.proofs.FloorLemmas.{full_open, full_tight, linked_until, readers_on, ends_on, net_is, full_ground, floor_ground, top_ground, trunks_later, inner_true, inner_false}
pub use Rattle.flow_label.proofs.TrunkLemmas.{proposed_more, proposed_none, proposed_net, proposed_ends, next_are, raised, kept_trunks, known_below}
pub use Rattle.flow_label.proofs.QuestionLemmas.{low_high, barrier_nearest, nearest_answer, nearest_flow}
pub use Rattle.flow_label.proofs.FindLemmas.{blocked, none_left, end_found, end_met, end_there, end_kept, search_smaller}
pub use Rattle.flow_label.proofs.HandLemmas.{inner_owner, queue_small, handed_by_node, found1, extends1, size1, small1, found2, extends2, size2, small2, found3, extends3, size3, searching3, lengths3}
pub use Rattle.flow_label.proofs.StampLemmas.{length_values, values_none, zeros_none, value_here, value_none, values_set}
pub use Rattle.flow_label.proofs.WalkLemmas.{read_both, read_size, walk_all, uppers_short}
pub use Rattle.flow_label.proofs.WayLemmas.{way_start, way_push, on_below, next_above, ways_push, root_source}
