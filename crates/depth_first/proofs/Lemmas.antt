-- The lemmas that answers cite, passed on from one place.
pub use Rattle.depth_first.proofs.Common.{◌<◌, length, sym, ap, ◌∙◌, subst, FramesValue, renewed, refl, inl, In, renewed_since, reverse, ◌+◌, drop, get_or, drop_past, path_of, seen, Some, HasGrown, IsGoing, Ran, None, AreKept, advanced, IsEdgeWithin, Followed, Stepped, VisitedAll, Visited, WalkValue, take, from_node, rules}
pub use Rattle.depth_first.proofs.ClearLemmas.{first_within, forget_step, first_others, with_count, cleared_fits, cleared_seen}
pub use Rattle.depth_first.proofs.BackLemmas.{renew_within, renew_step, shorten, take_back_is, grown_none, grown_on, grown_entered, grown_finished, grown_advanced, grown_followed, went_back}
pub use Rattle.depth_first.proofs.VisitLemmas.{can_go_on, kept_same, kept_more, start_going, visited_done, visited_ran, later_none, later_step, no_path}
pub use Rattle.depth_first.proofs.PathLemmas.{path_more, path_all, from_here, from_before}
