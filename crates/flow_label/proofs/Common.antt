-- What the proofs of this crate cite of other crates, and its own definitions, passed on from one place.
pub use Rattle.std.proofs.Common.{Bool, List, None, Option, Some, [], ap, arith, cond, eqb, false, get_or, get_or-set_other, get_or-set_same, inl, inr, length, length-append, length-set, ltb, map, refl, set, subst, suc, sym, take, true, zero, ℕ, ◌++◌, ◌+◌, ◌-◌, ◌/◌, ◌<◌, ◌^◌, ◌∙◌, ◌∷◌, ◌≡◌, ◌≤◌, ◌⊎◌, rules, max, ◌≢◌, ◌*◌, append-nil, drop, not, Vec, Global}
pub use Rattle.std.proofs.Math.ListN.{get_or-append}
pub use Rattle.std.proofs.lemmas.Bool.{cases_Bool, cases_eq, cases_lt, eqb-false, eqb-true, ltb-false, ltb-true, not-true, cases_order, false≢true}
pub use Rattle.std.proofs.lemmas.List.{length-replicate, get_or_past, get_or_push, get_or_read, map-append, take_all, length-map}
pub use Rattle.std.proofs.lemmas.Option.{none-some, same_Some, slice_get-get_or, slice_get_within}
pub use Rattle.std.specs.Prelude.{slice_get, filter, IfSome, IfOk, MatchOption}
pub use Rattle.std.specs.Vec.{vec_len}
pub use Rattle.aig_core.proofs.NodeLemmas.{node_at, source_below, same_pair, node_normal}
pub use Rattle.aig_core.specs.Aig.{Aig, AreNormal, IsAnd, IsNode, IsSource, first_and, node_count}
pub use Rattle.aig_core.specs.declared.lit.Kind.TheVariants.{Parameter, Regular}
pub use Rattle.aig_core.specs.declared.lit.Pair.{Pair}
pub use Rattle.cut_sets.specs.Paths.{Climbs, IsFanIn, IsPath, first, second, ArePathsTo}
pub use Rattle.cut_sets.specs.Cuts.{Blocks, CanBeLeaf, IsCut, constant, fan_ins, member, parameter}
pub use Rattle.cut_sets.specs.Labels.{height, label_at, AreLeastHeights}
pub use Rattle.list_laws.proofs.Apart.{AreApart, apart_once, apart_short, joined_apart, pushed_apart, filtered_apart}
pub use Rattle.list_laws.proofs.Choice.{choose}
pub use Rattle.list_laws.proofs.Members.{In-append, In-get_or, In-left, In-map, In-place, In-push, In-right, from_map, place_in, In-filter, in_filter, in_or}
pub use Rattle.list_laws.proofs.Places.{get_pushed, drop_get, drop_past}
pub use Rattle.list_laws.specs.Members.{In, Within}
pub use Rattle.list_laws.specs.Order.{IsAscending}
pub use Rattle.cut_sets.specs.Unions.{union, put}
pub use Rattle.flow_label.specs.Barriers.{ascending_of, unmarked, IsLowCut, IsHigh, IsBarrier}
pub use Rattle.flow_label.specs.Value.{IsLive, AreKnownTo, FlowValue, label_of, low_cut_of, AreLowCuts, HasOneLabelling}
pub use Rattle.flow_label.specs.Links.{IsChoice, HasChosen, IsLinked, AreRouted, first_owner, owner_in, AreLinks, IsUpdated, AreStarts, AreWays, low, next_of, IsOnWay, upper, PathPasses, start, onward, IsWayTo, AreWaysTo}
pub use Rattle.flow_label.specs.Net.{FlowNet, IsLow, IsInner, IsUpper, IsEnd, IsNet, IsOpen, IsRoot, net_on, is_linked, SiteValue, net_of, is_inner, AreEnds, net_at, AreReaders, IsMet}
pub use Rattle.flow_label.specs.Search.{IsHandedOn, ComesFrom, AreMet, ArePassed, IsSearching, Extends, IsFound, IsBlocked, IsTight, CanTurn, HasMet}
pub use Rattle.flow_label.specs.Trunks.{AreIndependent, IsLinkedAt, AreTrunks, IsGround, AreNext, IsStretched}
pub use Rattle.flow_label.specs.Stamps.{zeros, counted, values_at}
pub use Rattle.flow_label.specs.Walks.{HasRead, IsWalked}
pub use Rattle.std.proofs.lemmas.List.Filters.{length-filter_both}
pub use Rattle.cut_sets.proofs.SetLemmas.{In-union, union_left, IsAscending-union, put_at, union_right}
pub use Rattle.flow_label.specs.LowCuts.{IsFlowCut, by_walk, by_search, by_join, by_flow, IsLowWith, by_fan_ins, by_lower, HasLowWith, AreLowsTo, IsLowerCut}
pub use Rattle.flow_label.specs.Lows.{IsDeep, top, down, IsEndOf, AreEndsOf, IsNearest, IsJoin, AreLowsOf, IsWide}
pub use Rattle.cut_sets.proofs.PickLemmas.{paths_high}
pub use Rattle.cut_sets.proofs.BlockLemmas.{Blocks-within, decide_blocks, regular_blocked}
pub use Rattle.cut_sets.proofs.HeightLemmas.{height_same, height_bound, height_le, height_member, height_none}
pub use Rattle.cut_sets.proofs.LeastHeightLemmas.{least_heights_once, fan_in_low, least_depths}
pub use Rattle.flow_label.specs.Labelled.{IsLabelled, AreLabelledTo}
pub use Rattle.flow_label.specs.Parts.{low_at, IsLowPart}
pub use Rattle.cut_sets.proofs.AscendingLemmas.{same_within}
pub use Rattle.flow_label.specs.Scratch.{HasRoom, IsScratch}
pub use Rattle.std.proofs.lemmas.Result.{IfOk-weaker}
pub use Rattle.flow_label.specs.Memory.{HasMarks, Searches, KeepsMarks, HasWalked, HasTrunks, AreProposed, HasProposed, KeepsTrunks}
