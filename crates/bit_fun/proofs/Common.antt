-- What the proofs of this crate cite of other crates, and its own definitions, passed on from one place.
pub use Rattle.std.proofs.Common.{Bool, List, None, Option, Some, [], ap, append-nil, append_assoc, arith, cond, drop, eqb, false, get_or, get_or-set_other, get_or-set_same, inl, inr, leb, length, length-append, ltb, map, max, min, not, refl, replicate, reverse, slice_set, subst, suc, sym, take, true, zero, ℕ, ◌%◌, ◌&&◌, ◌*◌, ◌++◌, ◌+◌, ◌-◌, ◌/◌, ◌<◌, ◌^◌, ◌∙◌, ◌∷◌, ◌≡◌, ◌≤◌, ◌⊎◌, ◌||◌, rules}
pub use Rattle.std.proofs.Math.ListN.{get_or-append, length-set}
pub use Rattle.std.proofs.Math.Nat.{add-mul, mul-add, mul-le-mul_left, mul-one, one-mul}
pub use Rattle.std.proofs.lemmas.Bool.{and_from, cases_lt, cond-false, cond-true, le-leb, le-ltb, leb-false, leb-true, lt-ltb, or_left, or_right, true≢false}
pub use Rattle.std.proofs.lemmas.List.{ext_get_or, get_or-append-add, get_or-map, length-map, length-replicate, length-reverse}
pub use Rattle.std.proofs.lemmas.List.Sums.{sum_by-cons}
pub use Rattle.std.proofs.lemmas.Option.{get_or_from_slice_get, none-some, same_Some, slice_get-get_or, slice_get_past, slice_get_within}
pub use Rattle.std.specs.List.{position, slice_get}
pub use Rattle.aig_core.proofs.FitLemmas.{behind_constant, is_values_of}
pub use Rattle.aig_core.proofs.GrowthLemmas.{Extends, Extends-refl, Extends-trans, and_again, and_grows, length-Extends}
pub use Rattle.aig_core.proofs.NodeLemmas.{node_at, node_normal}
pub use Rattle.aig_core.proofs.ProductLemmas.{AreBase, AreBase-sources, Makes, Makes-and, complement-below, value_of-complement, value_of-more}
pub use Rattle.aig_core.proofs.ValueExample.{multiplexer, pair}
pub use Rattle.bit_fun.specs.Words.{Aig, AreNormal, IsNode, IsNormal, IsSource, first_and, node_count, pair_of, Answer, and_in_order, complement, found_or_new, is_pair, product_of, with_pairs, FitsGraph, in_phase, node_value, value_of, xor, Kind, Parameter, Regular, Lit, Pair, is_stop, HaveBases, IsMapping, IsTableOf, bits_of, free, node, source, IsInner, IsFree, free_constant, free_parameter, free_product, AreOwn, IsTableWork, IsOwnWork, AreShared, IsWork, once_by, IsLight, IsMakeable, mark_of, AreFree, Path, path_here, path_left, path_right, Lut, Blocks, CanBeLeaf, constant, blocks_constant, fan_ins, member, parameter, blocks_parameter, Posts, PostsAll, Way, leads, more, nodes_of, none, posts, skips, stops, AreNodes, successors, ways_from, ways_of, bit_value, digit, number, In, IsAscending, Shape, Param, IsConf, IsPack, PackValue, PackParam}
pub use Rattle.cover_pick.proofs.BitsLemmas.{base_within, bits_worked}
pub use Rattle.cover_pick.proofs.WorkLemmas.{inner_stop, node_inside, stop_inner}
pub use Rattle.depth_first.proofs.FallLemmas.{LeadsBelow, falls_through}
pub use Rattle.depth_first.specs.Reach.{IsReached, Reaches, here, through}
pub use Rattle.depth_first.specs.Walk.{Visited, WalkValue}
pub use Rattle.list_laws.specs.Order.{IsDescending}
pub use Rattle.list_laws.proofs.Choice.{choose, choose_one}
pub use Rattle.list_laws.proofs.Members.{In-append, In-get, In-get_or, in_or, place_in, In-left, In-right, In-filter, in_filter, length-filter_le}
pub use Rattle.list_laws.proofs.Places.{at_within, same_or}
pub use Rattle.lut_sim.proofs.SourceLemmas.{IsInputOrLatch, either_side, input, latch}
pub use Rattle.lut_sim.specs.Sources.{is_regular, last_source, source_value}
pub use Rattle.bit_fun.specs.BitFunction.{NodeBit, IsBit, HasOneBit}
pub use Rattle.bit_fun.specs.ConeFunctions.{PassValue, lit_of, fan_in, pass_over, with_leaves, HaveSourceLits, HaveLeafLits, IsMadeOver, IsTableIn, IsConeOrder, IsBetween, IsBitMade, AreBitsMade, AreTablesMadeTo, made_node, AreLits, cone_next, Visits, passed, walked, with_made, cone_edges, fan_in_edges, HaveSourceLitsTo, with_marks, ends_at, Stands, AreKept, HasRoom, HasAllTables, IsGrown, IsBitReady, AreMarked, AreCounted, waiting, IsCountedWork, IsTableWithin}
pub use Rattle.bit_fun.specs.Configuration.{IsConfiguration, IsMapped, HasOneConfiguration, IsLawful}
pub use Rattle.bit_fun.specs.PackOf.{MakesTables, BitsMade, pack_param, IsPackOf, HasOnePack}
pub use Rattle.bit_fun.specs.Parameters.{IsParam, param_count}
pub use Rattle.cover_pick.proofs.FreeLemmas.{free_apart}
pub use Rattle.list_laws.proofs.Apart.{AreApart, apart_short, joined_apart, filtered_apart}
pub use Rattle.list_laws.proofs.Reversed.{in_reversed, reversed_in}
