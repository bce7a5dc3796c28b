-- The lemmas that answers cite, passed on from one place.
pub use Rattle.bit_fun.proofs.Common.{◌≡◌, ◌∙◌, ◌≤◌, ℕ, List, length, length-reverse, subst, sym, ap, In, with_leaves, AreLits, IsGrown, node_count, IsInner, successors, AreNodes, WalkValue, cone_edges, ◌^◌, refl, arith, ◌/◌, reverse, IsConeOrder, AreMarked, AreBitsMade, with_marks, in_reversed, ◌+◌, ◌++◌, Bool, false, length-replicate, ◌∷◌, drop, take, mark_of, AreFree, Lit, Lut, HasRoom, IsTableWithin, IsBetween, AreTablesMadeTo, Some}
pub use Rattle.bit_fun.proofs.ConeFunctionLemmas.{lits_stay, leaf_inside, bit_made, no_bits, one_bit_more, bits_grown, first_made, bits_on, no_tables, none_kept, one_table_more, table_room, written_back, count_few, regular_source, parameter_source}
pub use Rattle.bit_fun.proofs.ConeWalkLemmas.{cone_order, cone_nodes, ends_inner, walked_order}
pub use Rattle.bit_fun.proofs.RoomLemmas.{bit_room, first_room, rest_room, table_within, count_work}
pub use Rattle.bit_fun.proofs.MarkLemmas.{order_inside, order_marked, clear_marks}
