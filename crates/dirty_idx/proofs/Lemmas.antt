-- The lemmas that answers cite, passed on from one place.
pub use Rattle.dirty_idx.proofs.Common.{◌≡◌, ℕ, ◌+◌, ◌-◌, length, List, [], sym, ap, ◌∙◌, subst, arith, length-replicate, AreOf, AreFilled, lists_of, ◌<◌, ◌≤◌, get_or, slice_range, get_or_read, set, take, take_more, length-take, In-get_or, Reading, AreCounted, ◌^◌, count_below, AreSummed, node_count, bit_readings, first_and, MatchOption, IsLeast, IsEmpty, ◌/◌}
pub use Rattle.dirty_idx.proofs.CountLemmas.{filled_none, are_lists, are_parts, start_within, part_read, counted_none, counted_more, counted_few, below_first, below_few, summed_none, summed_more, total_more}
pub use Rattle.dirty_idx.proofs.ReadLemmas.{bits_below, readers_made, nodes_below, length-node_readings}
pub use Rattle.dirty_idx.proofs.MarkLemmas.{least_marks, empty_marks, word_within, mark_set, put_marks, kept_taken}
