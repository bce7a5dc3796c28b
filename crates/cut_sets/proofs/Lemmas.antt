-- The lemmas that answers cite, passed on from one place.
pub use Rattle.cut_sets.proofs.Common.{◌≡◌, ◌+◌, ℕ, List, length, ap, arith, vec_len, parts_of, ◌<◌, ◌∙◌, sym, get_or_read, row_at, [], get_or, slice_get-get_or, Some, subst, IsAscending, sum_by, ◌++◌, ◌∷◌, signature_of, ◌*◌, ◌≤◌, length-append, IsShort, MOST_LEAVES, MOST_CUTS}
pub use Rattle.cut_sets.proofs.SpanLemmas.{parts_of-count, parts_of-past, starts-bounds, parts_of-at}
pub use Rattle.cut_sets.proofs.RowLemmas.{row_length, cut_read, row_push, row_view, span_at, few_leaves, flat_push, pushed_parts}
