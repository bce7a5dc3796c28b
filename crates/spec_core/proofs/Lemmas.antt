-- The lemmas that answers cite, passed on from one place.
pub use Rattle.spec_core.proofs.Common.{◌≡◌, Bool, true, false, not, cond, List, [], ◌∷◌, ◌++◌, length, map, slice_set, sym, ap, ◌∙◌, arith, append-nil, filter, range_with_len, get_or_read, get_or-set_other, xor, DeviceValue, config_bit, differs_at, write_of, bits_under, length-written, length-append, append_assoc, length-set, is_marked, writes_where, EvaluationValue, ◌*◌, ◌<◌, get_or, slice_get-get_or, In-get_or, Lit, node_count, value_of, subst, FitsGraph, PackValue, ReadersValue, Belong, IsSweeping, IsSwept, replicate, IsAnd, IsNode, node_at, product_of}
pub use Rattle.spec_core.proofs.StoreLemmas.{written-push, writes_few, one_more, test_differs, least_written, fewer_left, none_written, Belong-written}
pub use Rattle.spec_core.proofs.SweepLemmas.{length-bits_under, addresses_only, bit_of, Belong-idle, change_done, visited, IsSweeping-more, swept}
