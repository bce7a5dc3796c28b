-- The lemmas that answers cite, passed on from one place.
pub use Rattle.cut_enum.proofs.Common.{◌++◌, ℕ, List, sym, subst, err_from_is_err_and, In, In-get_or, add_holder, add_holders, add_unions, add_pairs, ◌≡◌, ◌<◌, ◌∙◌, length, map, get_or, ap, arith, bit_or, count_ones, add_union, signature_of, ◌≤◌, suc, unions_at, unions_below, merged, ◌+◌, [], leading, insert, before, ◌-◌, ◌/◌, row_at, unions_of, AreShared, ◌^◌, AllHave, NoneClear, ◌*◌, false, slice_range, list_any, GROUP, subset, contains_one}
pub use Rattle.cut_enum.proofs.RowLemmas.{too_many_more, front_apart_at, IsRow-node, limit_node, too_many_limit, AreRows-push}
pub use Rattle.cut_enum.proofs.StepLemmas.{holders_step, pairs_step, unions_pass, unions_step, holders_at, left_holders_at}
pub use Rattle.cut_enum.proofs.SignedLemmas.{signed_length, signed_head, signed_range, signed_rest}
pub use Rattle.cut_enum.proofs.LeastLemmas.{sizes_step, left_clear_at, right_clear_at}
pub use Rattle.cut_enum.proofs.PlaceLemmas.{cut_there, put_there, place-there, place-insert, upper_half, lower_half}
pub use Rattle.cut_enum.proofs.SharedLemmas.{share_head, none_have}
pub use Rattle.cut_enum.proofs.GroupLemmas.{none_clear, group_passed, group_length}
