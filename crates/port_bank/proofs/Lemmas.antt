-- The lemmas that answers cite, passed on from one place.
pub use Rattle.port_bank.proofs.Common.{true, false, ◌∙◌, err_from_is_err_and, sym, arith, map, length-map, ◌<◌, take, length, ap, refl, writes_from, bank_seen, ℕ, Bool, List, get_or, drop_more, In-get_or, Write, slice_get_within, AreBitsOf}
pub use Rattle.port_bank.proofs.SendLemmas.{fills_more, fills_all, fills_breaks, at_place, inside_bits, past_bits, broken_more, mends_now, mends_never, on_ok_at, on_err_at, sends_none, sends_more, sends_lost, sends_all, length-writes_from, steps_accepted, steps_mended, steps_lost}
pub use Rattle.port_bank.proofs.FilterLemmas.{parts_joined, serving_count, left_here, ascend_from}
pub use Rattle.port_bank.proofs.RegionLemmas.{wide, has_port}
pub use Rattle.port_bank.proofs.PlayLemmas.{sent_in_bank, lost_in_bank, no_port}
