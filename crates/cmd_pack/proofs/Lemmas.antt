-- The lemmas that answers cite, passed on from one place.
pub use Rattle.cmd_pack.proofs.Common.{unbegun_ends, bits_seen, bits_walk, ap, ◌∙◌, event_values, extended, ◌≤◌, List, [], take, refl, sym, subst, inr, arith, take_all, event_value, PackValue, bank_seen, FitsPack, IsHostStep, Rose_from, split_by, more_by, value_has, IsOfHost, host_line, AreHostSteps, none, then_host_step, AreAllPut, put_none, put_more, bits_reading, Explains_from, memory_ends, only_read, repack_seen, repack_walk, ◌∷◌, present_text, line_ends, pack_header}
pub use Rattle.cmd_pack.proofs.BitsPlayLemmas.{bits_ends, rose_later, play_end, events_cut, fault_rose, can_play, ready_for}
pub use Rattle.cmd_pack.proofs.RepackLemmas.{bits_laws, repack_laws, repack_ends, passed_cut}
