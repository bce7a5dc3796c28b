-- The lemmas that answers cite, passed on from one place.
pub use Rattle.tlut_host.proofs.Common.{◌≡◌, ℕ, ◌+◌, suc, Bool, false, List, take, ap, ◌∙◌, arith, slice_index_or, slice_set, set_length, copied_plain, Write, bit_write, copied, BitWrite, length, sym, subst, AreAssigned, Assign, map, PacedValue, IsRequest, IsAsk, settings_status, assign_of, [], replicate, refl, PackValue, made_keeps, eqb, IsTick, IsWithinTouched, AreTurns, writes_turn, asked_behind, asked_keeps}
pub use Rattle.tlut_host.proofs.SettingLemmas.{copied_next, copied_whole, settings_fit}
pub use Rattle.tlut_host.proofs.PacedLemmas.{seen, asked, no_circuit, pacing_of, ticked, keeps_of}
