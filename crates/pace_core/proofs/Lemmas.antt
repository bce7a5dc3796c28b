-- The lemmas that answers cite, passed on from one place.
pub use Rattle.pace_core.proofs.Common.{◌≡◌, false, List, length, take, sym, ap, ◌∙◌, subst, arith, slice_get-get_or, Write, written, differences, IsBehind, length-append, BacklogValue, ◌<◌, ◌-◌, ◌++◌, [], ◌∷◌, length-set, IsCaughtUp, ◌+◌, refl, AreTurns, IsWithinAsk, PacerValue, TemplateValue, SimValue, Bool, Assign, IsConf, PaceEvent, pace_value, asked, IsAsked, IsPaced, IsWithinTick, IsTicked, waited, cycled, HasStalls}
pub use Rattle.pace_core.proofs.DifferenceLemmas.{all_written, written-next, next_within, next_other, differences_few}
pub use Rattle.pace_core.proofs.StallLemmas.{catching_more, empty_waits, mark_sent, turn_waits, turn_has_room, one_behind_less, one_behind_more}
pub use Rattle.pace_core.proofs.KeepLemmas.{writes_turn, asked_behind, asked_keeps, ask_within, made_keeps, waits_for, tick_steps, tick_waits, tick_within, cycle_within, keeps_stalls}
