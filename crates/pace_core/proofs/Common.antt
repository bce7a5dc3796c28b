-- What the proofs of this crate cite of other crates, and its own definitions, passed on from one place.
pub use Rattle.std.proofs.Common.{◌≡◌, ◌⊎◌, ℕ, suc, ◌+◌, ◌-◌, ◌<◌, ◌≤◌, Bool, true, false, not, List, [], ◌∷◌, ◌++◌, length, map, take, replicate, slice_set, refl, sym, ap, ◌∙◌, subst, inl, inr, arith, append-nil, append_assoc, zero, cond, drop, get_or, Some, slice_get, ◌*◌, ◌==◌, nat_le, nat_lt, ◌&&◌, IsTrue, slice_index_or, Option, None, codes, bytes_eq, if◌then◌else◌, length-append, rules}
pub use Rattle.std.proofs.lemmas.Bool.{cases_Bool, false≢true, or_cases, and_parts, leb-true, ltb-true}
pub use Rattle.std.proofs.lemmas.List.{length-set, length-replicate, get_or-set_same, get_or-set_other, take_all, take_at, ext_get_or, length-map, length-drop, drop_all, map-append}
pub use Rattle.std.proofs.lemmas.Option.{none-some, same_Some, slice_get-get_or}
pub use Rattle.std.specs.List.{filter, range_with_len, cons_option}
pub use Rattle.std.specs.Vec.Iter.{into_iter_items}
pub use Rattle.aig_core.specs.Value.{xor, value_of, node_value, FitsGraph}
pub use Rattle.cover_pick.specs.Template.{TemplateValue}
pub use Rattle.list_laws.proofs.Members.{In-filter, in_filter, length-filter_le, In-get, place_in}
pub use Rattle.list_laws.proofs.Places.{same_or, take_get, drop_get}
pub use Rattle.list_laws.specs.Members.{In}
pub use Rattle.lut_sim.specs.Cycle.{IsTableCycle, IsOnlyTableCycle, address, FitsTables}
pub use Rattle.lut_sim.specs.Sim.{SimValue}
pub use Rattle.lut_sim.specs.declared.shape.Shape.{Shape}
pub use Rattle.ppc_pack.specs.Pack.{PackValue, IsConf, HasOneConf, inits_of}
pub use Rattle.run_text.specs.EventValue.{EventValue, Set, Cycle, Upset, Scrub, Image, event_values}
pub use Rattle.spec_core.proofs.AssignLemmas.{none_marked, length-assigned}
pub use Rattle.spec_core.proofs.MarkLemmas.{xor-same, xor-false}
pub use Rattle.spec_core.specs.Differences.{config_bit, differs_at, write_of, differences}
pub use Rattle.tl_io.proofs.BitLemmas.{length-written}
pub use Rattle.tl_io.specs.Writes.{written}
pub use Rattle.tl_io.specs.declared.Assign.{Assign}
pub use Rattle.tl_io.specs.declared.Write.{Write}
pub use Rattle.pace_core.specs.Backlog.{BacklogValue, IsBehind, with_write, IsCaughtUp, IsCatchingUp, AreTurns, IsLate}
pub use Rattle.pace_core.specs.Cost.{IsWithinAsk, IsWithinTick}
pub use Rattle.pace_core.specs.EventValue.{Ask, Tick, PaceValue, pace_of, asks_and_ticks, Fits, pace_value, pace_values}
pub use Rattle.pace_core.specs.Pace.{PacerValue, waited, cycled, IsTicked, steps, waits, asked, IsPaced, IsAsked}
pub use Rattle.pace_core.specs.PaceText.{AreAsksAndTicks, HasOneReading}
pub use Rattle.pace_core.specs.Stalls.{HasStalls, AreTicks, IsStall, IsCycled}
pub use Rattle.pace_core.specs.declared.event.PaceEvent.{PaceEvent}
