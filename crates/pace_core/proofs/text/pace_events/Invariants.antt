use Rattle.pace_core.proofs.Common.{◌≡◌, ◌++◌, into_iter_items, event_values, pace_values, asks_and_ticks}
use Rattle.pace_core.proofs.text.pace_events.Given as goal

abbrev pub invariant-loop-event : goal.invariant-loop-event
invariant-loop-event l = pace_values l.events.items ++ asks_and_ticks (event_values (into_iter_items l.event-iterator)) ≡ asks_and_ticks (event_values l.fn.read.items)
