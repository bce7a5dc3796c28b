use Rattle.pace_core.proofs.Common.{List, [], ◌∷◌, ◌++◌, sym, ap, ◌∙◌, append_assoc, cons_option, map-append, into_iter_items, event_values, PaceEvent, PaceValue, pace_value, pace_values, asks_and_ticks}
use Rattle.run_text.specs.declared.event.Event.{Event}
use Rattle.pace_core.proofs.text.pace_events.Goals as goal

pub loop-event-init : goal.loop-event-init
loop-event-init c =
    ap (λ (es : List PaceEvent). pace_values es ++ asks_and_ticks (event_values (into_iter_items c.into_iter-event-iterator.result))) c.in_ok-events.ensures.items
    ∙ ap (λ (es : List Event). asks_and_ticks (event_values es)) c.into_iter-event-iterator.ensures.into_iter_gives.0

pub loop-event-preserved-in-Continue-branch-2 : goal.loop-event-preserved-in-Continue-branch-2
loop-event-preserved-in-Continue-branch-2 c =
    let done = pace_values c.loop-event.events.items in
    let left = asks_and_ticks (event_values (into_iter_items c.next.new.self)) in
    let pace = c.in-Some-pace_event.event in
    ap (λ (es : List PaceEvent). pace_values es ++ left) c.in_ok-push.ensures.items
    ∙ ap (λ (ps : List PaceValue). ps ++ left) (map-append pace_value c.loop-event.events.items (pace ∷ []))
    ∙ append_assoc done (pace_value pace ∷ []) left
    ∙ ap (λ o. done ++ cons_option o left) c.in-Some-pace_event.ensures
    ∙ ap (λ (es : List Event). done ++ asks_and_ticks (event_values es)) (sym c.in-Some.ensures.steps.0)
    ∙ c.loop-event.invariant
