use Rattle.cmd_run.proofs.Lemmas.{◌≡◌, List, [], take, refl, sym, ◌∙◌, subst, take_all, Event, event_value, event_values, FitsPack, FitsShape, Totals, none, more_by, total_more, still_fits, next_fits}
use Rattle.cmd_run.proofs.gen_command.play.play_with.Goals as goal

pub loop-event-init : goal.loop-event-init
loop-event-init g c = record { pack = refl; shape = refl; totals = record { shown = []; passes = none } }

pub play-requires-clause-pack : goal.play-requires-clause-pack
play-requires-clause-pack g c = still_fits c.args.events.now c.loop-event.event-index c.event-item.result c.loop-event-test.true c.event-item.is FitsPack c.loop-event.invariant.pack c.requires.can_play.pack

pub play-requires-clause-shape : goal.play-requires-clause-shape
play-requires-clause-shape g c = still_fits c.args.events.now c.loop-event.event-index c.event-item.result c.loop-event-test.true c.event-item.is FitsShape c.loop-event.invariant.shape c.requires.can_play.shape

pub loop-event-preserved : goal.loop-event-preserved
loop-event-preserved g c =
    let events = c.args.events.now in
    let i = c.loop-event.event-index in
    let item = c.event-item.result in
    let played = c.play.ensures.played in
    let new = c.with_event-totals.result in
    record {
      pack = played.host.pack ∙ c.loop-event.invariant.pack;
      shape = played.shape ∙ c.loop-event.invariant.shape;
      totals = subst (λ es. Totals c.args.machine.now es new.writes new.total c.play.new.self) (sym (more_by event_value events i item c.loop-event-test.true c.event-item.is))
          (total_more c.play.new.self (event_value item) new.writes new.total c.loop-event.invariant.totals played c.with_event-totals.ensures.writes c.with_event-totals.ensures.total);
    }

pub with_event-totals-requires-clause-writes : goal.with_event-totals-requires-clause-writes
with_event-totals-requires-clause-writes g c =
    let i = c.loop-event.event-index in
    (next_fits c.args.machine.now c.args.events.now i c.event-item.result c.requires.small c.loop-event-test.true c.play.new.self c.loop-event.invariant.totals c.play.ensures.played).0

pub with_event-totals-requires-clause-total : goal.with_event-totals-requires-clause-total
with_event-totals-requires-clause-total g c =
    let i = c.loop-event.event-index in
    (next_fits c.args.machine.now c.args.events.now i c.event-item.result c.requires.small c.loop-event-test.true c.play.new.self c.loop-event.invariant.totals c.play.ensures.played).1

pub returns : goal.returns
returns g c =
    let events = c.args.events.now in
    let totals = c.loop-event.totals in
    let whole : take c.loop-event.event-index events ≡ events = take_all c.loop-event.event-index events c.loop-event-test.false in
    subst (λ (es : List Event). Totals c.args.machine.now (event_values es) totals.writes totals.total c.loop-event.machine) whole c.loop-event.invariant.totals
