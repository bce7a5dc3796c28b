use Rattle.cmd_run.proofs.Lemmas.{◌≤◌, List, [], take, refl, sym, ◌∙◌, subst, arith, take_all, Event, event_value, event_values, bank_seen, FitsPack, FitsShape, Stage, IsStep, split_by, more_by, event_line, then_step, none, AreSteps, AreAllPut, put_none, put_more, still_fits, events_end}
use Rattle.std.proofs.lemmas.Result.{err_from_is_err_and}
use Rattle.cmd_run.proofs.run.play.play_with.Goals as goal

pub loop-event-init : goal.loop-event-init
loop-event-init g c = record {
  pack = refl;
  shape = refl;
  holds = c.requires.holds;
  come = put_none (g.O.Sink.seen c.args.out.now).bytes none;
  later = omega arith;
}

pub step-requires-clause-pack : goal.step-requires-clause-pack
step-requires-clause-pack g c = still_fits c.args.events.now c.loop-event.event-index c.event-item.result c.loop-event-test.true c.event-item.is FitsPack c.loop-event.invariant.pack c.requires.can_play.pack

pub step-requires-clause-shape : goal.step-requires-clause-shape
step-requires-clause-shape g c = still_fits c.args.events.now c.loop-event.event-index c.event-item.result c.loop-event-test.true c.event-item.is FitsShape c.loop-event.invariant.shape c.requires.can_play.shape

pub returns-in_err-step-clause-ends : goal.returns-in_err-step-clause-ends
returns-in_err-step-clause-ends g c =
    let p = err_from_is_err_and c.from_residual.result c.from_residual.ensures.1 in
    let events = c.args.events.now in
    let i = c.loop-event.event-index in
    let item = c.event-item.result in
    let start : Stage = record { machine = c.args.machine.now; bank = bank_seen g.P.ConfigPort.port_seen c.args.bank.now } in
    let mid : Stage = record { machine = c.loop-event.machine; bank = bank_seen g.P.ConfigPort.port_seen c.loop-event.bank } in
    let new : Stage = record { machine = c.step.new.self; bank = bank_seen g.P.ConfigPort.port_seen c.step.new.bank } in
    let ends = c.in_err-step.ensures in
    rw (p.1, p.2) (events_end start mid new (event_values events) (event_values (take i events)) (event_value item) (g.O.Sink.seen c.args.out.now).bytes (g.O.Sink.seen c.loop-event.out).bytes (g.O.Sink.seen c.step.new.out).bytes c.in_err-step.field-0.0
    (split_by event_value events i item c.loop-event-test.true c.event-item.is) c.loop-event.invariant.come
    (record { played = ends.played; steady = ends.steady; sent = ends.sent; put = ends.put.grown; left = ends.left; places = ends.places; held = c.loop-event.invariant.holds; holds = ends.holds }))

pub loop-event-preserved : goal.loop-event-preserved
loop-event-preserved g c =
    let events = c.args.events.now in
    let i = c.loop-event.event-index in
    let item = c.event-item.result in
    let start : Stage = record { machine = c.args.machine.now; bank = bank_seen g.P.ConfigPort.port_seen c.args.bank.now } in
    let mid : Stage = record { machine = c.loop-event.machine; bank = bank_seen g.P.ConfigPort.port_seen c.loop-event.bank } in
    let new : Stage = record { machine = c.step.new.self; bank = bank_seen g.P.ConfigPort.port_seen c.step.new.bank } in
    let first = (g.O.Sink.seen c.args.out.now).bytes in
    let after = (g.O.Sink.seen c.step.new.out).bytes in
    let ends = c.in_ok-step.ensures in
    let holds = ends.holds c.loop-event.invariant.holds in
    let step : IsStep (event_value item) mid new = record { played = ends.played; steady = ends.steady; sent = ends.sent; becomes = ends.left; places = ends.places; holds = holds } in
    let last : (g.O.Sink.seen c.loop-event.out).faults ≤ (g.O.Sink.seen c.step.new.out).faults = ends.put.cause in
    record {
      pack = ends.played.host.pack ∙ c.loop-event.invariant.pack;
      shape = ends.played.shape ∙ c.loop-event.invariant.shape;
      holds = holds;
      come = subst (λ es. AreAllPut (AreSteps start) [] es first new after) (sym (more_by event_value events i item c.loop-event-test.true c.event-item.is))
          (put_more (event_line (event_value item) new.machine) (λ lines steps. then_step (event_value item) steps step) c.loop-event.invariant.come ends.put.grown);
      later = omega (arith, c.loop-event.invariant.later, last);
    }

pub returns-clause-ends : goal.returns-clause-ends
returns-clause-ends g c =
    let seen = g.P.ConfigPort.port_seen in
    let start : Stage = record { machine = c.args.machine.now; bank = bank_seen seen c.args.bank.now } in
    let now : Stage = record { machine = c.loop-event.machine; bank = bank_seen seen c.loop-event.bank } in
    let whole = take_all c.loop-event.event-index c.args.events.now c.loop-event-test.false in
    record {
      stage = now;
      put = subst (λ (es : List Event). AreAllPut (AreSteps start) [] (event_values es) (g.O.Sink.seen c.args.out.now).bytes now (g.O.Sink.seen c.loop-event.out).bytes) whole c.loop-event.invariant.come;
      bank = refl;
    }
