use Rattle.cmd_pack.proofs.Lemmas.{◌≤◌, List, [], take, refl, sym, ◌∙◌, subst, inr, arith, take_all, event_value, event_values, PackValue, bank_seen, FitsPack, IsHostStep, Rose_from, split_by, more_by, value_has, IsOfHost, host_line, AreHostSteps, none, then_host_step, AreAllPut, put_none, put_more, events_cut, fault_rose}
use Rattle.run_text.specs.declared.event.Event.{Event}
use Rattle.cmd_pack.proofs.bits.play.play_with.Goals as goal

pub loop-event-init : goal.loop-event-init
loop-event-init g c = record {
  pack = refl;
  no_ports = c.requires.no_ports;
  come = put_none (g.O.Sink.seen c.args.out.now).bytes none;
  later = omega arith;
}

pub step-requires-clause-fits : goal.step-requires-clause-fits
step-requires-clause-fits g c =
    subst (λ (p : PackValue). FitsPack p (event_value c.event-item.result)) (sym c.loop-event.invariant.pack)
    (value_has event_value c.args.events.now c.loop-event.event-index c.event-item.result c.loop-event-test.true c.event-item.is (FitsPack c.args.host.now.pack) c.requires.can_play.fits)

pub step-requires-clause-host : goal.step-requires-clause-host
step-requires-clause-host g c = value_has event_value c.args.events.now c.loop-event.event-index c.event-item.result c.loop-event-test.true c.event-item.is IsOfHost c.requires.can_play.of_host

pub returns-in-Err-clause-ends : goal.returns-in-Err-clause-ends
returns-in-Err-clause-ends g c =
    let events = c.args.events.now in
    let i = c.loop-event.event-index in
    let item = c.event-item.result in
    let ends = c.in-Err.ensures in
    let of_host = value_has event_value events i item c.loop-event-test.true c.event-item.is IsOfHost c.requires.can_play.of_host in
    inr (events_cut (bank_seen g.P.ConfigPort.port_seen c.loop-event.bank) (bank_seen g.P.ConfigPort.port_seen c.step.new.bank) c.loop-event.invariant.no_ports c.args.host.now c.loop-event.host c.step.new.self (event_values events)
    (event_values (take i events)) (event_value item) (g.O.Sink.seen c.args.out.now).bytes (g.O.Sink.seen c.loop-event.out).bytes (g.O.Sink.seen c.step.new.out).bytes c.in-Err.field-0 (split_by event_value events i item c.loop-event-test.true c.event-item.is)
    c.loop-event.invariant.come (record { of_host = of_host; played = ends.played; steady = ends.steady }) ends.put.grown ends.places)

pub returns-in-Err-clause-cause : goal.returns-in-Err-clause-cause
returns-in-Err-clause-cause g c =
    let first = (g.O.Sink.seen c.args.out.now).faults in
    let mid = (g.O.Sink.seen c.loop-event.out).faults in
    let last = (g.O.Sink.seen c.step.new.out).faults in
    let later : first ≤ mid = c.loop-event.invariant.later in
    let rose = fault_rose (bank_seen g.P.ConfigPort.port_seen c.loop-event.bank) (bank_seen g.P.ConfigPort.port_seen c.step.new.bank) c.loop-event.invariant.no_ports mid last c.in-Err.field-0 c.in-Err.ensures.put.cause c.in-Err.ensures.places in
    let then : mid ≤ last = rose.0 in
    record { later = omega (arith, later, then); failed = Rose_from first mid last later rose.1 }

pub loop-event-preserved : goal.loop-event-preserved
loop-event-preserved g c =
    let events = c.args.events.now in
    let i = c.loop-event.event-index in
    let item = c.event-item.result in
    let first = (g.O.Sink.seen c.args.out.now).bytes in
    let after = (g.O.Sink.seen c.step.new.out).bytes in
    let ends = c.in-Ok.ensures in
    let of_host = value_has event_value events i item c.loop-event-test.true c.event-item.is IsOfHost c.requires.can_play.of_host in
    let step : IsHostStep (event_value item) c.loop-event.host c.step.new.self = record { of_host = of_host; played = ends.played; steady = ends.steady } in
    let later : (g.O.Sink.seen c.args.out.now).faults ≤ (g.O.Sink.seen c.loop-event.out).faults = c.loop-event.invariant.later in
    let last : (g.O.Sink.seen c.loop-event.out).faults ≤ (g.O.Sink.seen c.step.new.out).faults = ends.put.cause in
    record {
      pack = ends.played.pack ∙ c.loop-event.invariant.pack;
      no_ports = ends.places.serving ∙ c.loop-event.invariant.no_ports;
      come = subst (λ es. AreAllPut (AreHostSteps c.args.host.now) [] es first c.step.new.self after) (sym (more_by event_value events i item c.loop-event-test.true c.event-item.is))
          (put_more (host_line (event_value item) c.step.new.self) (λ lines steps. then_host_step (event_value item) steps step) c.loop-event.invariant.come ends.put.grown);
      later = omega (arith, later, last);
    }

pub returns-clause-ends : goal.returns-clause-ends
returns-clause-ends g c =
    let now = c.loop-event.host in
    let whole = take_all c.loop-event.event-index c.args.events.now c.loop-event-test.false in
    (now, subst (λ (es : List Event). AreAllPut (AreHostSteps c.args.host.now) [] (event_values es) (g.O.Sink.seen c.args.out.now).bytes now (g.O.Sink.seen c.loop-event.out).bytes) whole c.loop-event.invariant.come)
