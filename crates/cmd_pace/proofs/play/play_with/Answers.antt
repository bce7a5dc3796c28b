use Rattle.cmd_pace.proofs.Common.{◌≤◌, List, [], take, refl, sym, ◌∙◌, subst, inr, arith, take_all, pace_value, pace_values, split_by, more_by, value_has, FitsPacer, HaveShown, shown_line, AreAllPut, put_none, put_more}
use Rattle.machine.specs.Machine.{none}
use Rattle.std.proofs.lemmas.Result.{err_from_is_err_and}
use Rattle.pace_core.specs.declared.event.PaceEvent.{PaceEvent}
use Rattle.cmd_pace.proofs.PlayLemmas.{paced_form, fits_form, then_shown}
use Rattle.cmd_pace.proofs.play.play_with.Goals as goal

pub loop-event-init : goal.loop-event-init
loop-event-init g c = record {
  form = record { pack = refl; shape = refl };
  come = put_none (g.O.Sink.seen c.args.out.now).bytes (record { shown = []; are = none; lines_are = refl });
  later = omega arith;
}

pub step-requires : goal.step-requires
step-requires g c =
    fits_form (pace_value c.event-item.result) c.args.pacer.now c.loop-event.pacer c.loop-event.invariant.form
    (value_has pace_value c.args.events.now c.loop-event.event-index c.event-item.result c.loop-event-test.true c.event-item.is (FitsPacer c.args.pacer.now) c.requires.can_pace)

pub loop-event-preserved : goal.loop-event-preserved
loop-event-preserved g c =
    let events = c.args.events.now in
    let i = c.loop-event.event-index in
    let item = c.event-item.result in
    let first = (g.O.Sink.seen c.args.out.now).bytes in
    let after = (g.O.Sink.seen c.step.new.out).bytes in
    let step = c.in_ok-step.ensures.paced in
    let form = paced_form (pace_value item) c.loop-event.pacer c.step.new.self step.0 step.1 in
    let later : (g.O.Sink.seen c.args.out.now).faults ≤ (g.O.Sink.seen c.loop-event.out).faults = c.loop-event.invariant.later in
    let last : (g.O.Sink.seen c.loop-event.out).faults ≤ (g.O.Sink.seen c.step.new.out).faults = step.2.cause.later in
    record {
      form = record { pack = form.pack ∙ c.loop-event.invariant.form.pack; shape = form.shape ∙ c.loop-event.invariant.form.shape };
      come = subst (λ es. AreAllPut (HaveShown c.args.pacer.now) [] es first c.step.new.self after) (sym (more_by pace_value events i item c.loop-event-test.true c.event-item.is))
          (put_more (shown_line step.0) (λ lines come. then_shown c.args.pacer.now c.loop-event.pacer c.step.new.self (pace_values (take i events)) lines (pace_value item) step.0 come step.1) c.loop-event.invariant.come step.2.grown);
      later = omega (arith, later, last);
    }

pub returns-in_err-step-clause-ends : goal.returns-in_err-step-clause-ends
returns-in_err-step-clause-ends g c =
    let p = err_from_is_err_and c.from_residual.result c.from_residual.ensures.1 in
    let events = c.args.events.now in
    let i = c.loop-event.event-index in
    let step = c.in_err-step.ensures.paced in
    rw (p.1) (inr (record {
      first = pace_values (take i events);
      event = pace_value c.event-item.result;
      split = split_by pace_value events i c.event-item.result c.loop-event-test.true c.event-item.is;
      mid = c.loop-event.pacer;
      whole = (g.O.Sink.seen c.loop-event.out).bytes;
      put = c.loop-event.invariant.come;
      line = shown_line step.0;
      end = c.step.new.self;
      step = record { one = step.0; paced = step.1; line_is = refl };
      part = step.2.grown.0;
      within = step.2.grown.1;
      bytes = step.2.grown.2;
    }))

pub returns-clause-ends : goal.returns-clause-ends
returns-clause-ends g c =
    let now = c.loop-event.pacer in
    let whole = take_all c.loop-event.event-index c.args.events.now c.loop-event-test.false in
    (now, subst (λ (es : List PaceEvent). AreAllPut (HaveShown c.args.pacer.now) [] (pace_values es) (g.O.Sink.seen c.args.out.now).bytes now (g.O.Sink.seen c.loop-event.out).bytes) whole c.loop-event.invariant.come)
