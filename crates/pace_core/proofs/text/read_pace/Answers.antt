use Rattle.pace_core.proofs.Common.{List, sym, subst, event_values, PaceValue, pace_values, AreAsksAndTicks}
use Rattle.pace_core.proofs.PaceTextLemmas.{script_paced, events_fit, one_pace_reading}
use Rattle.pace_core.proofs.text.read_pace.Goals as goal

pub returns-in_err-read-clause-one_reading : goal.returns-in_err-read-clause-one_reading
returns-in_err-read-clause-one_reading c = one_pace_reading c.args.names.now c.args.text.now c.requires.forms

pub returns-in_err-events-clause-one_reading : goal.returns-in_err-events-clause-one_reading
returns-in_err-events-clause-one_reading c = one_pace_reading c.args.names.now c.args.text.now c.requires.forms

pub returns-clause-one_reading : goal.returns-clause-one_reading
returns-clause-one_reading c = one_pace_reading c.args.names.now c.args.text.now c.requires.forms

pub returns-clause-events : goal.returns-clause-events
returns-clause-events c =
    let read = event_values c.in_ok-read.read.items in
    record {
      read = read;
      is = c.in_ok-read.ensures.events;
      are = subst (λ (es : List PaceValue). AreAsksAndTicks read es) (sym c.in_ok-events.ensures) (script_paced c.args.names.now c.args.text.now read c.requires.forms c.in_ok-read.ensures.events);
    }

pub returns-clause-fit : goal.returns-clause-fit
returns-clause-fit c = λ width wide.
    let read = event_values c.in_ok-read.read.items in
    events_fit c.args.names.now width read (pace_values c.in_ok-events.events.items) wide
    (subst (λ (es : List PaceValue). AreAsksAndTicks read es) (sym c.in_ok-events.ensures) (script_paced c.args.names.now c.args.text.now read c.requires.forms c.in_ok-read.ensures.events)) c.in_ok-read.ensures.fit
