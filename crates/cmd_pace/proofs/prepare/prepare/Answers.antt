use Rattle.cmd_pace.proofs.Common.{subst, event_values, pace_values, Explains, ComesScripted, pace_seen, ScriptedWords, scripted_reading}
use Rattle.cmd_pace.proofs.StartLemmas.{can_pace, ready_for}
use Rattle.cmd_pace.proofs.prepare.prepare.Goals as goal

pub returns-in-Err-clause-err : goal.returns-in-Err-clause-err
returns-in-Err-clause-err g c =
    subst (λ (w : ScriptedWords). Explains (scripted_reading w) (g.S.Shelf.seen c.args.shelf.now) (g.S.Shelf.seen c.read_scripted.new.shelf) c.in-Err.outcome) c.scripted.ensures c.in-Err.ensures.err

pub returns-in-Ok-make_ready-clause-ready : goal.returns-in-Ok-make_ready-clause-ready
returns-in-Ok-make_ready-clause-ready g c =
    let mapped = c.in-Ok.read.mapped in
    let ready = c.in-Ok-make_ready.ready in
    let events = pace_values ready.events.items in
    can_pace (record { source = mapped.source; template = mapped.tables.template; events = events }) ready.pacer c.in-Ok-make_ready.ensures.start.0
    (event_values c.in-Ok.read.events.items) c.in-Ok.ensures.fit events c.in-Ok-make_ready.ensures.events

pub returns-in-Ok-make_ready-clause-prepared : goal.returns-in-Ok-make_ready-clause-prepared
returns-in-Ok-make_ready-clause-prepared g c files told =
    ready_for files (pace_seen c.args.words.now) c.in-Ok.read c.in-Ok-make_ready.ready (subst (λ (w : ScriptedWords). ComesScripted files w c.in-Ok.read) c.scripted.ensures (c.in-Ok.ensures.comes files told))
    c.in-Ok-make_ready.ensures.start c.in-Ok-make_ready.ensures.events
