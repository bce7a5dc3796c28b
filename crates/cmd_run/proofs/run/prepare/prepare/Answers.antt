use Rattle.cmd_run.proofs.Lemmas.{subst, Explains, ComesScripted, run_seen, ScriptedWords, scripted_reading, ready_for, can_play_ready}
use Rattle.cmd_run.proofs.run.prepare.prepare.Goals as goal

pub returns-in-Err-clause-err : goal.returns-in-Err-clause-err
returns-in-Err-clause-err g c =
    subst (λ (w : ScriptedWords). Explains (scripted_reading w) (g.S.Shelf.seen c.args.shelf.now) (g.S.Shelf.seen c.read_scripted.new.shelf) c.in-Err.outcome) c.scripted.ensures c.in-Err.ensures.err

pub returns-in-Ok-make_ready-clause-ready : goal.returns-in-Ok-make_ready-clause-ready
returns-in-Ok-make_ready-clause-ready g c =
    let made = c.in-Ok-make_ready in
    can_play_ready c.in-Ok.read made.ready made.ensures.start made.ensures.events c.in-Ok.ensures.tables.least.mapping.sum c.in-Ok.ensures.fit

pub returns-in-Ok-make_ready-clause-prepared : goal.returns-in-Ok-make_ready-clause-prepared
returns-in-Ok-make_ready-clause-prepared g c files told =
    let made = c.in-Ok-make_ready in
    ready_for c.in-Ok.read made.ready made.ensures.start made.ensures.events files (run_seen c.args.words.now)
    (subst (λ (w : ScriptedWords). ComesScripted files w c.in-Ok.read) c.scripted.ensures (c.in-Ok.ensures.comes files told))
