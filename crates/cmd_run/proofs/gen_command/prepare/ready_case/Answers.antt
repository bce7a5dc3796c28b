use Rattle.cmd_run.proofs.Lemmas.{Scripted, HasMapped, ToTables, IsSourceSettled, scripted_of, case_words, shelf_of, source_to_scripted, script_to_scripted, comes_scripted, told_of, ready_for, can_play_ready}
use Rattle.cmd_run.proofs.gen_command.prepare.ready_case.Goals as goal

pub returns-in-Err-clause-err : goal.returns-in-Err-clause-err
returns-in-Err-clause-err c files have = source_to_scripted (scripted_of (case_words c.args.rule)) (shelf_of files) (shelf_of files) c.in-Err.outcome (c.in-Err.ensures.err files have.source)

pub returns-in-Err-case_events-clause-err : goal.returns-in-Err-case_events-clause-err
returns-in-Err-case_events-clause-err c files have =
    let mapped = c.in-Ok.mapped in
    let past = c.in-Ok.ensures.comes files have.source in
    script_to_scripted (scripted_of (case_words c.args.rule)) (shelf_of files) (shelf_of files) c.in-Err-case_events.outcome mapped.source mapped.tables.template
    (told_of files (λ others. HasMapped others (case_words c.args.rule).source mapped.source mapped.tables.template × IsSourceSettled ToTables others (case_words c.args.rule).source) (past.has, past.settled))
    (c.in-Err-case_events.ensures.err files have.has_script)

pub returns-in-Ok-make_ready-clause-ready : goal.returns-in-Ok-make_ready-clause-ready
returns-in-Ok-make_ready-clause-ready c =
    let s : Scripted = record { mapped = c.in-Ok.mapped; events = c.in-Ok-case_events.events } in
    let made = c.in-Ok-make_ready in
    can_play_ready s made.ready made.ensures.start made.ensures.events c.in-Ok.ensures.tables.least.mapping.sum c.in-Ok-case_events.ensures.fit

pub returns-in-Ok-make_ready-clause-prepared : goal.returns-in-Ok-make_ready-clause-prepared
returns-in-Ok-make_ready-clause-prepared c files have =
    let s : Scripted = record { mapped = c.in-Ok.mapped; events = c.in-Ok-case_events.events } in
    let made = c.in-Ok-make_ready in
    ready_for s made.ready made.ensures.start made.ensures.events files (case_words c.args.rule)
    (comes_scripted files (scripted_of (case_words c.args.rule)) s (c.in-Ok.ensures.comes files have.source) (c.in-Ok-case_events.ensures.script files have.has_script) (c.in-Ok-case_events.ensures.settled files have.has_script))
