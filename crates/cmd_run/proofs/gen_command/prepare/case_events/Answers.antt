use Rattle.cmd_run.proofs.Lemmas.{codes, subst, Explains, script_reading, shelf_of, script_stops}
use Rattle.cmd_run.proofs.gen_command.prepare.case_events.Goals as goal

pub returns-clause-err : goal.returns-clause-err
returns-clause-err c files there =
    subst (λ n. Explains (script_reading (codes "script") n) (shelf_of files) (shelf_of files) c.at.result) c.in-Ok.ensures
    (script_stops files c.args.script_text.now c.in-Ok.names c.in-Err-list_events.stop c.at.result c.at.ensures there c.in-Err-list_events.ensures.one c.in-Err-list_events.ensures.err)
