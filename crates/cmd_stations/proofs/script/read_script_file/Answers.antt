use Rattle.cmd_stations.proofs.Lemmas.{sym, subst, HasText, script_unread, script_explains}
use Rattle.cmd_stations.proofs.script.read_script_file.Goals as goal

pub returns-in-Err-clause-err : goal.returns-in-Err-clause-err
returns-in-Err-clause-err g c =
    script_unread c.args.name.now c.args.names.now (g.S.Shelf.seen c.args.shelf.now) (g.S.Shelf.seen c.read_file.new.shelf) c.in-Err.outcome c.in-Err.ensures.err

pub returns-clause-err : goal.returns-clause-err
returns-clause-err g c =
    script_explains c.args.name.now c.args.names.now (g.S.Shelf.seen c.args.shelf.now) (g.S.Shelf.seen c.read_file.new.shelf) c.deref.result.now c.in-Err-list_events.stop c.at.result c.at.ensures c.in-Ok.ensures.given
    (λ files told. subst (λ text. HasText files c.args.name.now text) (sym c.deref.ensures.value) (c.in-Ok.ensures.text files told)) c.in-Err-list_events.ensures.one c.in-Err-list_events.ensures.err
