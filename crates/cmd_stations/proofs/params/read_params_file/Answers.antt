use Rattle.cmd_stations.proofs.Lemmas.{sym, subst, source_seen, HasText, params_unread, params_explains}
use Rattle.cmd_stations.proofs.params.read_params_file.Goals as goal

pub returns-in-Err-clause-err : goal.returns-in-Err-clause-err
returns-in-Err-clause-err g c aim =
    params_unread aim (source_seen c.args.words.now) (g.S.Shelf.seen c.args.shelf.now) (g.S.Shelf.seen c.read_file.new.shelf) c.args.netlist.now c.requires.comes c.in-Err.outcome c.in-Err.ensures.err

pub returns-clause-err : goal.returns-clause-err
returns-clause-err g c aim =
    let words = source_seen c.args.words.now in
    params_explains aim words (g.S.Shelf.seen c.args.shelf.now) (g.S.Shelf.seen c.read_file.new.shelf) c.args.netlist.now c.requires.comes c.deref.result.now c.in-Err-list_params.stop c.at.result c.at.ensures c.in-Ok.ensures.given
    (λ files told. subst (λ text. HasText files words.params text) (sym c.deref.ensures.value) (c.in-Ok.ensures.text files told)) c.in-Err-list_params.ensures.one c.in-Err-list_params.ensures.err
