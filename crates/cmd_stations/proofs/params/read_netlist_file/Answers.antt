use Rattle.cmd_stations.proofs.Lemmas.{source_seen, netlist_unread, netlist_explains}
use Rattle.cmd_stations.proofs.params.read_netlist_file.Goals as goal

pub returns-in-Err-clause-err : goal.returns-in-Err-clause-err
returns-in-Err-clause-err g c aim =
    netlist_unread aim (source_seen c.args.words.now) (g.S.Shelf.seen c.args.shelf.now) (g.S.Shelf.seen c.read_file.new.shelf) c.in-Err.outcome c.in-Err.ensures.err

pub returns-in-Err-read_netlist-clause-err : goal.returns-in-Err-read_netlist-clause-err
returns-in-Err-read_netlist-clause-err g c aim =
    netlist_explains aim (source_seen c.args.words.now) (g.S.Shelf.seen c.args.shelf.now) (g.S.Shelf.seen c.read_file.new.shelf) c.in-Ok.text.items c.in-Err-read_netlist.stop c.at.result c.at.ensures c.in-Ok.ensures.given
    c.in-Ok.ensures.text c.in-Err-read_netlist.ensures.err c.in-Err-read_netlist.ensures.settled
