use Rattle.cmd_stations.proofs.Common.{source_seen, source_reading, Explains_from}
use Rattle.cmd_stations.proofs.params.read_source.Goals as goal

pub returns-in-Err-read_params_file-clause-err : goal.returns-in-Err-read_params_file-clause-err
returns-in-Err-read_params_file-clause-err g c aim =
    Explains_from (source_reading aim (source_seen c.args.words.now)) (g.S.Shelf.seen c.args.shelf.now) (g.S.Shelf.seen c.read_netlist_file.new.shelf) (g.S.Shelf.seen c.read_params_file.new.shelf)
    c.read_netlist_file.ensures.keeps c.in-Err-read_params_file.outcome (c.in-Err-read_params_file.ensures.err aim)
