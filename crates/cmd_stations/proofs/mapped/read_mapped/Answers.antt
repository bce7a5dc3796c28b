use Rattle.cmd_stations.proofs.Lemmas.{source_seen, ToTables, made_explains, making_settles}
use Rattle.cmd_stations.proofs.mapped.read_mapped.Goals as goal

pub returns-in-Err-clause-err : goal.returns-in-Err-clause-err
returns-in-Err-clause-err g c = c.in-Err.ensures.err ToTables

pub returns-in-Ok-map_source-clause-comes : goal.returns-in-Ok-map_source-clause-comes
returns-in-Ok-map_source-clause-comes g c files told =
    let comes = c.in-Ok.ensures.source files told in
    record {
      has = record { has = comes.has; mapped = c.in-Ok-map_source.ensures.tables.mapped };
      settled = making_settles ToTables files (source_seen c.args.words.now) c.in-Ok.source comes c.in-Ok-map_source.ensures.settled;
    }

pub returns-in-Err-map_source-clause-err : goal.returns-in-Err-map_source-clause-err
returns-in-Err-map_source-clause-err g c =
    made_explains ToTables (source_seen c.args.words.now) (g.S.Shelf.seen c.args.shelf.now) (g.S.Shelf.seen c.read_source.new.shelf) c.in-Ok.source c.in-Err-map_source.stop c.at.result c.at.ensures c.in-Ok.ensures.given
    c.in-Ok.ensures.source c.in-Err-map_source.ensures.err c.in-Err-map_source.ensures.settled
