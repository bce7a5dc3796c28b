use Rattle.cmd_stations.proofs.Lemmas.{source_seen, ToGraph, made_explains, making_settles, stops_anyway}
use Rattle.cmd_stations.proofs.graphs.read_graph.Goals as goal

pub returns-in-Err-clause-err : goal.returns-in-Err-clause-err
returns-in-Err-clause-err g c = c.in-Err.ensures.err ToGraph

pub returns-in-Ok-build_source-clause-comes : goal.returns-in-Ok-build_source-clause-comes
returns-in-Ok-build_source-clause-comes g c files told =
    let comes = c.in-Ok.ensures.source files told in
    record {
      has = record { has = comes.has; built = c.in-Ok-build_source.ensures.built };
      settled = making_settles ToGraph files (source_seen c.args.words.now) c.in-Ok.source comes c.in-Ok-build_source.ensures.settled;
    }

pub returns-in-Err-build_source-clause-err : goal.returns-in-Err-build_source-clause-err
returns-in-Err-build_source-clause-err g c =
    made_explains ToGraph (source_seen c.args.words.now) (g.S.Shelf.seen c.args.shelf.now) (g.S.Shelf.seen c.read_source.new.shelf) c.in-Ok.source c.in-Err-build_source.stop c.at.result c.at.ensures c.in-Ok.ensures.given
    c.in-Ok.ensures.source c.in-Err-build_source.ensures.err (stops_anyway c.in-Err-build_source.stop c.in-Err-build_source.ensures.settled)
