use Rattle.cmd_stations.proofs.Lemmas.{source_seen, ToLabels, made_explains, making_settles}
use Rattle.cmd_stations.proofs.labelling.read_labelled.Goals as goal

pub returns-in-Err-clause-err : goal.returns-in-Err-clause-err
returns-in-Err-clause-err g c = c.in-Err.ensures.err ToLabels

pub returns-in-Ok-label_source-clause-comes : goal.returns-in-Ok-label_source-clause-comes
returns-in-Ok-label_source-clause-comes g c files told =
    let comes = c.in-Ok.ensures.source files told in
    let made = c.in-Ok-label_source.field-0 in
    record {
      has = record { graph_is = record { has = comes.has; built = c.in-Ok-label_source.ensures.built }; labels = made.labels; labelled = c.in-Ok-label_source.ensures.labelled };
      settled = making_settles ToLabels files (source_seen c.args.words.now) c.in-Ok.source comes c.in-Ok-label_source.ensures.settled;
    }

pub returns-in-Err-label_source-clause-err : goal.returns-in-Err-label_source-clause-err
returns-in-Err-label_source-clause-err g c =
    made_explains ToLabels (source_seen c.args.words.now) (g.S.Shelf.seen c.args.shelf.now) (g.S.Shelf.seen c.read_source.new.shelf) c.in-Ok.source c.in-Err-label_source.stop c.at.result c.at.ensures c.in-Ok.ensures.given
    c.in-Ok.ensures.source c.in-Err-label_source.ensures.err c.in-Err-label_source.ensures.settled
