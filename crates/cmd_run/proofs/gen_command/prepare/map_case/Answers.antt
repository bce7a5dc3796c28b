use Rattle.cmd_run.proofs.Lemmas.{ToTables, case_words, making_settles, mapping_stops}
use Rattle.cmd_run.proofs.gen_command.prepare.map_case.Goals as goal

pub returns-in-Err-clause-err : goal.returns-in-Err-clause-err
returns-in-Err-clause-err c files have = c.in-Err.ensures.err c.args.rule files have

pub returns-in-Ok-map_source-clause-comes : goal.returns-in-Ok-map_source-clause-comes
returns-in-Ok-map_source-clause-comes c files have =
    let comes = c.in-Ok.ensures.comes c.args.rule files have in
    record {
      has = record { has = comes.has; mapped = c.in-Ok-map_source.ensures.tables.mapped };
      settled = making_settles ToTables files (case_words c.args.rule).source c.in-Ok.source comes c.in-Ok-map_source.ensures.settled;
    }

pub returns-in-Err-map_source-clause-err : goal.returns-in-Err-map_source-clause-err
returns-in-Err-map_source-clause-err c files have =
    mapping_stops c.args.rule files c.in-Ok.source c.in-Err-map_source.stop c.at.result c.at.ensures (c.in-Ok.ensures.comes c.args.rule files have) c.in-Err-map_source.ensures.err c.in-Err-map_source.ensures.settled
