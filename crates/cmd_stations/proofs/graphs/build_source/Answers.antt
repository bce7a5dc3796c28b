use Rattle.cmd_stations.proofs.GraphLemmas.{building_settled}
use Rattle.cmd_stations.proofs.graphs.build_source.Goals as goal

pub returns-in_err-made-clause-settled : goal.returns-in_err-made-clause-settled
returns-in_err-made-clause-settled c = building_settled c.args.source.now c.source_graph.ensures.one c.args.rule

pub returns-clause-settled : goal.returns-clause-settled
returns-clause-settled c = building_settled c.args.source.now c.source_graph.ensures.one c.args.rule
