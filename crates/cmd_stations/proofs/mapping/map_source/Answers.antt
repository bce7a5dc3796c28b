use Rattle.cmd_stations.proofs.Lemmas.{HasTooManyNodes, most_nodes, IsGraphSettled, IsMappingSettled, passed_settled, passed_anyway, full_settled, mapping_settled, tables_as}
use Rattle.aig_build.specs.Refusals.{refusal_of as build_refusal}
use Rattle.cmd_stations.proofs.mapping.map_source.Goals as goal

pub returns-in_err-graph-clause-settled : goal.returns-in_err-graph-clause-settled
returns-in_err-graph-clause-settled c =
    let source = c.args.source.now in
    passed_settled build_refusal (λ _. HasTooManyNodes source.netlist.library source.netlist.flat source.params.list (most_nodes c.args.rule)) (IsMappingSettled c.args.rule source c.args.k) c.from_residual.result c.in_err-graph.field-0.0
    c.in_err-graph.ensures.err c.from_residual.ensures.1 (λ r told over. full_settled source c.source_graph.ensures.one c.args.rule c.args.k over)

pub returns-in_err-template-clause-settled : goal.returns-in_err-template-clause-settled
returns-in_err-template-clause-settled c =
    passed_anyway (IsGraphSettled c.args.rule c.in_ok-graph.graph c.args.k c.in_ok-graph.roots) (IsMappingSettled c.args.rule c.args.source.now c.args.k) c.from_residual-in_err-template.result c.in_err-template.field-0.0
    c.from_residual-in_err-template.ensures.1
    (mapping_settled c.args.source.now c.source_graph.ensures.one c.args.rule c.args.k c.in_ok-graph.graph c.in_ok-graph.roots c.in_ok-graph.ensures.graph c.in_ok-graph.ensures.nodes) c.in_err-template.ensures.settled

pub returns-clause-settled : goal.returns-clause-settled
returns-clause-settled c =
    mapping_settled c.args.source.now c.source_graph.ensures.one c.args.rule c.args.k c.in_ok-graph.graph c.in_ok-graph.roots c.in_ok-graph.ensures.graph c.in_ok-graph.ensures.nodes c.in_ok-template.ensures.settled

pub returns-clause-tables : goal.returns-clause-tables
returns-clause-tables c =
    tables_as c.args.rule c.args.source.now c.args.k c.in_ok-tables.tables c.in_ok-template.template c.in_ok-tables.ensures.template
    (record { graph = c.in_ok-graph.graph; roots = c.in_ok-graph.roots; is_graph = c.in_ok-graph.ensures.graph; nodes = c.in_ok-graph.ensures.nodes; chosen = c.in_ok-template.ensures.chosen }) c.in_ok-template.ensures.least
    c.in_ok-tables.ensures.made
