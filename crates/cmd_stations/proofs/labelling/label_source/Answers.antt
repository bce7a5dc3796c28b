use Rattle.cmd_stations.proofs.Lemmas.{HasTooManyNodes, most_nodes, IsLabellingSettled, HasOneLimit, passed_settled, passed_anyway, full_labelling, labelling_settled}
use Rattle.aig_build.specs.Refusals.{refusal_of as build_refusal}
use Rattle.cmd_stations.proofs.labelling.label_source.Goals as goal

pub returns-in_err-graph-clause-settled : goal.returns-in_err-graph-clause-settled
returns-in_err-graph-clause-settled c =
    let source = c.args.source.now in
    passed_settled build_refusal (λ _. HasTooManyNodes source.netlist.library source.netlist.flat source.params.list (most_nodes c.args.rule)) (IsLabellingSettled c.args.rule source c.args.k) c.from_residual.result c.in_err-graph.field-0.0
    c.in_err-graph.ensures.err c.from_residual.ensures.1 (λ r told over. full_labelling source c.source_graph.ensures.one c.args.rule c.args.k over)

pub returns-in_err-labels-clause-settled : goal.returns-in_err-labels-clause-settled
returns-in_err-labels-clause-settled c =
    passed_anyway (HasOneLimit c.args.rule c.in_ok-graph.graph c.args.k) (IsLabellingSettled c.args.rule c.args.source.now c.args.k) c.from_residual-in_err-labels.result c.in_err-labels.field-0.0 c.from_residual-in_err-labels.ensures.1
    (labelling_settled c.args.source.now c.source_graph.ensures.one c.args.rule c.args.k c.in_ok-graph.graph c.in_ok-graph.roots c.in_ok-graph.ensures.graph c.in_ok-graph.ensures.nodes) c.in_err-labels.ensures.settled

pub returns-clause-settled : goal.returns-clause-settled
returns-clause-settled c =
    labelling_settled c.args.source.now c.source_graph.ensures.one c.args.rule c.args.k c.in_ok-graph.graph c.in_ok-graph.roots c.in_ok-graph.ensures.graph c.in_ok-graph.ensures.nodes c.in_ok-labels.ensures.settled
