use Rattle.aiger_io.proofs.Common.{arith}
use Rattle.aiger_io.proofs.GraphRunLemmas.{graphs_circuit}
use Rattle.aiger_io.proofs.law.graph_law.Goals as goal

pub returns : goal.returns
returns c = record {
  circuit = graphs_circuit c.args.flat.now c.args.params.now.list c.args.regular.now c.args.graph.now c.args.roots.now c.requires c.sources-sources.ensures.normal c.sources-sources.ensures.one (omega arith);
}
