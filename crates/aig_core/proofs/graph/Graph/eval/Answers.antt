use Rattle.aig_core.proofs.FitLemmas.{one_fit}
use Rattle.aig_core.proofs.graph.Graph.eval.Goals as goal

pub returns-clause-one : goal.returns-clause-one
returns-clause-one c = λ given len. one_fit c.args.self.now given c.node_values.ensures.normal len
