use Rattle.aig_core.proofs.Common.{subst, Aig, first_and, AreNormal}
use Rattle.aig_core.proofs.FitLemmas.{one_fit}
use Rattle.aig_core.proofs.graph.Graph.sources.Goals as goal

pub returns-clause-one : goal.returns-clause-one
returns-clause-one c = λ given len. one_fit c.args.self.now given (subst (λ (g : Aig). AreNormal (first_and g) g.pairs) c.self.view_is c.self.invariant.normal) len
