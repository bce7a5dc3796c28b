use Rattle.spec_core.proofs.StoreLemmas.{Belong-without}
use Rattle.spec_core.proofs.evaluation.Evaluation.take_node.Goals as goal

pub invariant_of-self : goal.invariant_of-self
invariant_of-self c = rw c.take_first.ensures.rest (Belong-without c.self.inside.pack.pack c.self.inside.readers _ c.take_first.result c.self.invariant)
