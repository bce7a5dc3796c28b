use Rattle.spec_core.proofs.Lemmas.{◌<◌, ap, node_count, EvaluationValue, Belong-written}
use Rattle.spec_core.proofs.evaluation.Evaluation.store.Goals as goal

pub invariant_of-self : goal.invariant_of-self
invariant_of-self c =
    let inside : c.args.n < node_count c.self.inside.pack.pack.graph = rw (ap (λ (e : EvaluationValue). e.pack) c.self.view_is) c.requires in
    rw (c.mark_all.ensures, c.mark_all-then-index-value.ensures, c.nodes.ensures) (Belong-written c.self.inside.pack.pack c.self.inside.readers _ c.args.n c.args.value c.addresses.result.now inside c.self.invariant)
