use Rattle.dirty_idx.proofs.Lemmas.{length, sym, ap, ◌∙◌, subst, arith, first_and, node_count, AreOf, nodes_below, length-node_readings}
use Rattle.dirty_idx.proofs.readers.node_lists.Goals as goal

pub make-requires-clause-nodes : goal.make-requires-clause-nodes
make-requires-clause-nodes c =
    subst (λ count. AreOf count c.deref.result.now) (sym c.len.ensures.count)
    (subst (AreOf (node_count c.args.graph.now)) (sym (c.deref.ensures.value ∙ c.in_ok-readings.ensures)) (nodes_below c.args.graph.now c.len.ensures.normal))

pub make-requires-clause-few : goal.make-requires-clause-few
make-requires-clause-few c = omega (arith, ap length (c.deref.ensures.value ∙ c.in_ok-readings.ensures) ∙ length-node_readings (first_and c.args.graph.now) c.args.graph.now.pairs, c.requires)
