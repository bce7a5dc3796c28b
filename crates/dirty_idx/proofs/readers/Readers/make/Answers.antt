use Rattle.dirty_idx.proofs.Lemmas.{sym, ap, ◌∙◌, subst, node_count, AreOf, bit_readings, bits_below, readers_made}
use Rattle.dirty_idx.proofs.readers.Readers.make.Goals as goal

pub address_lists-requires-clause-nodes : goal.address_lists-requires-clause-nodes
address_lists-requires-clause-nodes c =
    subst (λ bits. AreOf c.len.result (bit_readings 0 bits)) (sym c.bits.ensures.value)
    (subst (λ count. AreOf count (bit_readings 0 c.args.pack.now.bits)) (sym (c.len.ensures.count ∙ ap node_count c.graph-graph.ensures.value)) (bits_below _ _ _ c.bits.ensures.pack))

pub returns : goal.returns
returns c = readers_made c.args.pack.now _ _ _ _ _ c.graph-graph.ensures.value c.bits.ensures.value c.len.ensures.count c.len.ensures.normal c.in_ok-nodes.ensures c.in_ok-addresses.ensures
