use Rattle.ppc_file.proofs.Lemmas.{refl, sym, added_as, added_twice, pack_parts, by_version}
use Rattle.ppc_file.proofs.encoder.add_pack.Goals as goal

pub returns-clause-added : goal.returns-clause-added
returns-clause-added g c =
    let pack = c.args.pack.now in
    let whole = sym (pack_parts c.args.version pack c.params.result.now c.graph-graph.result.now c.bits.result.now c.params.ensures.value c.graph-graph.ensures.value c.bits.ensures.value c.params.ensures.pack.kinds) in
    added_as whole
    (added_twice c.add_head.ensures
    (added_twice c.add_params.ensures
    (added_twice c.add_nodes.ensures c.add_bits.ensures)))

pub returns-clause-file : goal.returns-clause-file
returns-clause-file g c = record { is_pack = c.params.ensures.pack; normal = rw c.graph-graph.ensures.value at c.len-count.ensures.normal; spelled = by_version c.args.version c.args.pack.now _ refl }
