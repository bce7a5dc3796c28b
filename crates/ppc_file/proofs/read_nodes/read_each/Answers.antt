use Rattle.ppc_file.proofs.Lemmas.{◌≡◌, ◌<◌, ◌≤◌, List, [], ◌∷◌, ◌++◌, Err, length, replicate, ap, ◌∙◌, sym, arith, length-append, length-replicate, passed_on, OrMemory, Aig, node_count, with_pairs, Parameter, Pair, PackParam, MOST_PACK_NODES, node_at, IsPackFault, refusal_of, in_nodes, OrMemory-map, node_read, no_next_node, all_read}
use Rattle.ppc_file.proofs.read_nodes.read_each.Goals as goal

-- the graph over some parameters with these nodes
abbrev graph_with : List PackParam → List Pair → Aig
graph_with params pairs = record { kinds = replicate (length params) Parameter; pairs = pairs; max = MOST_PACK_NODES }

pub read_node-requires-clause-few : goal.read_node-requires-clause-few
read_node-requires-clause-few c =
    let kinds : length c.loop.graph.kinds ≡ length c.args.params.now = ap (λ (g : Aig). length g.kinds) c.loop.invariant.graph ∙ length-replicate (length c.args.params.now) Parameter in
    let params : length c.args.params.now ≤ 65535 = c.loop.invariant.stands.sound.1.0.few in
    let pairs : length c.loop.graph.pairs ≤ 33554432 = c.loop.invariant.stands.sound.1.1.few in
    omega arith

pub read_node-requires-clause-room : goal.read_node-requires-clause-room
read_node-requires-clause-room c =
    let most : c.loop.graph.max ≡ MOST_PACK_NODES = ap (λ (g : Aig). g.max) c.loop.invariant.graph in
    omega (arith, c.loop.invariant.stands.sound.0.few, c.loop.invariant.count, c.loop-test.true)

pub returns-in_err-_pair-clause-fault : goal.returns-in_err-_pair-clause-fault
returns-in_err-_pair-clause-fault c =
    let g = c.loop.graph in
    let below : length g.pairs < c.args.count = omega (arith, c.loop.invariant.count, c.loop-test.true) in
    let e = c.in_err-_pair.field-0.0 in
    passed_on c.from_residual.result e (λ _. Unit {0}) (OrMemory refusal_of (IsPackFault c.args.file.now)) c.from_residual.ensures.1
    (OrMemory-map refusal_of (λ d. node_at (length c.args.file.now) c.args.version (node_count g) g.pairs c.loop.rest.now ≡ Err d) (IsPackFault c.args.file.now) e
    (no_next_node c.args.file.now (λ i. omega (arith, c.type_inv.file i)) c.args.version c.args.params.now c.args.count g c.loop.rest.now c.loop.invariant.stands (ap (λ (h : Aig). h.kinds) c.loop.invariant.graph) below)
    c.in_err-_pair.ensures.fault)

pub loop-preserved : goal.loop-preserved
loop-preserved c =
    let g = c.loop.graph in
    let p = c.in_ok-_pair._pair in
    let below : length g.pairs < c.args.count = omega (arith, c.loop.invariant.count, c.loop-test.true) in
    let pairs : c.read_node.new.graph.pairs ≡ g.pairs ++ p ∷ [] = ap (λ (h : Aig). h.pairs) c.in_ok-_pair.ensures.graph in
    record {
      stands = node_read c.args.file.now (λ i. omega (arith, c.type_inv.file i)) c.args.version c.args.params.now c.args.count g c.loop.rest.now c.loop.invariant.stands (ap (λ (h : Aig). h.kinds) c.loop.invariant.graph) below
          p c.in_ok-_pair.behind.now c.read_node.new.graph.pairs c.in_ok-_pair.ensures.node pairs;
      graph = c.in_ok-_pair.ensures.graph ∙ ap (λ (h : Aig). with_pairs h (g.pairs ++ p ∷ [])) c.loop.invariant.graph ∙ ap (graph_with c.args.params.now) (sym pairs);
      count = ap length pairs ∙ omega (arith, c.loop.invariant.count, length-append g.pairs (p ∷ []));
    }

pub returns-clause-stands : goal.returns-clause-stands
returns-clause-stands c = all_read c.args.file.now (λ n. in_nodes c.args.version c.args.params.now n c.loop.graph.pairs) c.args.count _ c.loop.counter c.loop.rest.now c.loop.invariant.stands c.loop.invariant.stands.sound.0.within c.loop.invariant.count (omega (arith, c.loop-test.false))
