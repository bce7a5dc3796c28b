use Rattle.ppc_file.proofs.Lemmas.{◌≡◌, ℕ, ◌*◌, ◌||◌, Bool, false, refl, sym, ap, ◌∙◌, list_any, node_count, is_pair, Pair, is_bad_pair, is_made, is_found}
use Rattle.ppc_file.proofs.FieldLemmas.{good_pair}
use Rattle.ppc_file.proofs.read_nodes.add_node.Goals as goal

-- the test of fan-ins, at the number of nodes that the graph tells
passed : (told node : ℕ) (p : Pair) (bad : Bool) → told ≡ node → bad ≡ is_bad_pair told p → bad ≡ false → is_bad_pair node p ≡ false
passed told node p bad count is off = ap (λ (n : ℕ). is_bad_pair n p) (sym count) ∙ sym is ∙ off

pub returns-then-lit-node-clause-fault : goal.returns-then-lit-node-clause-fault
returns-then-lit-node-clause-fault c =
    let g = c.args.graph.now in
    let p = c.args.pair in
    let good : is_bad_pair (node_count g) p ≡ false = passed c.len-node.result (node_count g) p c.is_bad_pair.result c.len-node.ensures.count c.is_bad_pair.ensures c.if-is_bad_pair.false in
    let twice : 2 * node_count g ≡ 2 * c.len-node.result = ap (λ (n : ℕ). 2 * n) (sym c.len-node.ensures.count) in
    (refl, ap (λ (b : Bool). b || list_any (is_pair p.x.0 p.y.0) g.pairs) good ∙ is_found g p (good_pair 0 (node_count g) p good) (λ e. c.if-lit-node.true (c.in-Ok.ensures.lit ∙ e ∙ twice)))

pub returns-clause-new : goal.returns-clause-new
returns-clause-new c =
    let g = c.args.graph.now in
    let p = c.args.pair in
    let good : is_bad_pair (node_count g) p ≡ false = passed c.len-node.result (node_count g) p c.is_bad_pair.result c.len-node.ensures.count c.is_bad_pair.ensures c.if-is_bad_pair.false in
    let twice : 2 * c.len-node.result ≡ 2 * node_count g = ap (λ (n : ℕ). 2 * n) c.len-node.ensures.count in
    ap (λ (b : Bool). b || list_any (is_pair p.x.0 p.y.0) g.pairs) good ∙ (is_made g p (good_pair 0 (node_count g) p good) (sym c.in-Ok.ensures.lit ∙ c.if-lit-node.false ∙ twice)).new
