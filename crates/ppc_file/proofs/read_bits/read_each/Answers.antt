use Rattle.ppc_file.proofs.Lemmas.{◌≡◌, ◌<◌, ◌+◌, ℕ, length, ap, ◌∙◌, arith, length-append, [], ◌∷◌, in_bits, refused_on, bit_read, bit_refused, all_read}
use Rattle.ppc_file.proofs.read_bits.read_each.Goals as goal

pub returns-in_err-literal-clause-fault : goal.returns-in_err-literal-clause-fault
returns-in_err-literal-clause-fault c =
    let below : length c.loop.bits.items < c.args.count = omega (arith, c.loop.invariant.count, c.loop-test.true) in
    let nodes : c.len-nodes.result ≡ 1 + length c.args.params.now + length c.args.graph.now.pairs = c.len-nodes.ensures.count ∙ ap (λ (n : ℕ). 1 + n + length c.args.graph.now.pairs) c.requires.sources in
    refused_on c.args.file.now c.from_residual.result c.in_err-literal.field-0.0 c.from_residual.ensures.1
    (bit_refused c.args.file.now (λ i. omega (arith, c.type_inv.file i)) c.args.version c.args.params.now c.args.graph.now.pairs c.args.count c.len-nodes.result c.loop.bits.items c.loop.rest.now c.loop.invariant.stands nodes below _ c.in_err-literal.ensures)

pub loop-preserved : goal.loop-preserved
loop-preserved c =
    let below : length c.loop.bits.items < c.args.count = omega (arith, c.loop.invariant.count, c.loop-test.true) in
    let nodes : c.len-nodes.result ≡ 1 + length c.args.params.now + length c.args.graph.now.pairs = c.len-nodes.ensures.count ∙ ap (λ (n : ℕ). 1 + n + length c.args.graph.now.pairs) c.requires.sources in
    record {
      stands = bit_read c.args.file.now (λ i. omega (arith, c.type_inv.file i)) c.args.version c.args.params.now c.args.graph.now.pairs c.args.count c.len-nodes.result c.loop.bits.items c.loop.rest.now c.loop.invariant.stands nodes below
          c.in_ok-literal.literal c.in_ok-literal.behind.now _ c.in_ok-literal.ensures c.in_ok-push.ensures.items;
      count = ap length c.in_ok-push.ensures.items ∙ omega (arith, c.loop.invariant.count, length-append c.loop.bits.items (c.in_ok-literal.literal ∷ []));
    }

pub returns-clause-stands : goal.returns-clause-stands
returns-clause-stands c = all_read c.args.file.now (λ n. in_bits c.args.version c.args.params.now c.args.graph.now.pairs n c.loop.bits.items) c.args.count _ c.loop.counter c.loop.rest.now c.loop.invariant.stands c.loop.invariant.stands.sound.0.within c.loop.invariant.count (omega (arith, c.loop-test.false))
