use Rattle.blif_flat.proofs.Lemmas.{arith, order_inside, kept_next}
use Rattle.blif_flat.proofs.model.weight.weigh.Goals as goal

pub keep_weight-requires-clause-model : goal.keep_weight-requires-clause-model
keep_weight-requires-clause-model c = order_inside c.args.library.now c.args.order.now c.loop-number.number-index c.requires.order c.loop-number-test.true

pub keep_weight-requires-clause-room : goal.keep_weight-requires-clause-room
keep_weight-requires-clause-room c =
    omega (arith, order_inside c.args.library.now c.args.order.now c.loop-number.number-index c.requires.order c.loop-number-test.true)

pub loop-number-preserved : goal.loop-number-preserved
loop-number-preserved c =
    let step = kept_next c.args.library.now c.args.index.now.names c.args.order.now c.loop-number.weights.items c.keep_weight.new.weights.items c.loop-number.number-index c.requires.names c.requires.order c.loop-number-test.true
    c.loop-number.invariant.len c.keep_weight.ensures c.loop-number.invariant.kept in
    record { kept = step.0; len = step.1 }
