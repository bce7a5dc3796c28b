use Rattle.blif_flat.proofs.Lemmas.{◌≤◌, ap, arith, length, clock_test, input_name, most_weight, few_covers, counted_as, fields}
use Rattle.blif_flat.proofs.field.assemble.assemble.Goals as goal

pub cover_order-requires-clause-walked : goal.cover_order-requires-clause-walked
cover_order-requires-clause-walked c =
    counted_as c.args.library.now c.args.main.now c.requires.main c.args.circuit.now c.requires.circuit c.args.clocks.now c.requires.clocks
    c.in_ok-logic.logic.covers.items c.in_ok-logic.logic.latches.items c.in_ok-logic.logic.outputs.items c.in_ok-logic.ensures
    c.deref-3.result.now c.deref-4.result.now c.deref-5.result.now c.deref-3.ensures.value c.deref-4.ensures.value c.deref-5.ensures.value c.deref.result.now c.deref.ensures.value

pub cover_order-requires-clause-few : goal.cover_order-requires-clause-few
cover_order-requires-clause-few c =
    let few : length c.in_ok-logic.logic.covers.items ≤ most_weight = few_covers c.args.library.now c.args.main.now c.requires.main c.args.circuit.now c.requires.circuit c.args.clocks.now c.requires.clocks
    c.in_ok-logic.logic.covers.items c.in_ok-logic.logic.latches.items c.in_ok-logic.logic.outputs.items c.in_ok-logic.ensures in
    omega (arith, ap length c.deref-3.ensures.value)

pub returns-clause-flat : goal.returns-clause-flat
returns-clause-flat c =
    fields c.args.library.now c.args.main.now c.requires.main c.args.circuit.now c.requires.circuit c.args.clocks.now c.requires.clocks
    c.in_ok-logic.logic.covers.items c.in_ok-logic.logic.latches.items c.in_ok-logic.logic.outputs.items c.in_ok-logic.ensures
    c.deref-3.result.now c.deref-4.result.now c.deref-5.result.now c.deref-3.ensures.value c.deref-4.ensures.value c.deref-5.ensures.value
    c.in_ok-header.header.model c.in_ok-header.header.inputs.items c.in_ok-header.header.clocks.items c.in_ok-header.header.control c.in_ok-order.order.items c.most_underscores-under.result
    c.in_ok-header.ensures.model (c.in_ok-header.ensures.inputs (clock_test c.args.main.now (input_name c.args.main.now c.args.clocks.now.control)) c.requires.clocks.marks)
    c.in_ok-header.ensures.control c.in_ok-header.ensures.clocks c.in_ok-order.ensures.order c.most_underscores-under.ensures
