use Rattle.blif_flat.proofs.Lemmas.{◌≤◌, ap, ◌∙◌, arith, length, most_weight, regular_numbers, few_marks, logic_known}
use Rattle.blif_flat.proofs.field.assemble.flat_logic.Goals as goal

pub regular_numbers-requires : goal.regular_numbers-requires
regular_numbers-requires c =
    let few : length c.args.clocks.now.marks.items ≤ most_weight = few_marks c.args.library.now c.args.main.now c.requires.main c.args.circuit.now c.requires.circuit c.args.clocks.now c.requires.clocks c.requires.light in
    record { few = omega (arith, ap length c.deref.ensures.value) }

pub returns : goal.returns
returns c = logic_known c.args.library.now c.args.main.now c.requires.main c.args.circuit.now c.requires.circuit c.args.clocks.now c.requires.clocks
    c.as_slice-list.result.now c.as_slice-instances.result.now (c.as_slice-list.ensures.value ∙ c.in_ok-numbers.ensures ∙ ap (regular_numbers 0) c.deref.ensures.value) c.as_slice-instances.ensures.value
    c.in_ok-covers.covers.items c.in_ok-latches.latches.items c.in_ok-outputs.outputs.items
    c.in_ok-covers.ensures c.in_ok-latches.ensures c.in_ok-outputs.ensures.names c.in_ok-outputs.ensures.nets
