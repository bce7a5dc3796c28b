use Rattle.blif_flat.proofs.Lemmas.{List, sym, ap, ◌∙◌, slice_get, option_map, same_Some, slice_get-map, passed_on, ports_value, Ports, loop_refused, all_sound, none_stands}
use Rattle.blif_flat.proofs.call.flat_circuit.Goals as goal

pub all_inputs-requires : goal.all_inputs-requires
all_inputs-requires c =
    same_Some _ _ (sym c.main_ports.ensures ∙ ap (λ (ps : List Ports). slice_get ps 0) c.requires.indexed.ports ∙ slice_get-map ports_value (c.args.library.now).models 0 ∙ ap (option_map ports_value) c.main_model-main.ensures)

pub assemble-requires-clause-short : goal.assemble-requires-clause-short
assemble-requires-clause-short c = c.requires.short c.main_model-main.result.now c.main_model-main.ensures

pub returns-clause-sound : goal.returns-clause-sound
returns-clause-sound c =
    all_sound c.args.library.now c.in_ok-circuit.circuit.instances.items c.in_ok-circuit.ensures.instances c.requires.checked.connected c.main_model-main.result.now c.main_model-main.ensures
    c.in_ok-clocks.clocks c.in_ok-clocks.ensures.ok c.requires.indexed.formed c.in_ok-flat.ensures.clean

pub returns-clause-clean : goal.returns-clause-clean
returns-clause-clean c =
    none_stands c.args.library.now c.in_ok-circuit.circuit.instances.items c.in_ok-circuit.ensures.instances c.requires.checked.connected c.main_model-main.result.now c.main_model-main.ensures
    c.in_ok-clocks.clocks c.in_ok-clocks.ensures.ok c.requires.indexed.formed c.in_ok-flat.ensures.clean

pub returns-in_err-flat-clause-err : goal.returns-in_err-flat-clause-err
returns-in_err-flat-clause-err c = passed_on c.from_residual-in_err-flat.result c.in_err-flat.field-0.0 _ _ c.from_residual-in_err-flat.ensures.1
    (loop_refused c.args.library.now c.in_ok-circuit.circuit.instances.items c.in_ok-circuit.ensures.instances c.requires.checked.connected c.main_model-main.result.now c.main_model-main.ensures
    c.in_ok-clocks.clocks c.in_ok-clocks.ensures.ok c.in_err-flat.field-0.0 c.in_err-flat.ensures.err)
