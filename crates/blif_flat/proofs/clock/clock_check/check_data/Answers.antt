use Rattle.blif_flat.proofs.Lemmas.{◌≡◌, ◌∙◌, List, get_or, Option, Some, None, sym, ap, slice_get, slice_get-get_or, get_or_from_slice_get, ModelValue, Gate, FlatErr, refusal_of, names_fault, LibraryValue, Unless-map, passed_on, tells_ok, tells_err, data_place, data_passed, gate_data_refused, outputs_said}
use Rattle.blif_flat.proofs.clock.clock_check.check_data.Goals.{After-check_names}
use Rattle.blif_flat.proofs.clock.clock_check.check_data.Goals as goal

abbrev no_gate : Gate
no_gate = record { row = 0; command = 0 }

pub returns-in_err-check_gate-clause-err : goal.returns-in_err-check_gate-clause-err
returns-in_err-check_gate-clause-err c =
    let g : Gate = get_or c.args.gates.now c.loop-gate.gate-index no_gate in
    let at = slice_get-get_or c.args.gates.now c.loop-gate.gate-index no_gate c.loop-gate-test.true in
    let p = data_place c.args.library.now c.requires.driven c.args.wiring.now.instances.now c.requires.instances c.args.wiring.now.nets.now c.requires.nets c.args.wiring.now.inputs.now c.requires.inputs c.args.marks.now c.requires.marks
    c.args.gates.now c.requires.gates c.loop-gate.gate-index g at in
    passed_on c.from_residual.result c.in_err-check_gate.field-0.0 _ _ c.from_residual.ensures.1
    (Unless-map (refusal_of c.in_err-check_gate.field-0.0) _ _ (λ e main first. c.loop-gate.invariant main (Some c.in_err-check_gate.field-0.0) first
    (gate_data_refused c.args.library.now c.requires.driven c.args.wiring.now.instances.now c.requires.instances c.args.wiring.now.nets.now c.requires.nets c.args.wiring.now.inputs.now c.requires.inputs c.args.marks.now c.requires.marks
    c.args.gates.now c.requires.gates c.loop-gate.gate-index g at c.in_err-check_gate.field-0.0 e main)) (c.in_err-check_gate.ensures p.place p.is))

pub loop-gate-preserved : goal.loop-gate-preserved
loop-gate-preserved c =
    let g : Gate = get_or c.args.gates.now c.loop-gate.gate-index no_gate in
    let at = slice_get-get_or c.args.gates.now c.loop-gate.gate-index no_gate c.loop-gate-test.true in
    let p = data_place c.args.library.now c.requires.driven c.args.wiring.now.instances.now c.requires.instances c.args.wiring.now.nets.now c.requires.nets c.args.wiring.now.inputs.now c.requires.inputs c.args.marks.now c.requires.marks
    c.args.gates.now c.requires.gates c.loop-gate.gate-index g at in
    λ main result first d. c.loop-gate.invariant main result first
    (data_passed c.args.library.now c.requires.driven c.args.wiring.now.instances.now c.requires.instances c.args.wiring.now.nets.now c.requires.nets c.args.wiring.now.inputs.now c.requires.inputs c.args.marks.now c.requires.marks
    c.args.gates.now c.requires.gates c.loop-gate.gate-index g at (c.in_ok-check_gate.ensures p.place p.is) main result d)

-- the names that are looked at last are the main model's outputs
outputs_are : (c : After-check_names) (main : ModelValue) → slice_get c.args.library.now.models 0 ≡ Some main → c.deref.result.now ≡ main.outputs
outputs_are c main first =
    let models : c.library.inside.models.items ≡ c.args.library.now.models = ap (λ (l : LibraryValue). l.models) c.library.view_is in
    let same : c.index-main.result.now ≡ main =
    c.index-main.ensures ∙ get_or_from_slice_get c.library.inside.models.items 0 main c.index-main.result.now (ap (λ (ms : List ModelValue). slice_get ms 0) models ∙ first) in
    c.deref.ensures.value ∙ ap (λ (m : ModelValue). m.outputs) (c.main.view_is ∙ same)

outputs_last : (c : After-check_names) (main : ModelValue) → slice_get c.args.library.now.models 0 ≡ Some main → (fault : Option FlatErr)
    → names_fault c.args.wiring.now.inputs.now c.args.marks.now c.args.wiring.now.nets.now 0 c.deref.result.now ≡ fault → names_fault c.args.wiring.now.inputs.now c.args.marks.now c.args.wiring.now.nets.now 0 main.outputs ≡ fault
outputs_last c main first fault e = ap (names_fault c.args.wiring.now.inputs.now c.args.marks.now c.args.wiring.now.nets.now 0) (sym (outputs_are c main first)) ∙ e

pub returns-clause-ok : goal.returns-clause-ok
returns-clause-ok c = tells_ok c.check_names.result (names_fault c.args.wiring.now.inputs.now c.args.marks.now c.args.wiring.now.nets.now 0 c.deref.result.now) _ c.check_names.ensures
    (λ e main first. c.loop-gate.invariant main None first
    (outputs_said c.args.library.now c.requires.driven c.args.wiring.now.instances.now c.requires.instances c.args.wiring.now.nets.now c.requires.nets c.args.wiring.now.inputs.now c.requires.inputs c.args.marks.now c.requires.marks
    c.args.gates.now c.requires.gates c.loop-gate.gate-index c.loop-gate-test.false main None (outputs_last c main first None e)))

pub returns-clause-err : goal.returns-clause-err
returns-clause-err c = tells_err c.check_names.result (names_fault c.args.wiring.now.inputs.now c.args.marks.now c.args.wiring.now.nets.now 0 c.deref.result.now) _ c.check_names.ensures
    (λ r e main first. c.loop-gate.invariant main (Some r) first
    (outputs_said c.args.library.now c.requires.driven c.args.wiring.now.instances.now c.requires.instances c.args.wiring.now.nets.now c.requires.nets c.args.wiring.now.inputs.now c.requires.inputs c.args.marks.now c.requires.marks
    c.args.gates.now c.requires.gates c.loop-gate.gate-index c.loop-gate-test.false main (Some r) (outputs_last c main first (Some r) e)))
