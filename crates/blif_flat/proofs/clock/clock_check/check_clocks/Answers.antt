use Rattle.blif_flat.proofs.Lemmas.{◌≡◌, [], map, None, Some, ap, sym, ◌∙◌, subst, same_Some, OrMemory, ModelValue, model_at, inputs_of, is_latch, refusal_of, places_at, paths_of, Clocks, is_gate, ClockData, clock_test, input_name, IsControlled, passed_on, clocks_told, controls_refused, data_refused}
use Rattle.blif_flat.proofs.clock.clock_check.check_clocks.Goals as goal

pub returns-in_err-control-clause-err : goal.returns-in_err-control-clause-err
returns-in_err-control-clause-err c = passed_on c.from_residual.result c.in_err-control.field-0.0 _ _ c.from_residual.ensures.1
    (controls_refused c.args.library.now c.args.circuit.now.instances.items c.requires.circuit.instances c.requires.connected c.in_err-control.field-0.0
    (subst (λ instances. OrMemory refusal_of (λ r. Clocks c.args.library.now None (places_at c.args.library.now is_latch (paths_of instances)) (Some r)) c.in_err-control.field-0.0) c.deref.ensures.value c.in_err-control.ensures.err))

pub check_data-requires-clause-marks : goal.check_data-requires-clause-marks
check_data-requires-clause-marks c = λ main at.
    let controlled = subst (λ instances. IsControlled c.args.library.now main (paths_of instances) c.in_ok-control.control) c.deref.ensures.value (c.in_ok-control.ensures.ok main at) in
    let same : c.args.main.now ≡ main = same_Some c.args.main.now main (sym c.requires.main ∙ at) in
    record {
      test = clock_test main (input_name main c.in_ok-control.control);
      tells = clocks_told c.args.library.now c.requires.driven c.args.circuit.now.instances.items c.requires.circuit.instances main at c.in_ok-control.control controlled;
      marks_are = c.deref-5.ensures.value ∙ c.in_ok-marks.ensures ∙ ap (λ (m : ModelValue). map (clock_test m (input_name m c.in_ok-control.control)) (inputs_of m)) same;
    }

pub returns-clause-ok : goal.returns-clause-ok
returns-clause-ok c =
    let controlled = subst (λ instances. IsControlled c.args.library.now c.args.main.now (paths_of instances) c.in_ok-control.control) c.deref.ensures.value (c.in_ok-control.ensures.ok c.args.main.now c.requires.main) in
    record {
      controlled = controlled;
      marks = c.in_ok-marks.ensures;
      tells = clocks_told c.args.library.now c.requires.driven c.args.circuit.now.instances.items c.requires.circuit.instances c.args.main.now c.requires.main c.in_ok-control.control controlled;
      clear = subst (λ instances. ClockData c.args.library.now c.args.main.now (places_at c.args.library.now is_gate (paths_of instances)) None) c.deref.ensures.value (c.in_ok-check_data.ensures.ok c.args.main.now c.requires.main);
    }

pub returns-in_err-check_data-clause-err : goal.returns-in_err-check_data-clause-err
returns-in_err-check_data-clause-err c =
    let controlled = subst (λ instances. IsControlled c.args.library.now c.args.main.now (paths_of instances) c.in_ok-control.control) c.deref.ensures.value (c.in_ok-control.ensures.ok c.args.main.now c.requires.main) in
    passed_on c.from_residual-in_err-check_data.result c.in_err-check_data.field-0.0 _ _ c.from_residual-in_err-check_data.ensures.1
    (data_refused c.args.library.now c.args.circuit.now.instances.items c.requires.circuit.instances c.requires.connected controlled.clean c.in_err-check_data.field-0.0
    (subst (λ instances. OrMemory refusal_of (λ r. (main : ModelValue) → model_at c.args.library.now [] ≡ Some main → ClockData c.args.library.now main (places_at c.args.library.now is_gate (paths_of instances)) (Some r)) c.in_err-check_data.field-0.0)
    c.deref.ensures.value c.in_err-check_data.ensures.err))
