use Rattle.blif_flat.proofs.Lemmas.{get_or, slice_get-get_or, Gate, refusal_of, is_latch, paths_of, places_at, input_at, Unless-map, passed_on, gate_passed, gate_refused, all_passed, came_end, gate_within}
use Rattle.blif_flat.proofs.clock.controls.check_controls.Goals as goal

abbrev no_gate : Gate
no_gate = record { row = 0; command = 0 }

pub check_control-requires-clause-here : goal.check_control-requires-clause-here
check_control-requires-clause-here c =
    gate_within c.args.wiring.now.instances.now c.args.wiring.now.latches.now (places_at c.args.library.now is_latch (paths_of c.args.wiring.now.instances.now)) c.requires.latches c.loop-gate.gate-index
    (get_or c.args.wiring.now.latches.now c.loop-gate.gate-index no_gate) (slice_get-get_or c.args.wiring.now.latches.now c.loop-gate.gate-index no_gate c.loop-gate-test.true)

pub returns-in_err-first-clause-err : goal.returns-in_err-first-clause-err
returns-in_err-first-clause-err c = passed_on c.from_residual.result c.in_err-first.field-0.0 _ _ c.from_residual.ensures.1
    (Unless-map (refusal_of c.in_err-first.field-0.0) _ _
    (λ h. gate_refused c.args.library.now c.args.wiring.now.instances.now c.requires.instances c.args.wiring.now.latches.now c.requires.latches c.loop-gate.gate-index (input_at c.args.wiring.now.inputs.now c.loop-gate.first) c.loop-gate.invariant.came
    (get_or c.args.wiring.now.latches.now c.loop-gate.gate-index no_gate) (slice_get-get_or c.args.wiring.now.latches.now c.loop-gate.gate-index no_gate c.loop-gate-test.true) c.in_err-first.field-0.0 h)
    c.in_err-first.ensures.err)

pub loop-gate-preserved : goal.loop-gate-preserved
loop-gate-preserved c = record {
  within = c.in_ok-first.ensures.within;
  came = gate_passed c.args.library.now c.args.wiring.now.instances.now c.requires.instances c.args.wiring.now.latches.now c.requires.latches c.loop-gate.gate-index (input_at c.args.wiring.now.inputs.now c.loop-gate.first) c.loop-gate.invariant.came
      (get_or c.args.wiring.now.latches.now c.loop-gate.gate-index no_gate) (slice_get-get_or c.args.wiring.now.latches.now c.loop-gate.gate-index no_gate c.loop-gate-test.true) (input_at c.args.wiring.now.inputs.now c.in_ok-first.first) c.in_ok-first.ensures.ok;
}

pub returns-clause-ok : goal.returns-clause-ok
returns-clause-ok c = λ main at.
    came_end c.args.library.now c.args.wiring.now.instances.now c.requires.instances c.args.wiring.now.inputs.now c.loop-gate.first c.loop-gate.invariant.within
    (all_passed c.args.library.now c.args.wiring.now.instances.now c.requires.instances c.args.wiring.now.latches.now c.requires.latches c.loop-gate.gate-index (input_at c.args.wiring.now.inputs.now c.loop-gate.first) c.loop-gate.invariant.came c.loop-gate-test.false)
    main (c.requires.inputs main at)
