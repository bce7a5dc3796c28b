use Rattle.blif_flat.proofs.Lemmas.{IfOk-weaker, IfErr-weaker, input_at, refusal_of, Unless-map, control_read, control_met, control_refused}
use Rattle.blif_flat.proofs.clock.controls.check_control.Goals as goal

pub returns-in-Some-control-clause-ok : goal.returns-in-Some-control-clause-ok
returns-in-Some-control-clause-ok c = IfOk-weaker c.meet_control.result _ _ (λ next h p l at a.
    let is = c.in-Some.ensures p at in
    control_met c.args.library.now p c.in-Some.latch.now l is a c.in-Some-control.control (input_at c.args.wiring.now.inputs.now c.args.first) (input_at c.args.wiring.now.inputs.now next) c.in-Some-control.is
    (h p.path at.row (control_read c.args.library.now p c.in-Some.latch.now l is a c.in-Some-control.control c.in-Some-control.is)))
    c.meet_control.ensures.ok

pub returns-in-Some-control-clause-err : goal.returns-in-Some-control-clause-err
returns-in-Some-control-clause-err c = IfErr-weaker c.meet_control.result _ _ (λ e h. Unless-map (refusal_of e) _ _
    (λ s p l at a. control_refused c.args.library.now p c.in-Some.latch.now l (c.in-Some.ensures p at) a c.in-Some-control.control (input_at c.args.wiring.now.inputs.now c.args.first) e c.in-Some-control.is (s p.path at.row))
    h) c.meet_control.ensures.err
