use Rattle.cert_check.proofs.Common.{◌≡◌, [], ap, ◌∙◌, OrMemory, StepValue, StepsFault, refusal_of, passed_err, Unless-of}
use Rattle.cert_check.proofs.CheckLemmas.{no_steps, next_stops, next_taken, all_turn, all_claims}
use Rattle.cert_check.proofs.checking.take_steps.Goals as goal

pub returns-in_err-take_step-clause-fault : goal.returns-in_err-take_step-clause-fault
returns-in_err-take_step-clause-fault c =
    passed_err c.from_residual-in_err-take_step.result c.in_err-take_step.field-0.0 (OrMemory refusal_of (StepsFault c.args.graph.now c.args.k [] c.args.steps.now ⊥)) c.from_residual-in_err-take_step.ensures.1
    (Unless-of (refusal_of c.in_err-take_step.field-0.0)
    (next_stops c.args.graph.now c.args.k c.args.steps.now c.loop-step.step-index c.loop-step.last c.loop-step.claims.items c.loop-step.stamps.items c.loop-step.invariant c.step-item.result c.loop-step-test.true c.step-item.is
    c.in_err-take_step.field-0.0 c.in_err-take_step.ensures.fault))

pub loop-step-init : goal.loop-step-init
loop-step-init c =
    no_steps c.args.graph.now c.args.k c.args.steps.now c.in_ok-claims.claims.items c.in_ok-stamps.stamps.items (c.in_ok-claims.ensures.size ∙ c.len-count.ensures.count) (c.in_ok-stamps.ensures.size ∙ c.len-count.ensures.count) c.in_ok-claims.ensures.zero c.in_ok-stamps.ensures.zero

pub loop-step-preserved : goal.loop-step-preserved
loop-step-preserved c =
    let same : c.step.inside.node ≡ c.step-item.result.node = ap (λ (s : StepValue). s.node) c.step.view_is in
    rw same (next_taken c.args.graph.now c.args.k c.args.steps.now c.loop-step.step-index c.loop-step.last c.loop-step.claims.items c.loop-step.stamps.items c.loop-step.invariant c.step-item.result c.loop-step-test.true c.step-item.is
    c.in_ok-take_step.ensures.node c.in_ok-take_step.ensures.above c.in_ok-take_step.ensures.justified c.take_step.new.claims.items c.take_step.new.stamps.items c.in_ok-take_step.ensures.claims c.in_ok-take_step.ensures.size c.in_ok-take_step.ensures.used)

pub returns : goal.returns
returns c = record {
  size = c.loop-step.invariant.claims_size;
  claims = all_claims c.args.graph.now c.args.k c.args.steps.now c.loop-step.step-index c.loop-step.last c.loop-step.claims.items c.loop-step.stamps.items c.loop-step.invariant c.loop-step-test.false;
  in_turn = all_turn c.args.graph.now c.args.k c.args.steps.now c.loop-step.step-index c.loop-step.last c.loop-step.claims.items c.loop-step.stamps.items c.loop-step.invariant c.loop-step-test.false;
  fault = tt;
  normal = c.len-count.ensures.normal;
}
