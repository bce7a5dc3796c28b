use Rattle.cert_check.proofs.Common.{arith, step_text, added_item, added_none}
use Rattle.cert_check.proofs.written.add_steps.Goals as goal

pub loop-step-init : goal.loop-step-init
loop-step-init g c = added_none g.O.Sink.seen c.args.writer.now

pub loop-step-preserved : goal.loop-step-preserved
loop-step-preserved g c = added_item step_text c.args.steps.now c.loop-step.step-index c.step-item.result (omega arith) c.step-item.is c.loop-step.invariant c.add_step.ensures
