use Rattle.aiger_io.proofs.Common.{added_part, Lit, output_item, item_text}
use Rattle.aiger_io.proofs.written_text.add_outputs.Goals as goal

pub loop-l-preserved : goal.loop-l-preserved
loop-l-preserved g c = added_part (λ (o : Lit). item_text (output_item o)) c.args.outputs.now c.loop-l.l-index (record { 0 = 0 }) c.loop-l-test.true c.loop-l.invariant c.add_literal.ensures.output
