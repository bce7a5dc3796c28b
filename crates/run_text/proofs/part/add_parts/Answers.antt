use Rattle.run_text.proofs.Common.{arith, part_text, added_part, added_none}
use Rattle.run_text.proofs.part.add_parts.Goals as goal

pub loop-part-init : goal.loop-part-init
loop-part-init g c = added_none g.O.Sink.seen c.args.writer.now

pub loop-part-preserved : goal.loop-part-preserved
loop-part-preserved g c = added_part part_text c.args.parts.now c.loop-part.part-index _ (omega arith) c.loop-part.invariant c.add_part.ensures
