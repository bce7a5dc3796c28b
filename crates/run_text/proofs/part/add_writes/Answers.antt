use Rattle.run_text.proofs.Common.{arith, write_text, added_part, added_none}
use Rattle.run_text.proofs.part.add_writes.Goals as goal

pub loop-write-init : goal.loop-write-init
loop-write-init g c = added_none g.O.Sink.seen c.args.writer.now

pub loop-write-preserved : goal.loop-write-preserved
loop-write-preserved g c = added_part write_text c.args.writes.now c.loop-write.write-index _ (omega arith) c.loop-write.invariant c.add_write.ensures
