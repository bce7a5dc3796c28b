use Rattle.blif_write.proofs.Lemmas.{arith, added_as, added_to, added_none, latch_next, latches_whole}
use Rattle.blif_write.proofs.latches.add_latches.Goals as goal

pub loop-ordinal-init : goal.loop-ordinal-init
loop-ordinal-init g c = added_none g.O.Sink.seen c.args.writer.now

pub loop-ordinal-preserved : goal.loop-ordinal-preserved
loop-ordinal-preserved g c = added_to (latch_next c.args.names.now c.args.control.now c.args.latches.now c.args.nexts.now c.loop-ordinal.ordinal _ _ c.requires (omega arith)) c.loop-ordinal.invariant c.add_latch.ensures

pub returns : goal.returns
returns g c = added_as (latches_whole c.args.names.now c.args.control.now c.args.latches.now c.args.nexts.now c.loop-ordinal.ordinal c.requires (omega arith)) c.loop-ordinal.invariant
