use Rattle.std.proofs.Common.{arith}
use Rattle.dirty_idx.proofs.ReadLemmas.{nodes_more}
use Rattle.dirty_idx.proofs.readers.node_readings_with.Goals as goal

pub loop-n-preserved : goal.loop-n-preserved
loop-n-preserved g c =
    rw (c.in_ok-push-2.ensures.items, c.in_ok-push.ensures.items) (nodes_more c.args.graph.now c.loop-n.n c.node-pair.result c.loop-n.readings.items (omega arith) c.node-pair.ensures.pair c.loop-n.invariant)
