use Rattle.aiger_io.proofs.Lemmas.{arith, slice_get-get_or, FlatLatch, latch_item, item_text, added_numbered}
use Rattle.aiger_io.proofs.written_text.add_latches.Goals as goal

pub loop-k-preserved : goal.loop-k-preserved
loop-k-preserved g c = added_numbered (λ k (latch : FlatLatch). item_text (latch_item c.args.inputs c.args.next.now k latch)) 0 c.args.latches.now c.loop-k.k c.loop-k.k _ (slice_get-get_or c.args.latches.now c.loop-k.k _ c.loop-k-test.true) (omega arith) c.loop-k.invariant c.add_latch.ensures
