use Rattle.aiger_io.proofs.Common.{take, IsAdded, latch_item, numbered_text, item_text}
use Rattle.aiger_io.proofs.written_text.add_latches.Given as goal

abbrev pub invariant-loop-k : goal.invariant-loop-k
invariant-loop-k g l = IsAdded g.O.Sink.seen l.fn.writer (numbered_text (λ k latch. item_text (latch_item l.inputs l.next k latch)) 0 (take l.k l.latches)) l.writer
