use Rattle.aiger_io.proofs.Common.{take, IsAdded, slice_index_or, [], numbered_text, symbol_text}
use Rattle.aiger_io.proofs.written_text.add_regular.Given as goal

abbrev pub invariant-loop-k : goal.invariant-loop-k
invariant-loop-k g l = IsAdded g.O.Sink.seen l.fn.writer (numbered_text (λ k i. symbol_text 105 k (slice_index_or l.inputs i [])) 0 (take l.k l.regular)) l.writer
