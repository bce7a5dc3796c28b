use Rattle.aiger_io.proofs.Common.{take, IsAdded, OutPort, numbered_text, symbol_text}
use Rattle.aiger_io.proofs.written_text.add_names.Given as goal

abbrev pub invariant-loop-k : goal.invariant-loop-k
invariant-loop-k g l = IsAdded g.O.Sink.seen l.fn.writer (numbered_text (λ k (o : OutPort). symbol_text 111 k o.name) 0 (take l.k l.outputs)) l.writer
