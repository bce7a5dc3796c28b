use Rattle.aiger_io.proofs.Common.{take, IsAdded, Param, numbered_text, symbol_text}
use Rattle.aiger_io.proofs.written_text.add_params.Given as goal

abbrev pub invariant-loop-k : goal.invariant-loop-k
invariant-loop-k g l = IsAdded g.O.Sink.seen l.fn.writer (numbered_text (λ k (p : Param). symbol_text 105 k p.name) l.first (take l.k l.params)) l.writer
