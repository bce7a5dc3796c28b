use Rattle.aiger_io.proofs.Common.{take, IsAdded, first_and, gate_item, numbered_text, item_text}
use Rattle.aiger_io.proofs.written_text.add_gates.Given as goal

abbrev pub invariant-loop-i : goal.invariant-loop-i
invariant-loop-i g l = IsAdded g.O.Sink.seen l.fn.writer (numbered_text (λ n pair. item_text (gate_item n pair)) (first_and l.graph) (take l.i l.graph.pairs)) l.writer
