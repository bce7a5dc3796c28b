use Rattle.aiger_io.proofs.Common.{ℕ, flat_map, range_with_len, IsAdded, input_item, item_text}
use Rattle.aiger_io.proofs.written_text.add_inputs.Given as goal

abbrev pub invariant-loop-i : goal.invariant-loop-i
invariant-loop-i g l = IsAdded g.O.Sink.seen l.fn.writer (flat_map (λ (n : ℕ). item_text (input_item n)) (range_with_len 1 l.i)) l.writer
