use Rattle.aiger_io.proofs.Common.{take, IsAdded, flat_map, output_item, item_text}
use Rattle.aiger_io.proofs.written_text.add_outputs.Given as goal

abbrev pub invariant-loop-l : goal.invariant-loop-l
invariant-loop-l g l = IsAdded g.O.Sink.seen l.fn.writer (flat_map (λ o. item_text (output_item o)) (take l.l-index l.outputs)) l.writer
