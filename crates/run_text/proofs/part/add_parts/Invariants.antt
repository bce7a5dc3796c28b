use Rattle.run_text.proofs.Common.{take, flat_map, IsAdded, part_text}
use Rattle.run_text.proofs.part.add_parts.Given as goal

abbrev pub invariant-loop-part : goal.invariant-loop-part
invariant-loop-part g l = IsAdded g.O.Sink.seen l.fn.writer (flat_map part_text (take l.part-index l.parts)) l.writer
