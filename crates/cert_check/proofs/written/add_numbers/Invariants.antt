use Rattle.cert_check.proofs.Common.{take, flat_map, IsAdded, number_text}
use Rattle.cert_check.proofs.written.add_numbers.Given as goal

abbrev pub invariant-loop-number : goal.invariant-loop-number
invariant-loop-number g l = IsAdded g.O.Sink.seen l.fn.writer (flat_map number_text (take l.number-index l.numbers)) l.writer
