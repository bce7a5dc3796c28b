use Rattle.run_text.proofs.Common.{take, map, IsAdded, bit_digit}
use Rattle.run_text.proofs.part.add_bits.Given as goal

abbrev pub invariant-loop-bit : goal.invariant-loop-bit
invariant-loop-bit g l = IsAdded g.O.Sink.seen l.fn.writer (map bit_digit (take l.bit-index l.bits)) l.writer
