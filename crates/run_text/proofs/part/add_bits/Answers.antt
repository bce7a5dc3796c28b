use Rattle.run_text.proofs.Common.{arith, false, bit_digit, added_byte, added_none}
use Rattle.run_text.proofs.part.add_bits.Goals as goal

pub loop-bit-init : goal.loop-bit-init
loop-bit-init g c = added_none g.O.Sink.seen c.args.writer.now

pub loop-bit-preserved : goal.loop-bit-preserved
loop-bit-preserved g c = added_byte bit_digit c.args.bits.now c.loop-bit.bit-index c.digit.result false (omega arith) c.digit.ensures c.loop-bit.invariant c.add_byte.ensures
