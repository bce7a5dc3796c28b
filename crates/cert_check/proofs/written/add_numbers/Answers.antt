use Rattle.cert_check.proofs.Common.{arith, number_text, added_part, added_none}
use Rattle.cert_check.proofs.written.add_numbers.Goals as goal

pub loop-number-init : goal.loop-number-init
loop-number-init g c = added_none g.O.Sink.seen c.args.writer.now

pub loop-number-preserved : goal.loop-number-preserved
loop-number-preserved g c = added_part number_text c.args.numbers.now c.loop-number.number-index 0 (omega arith) c.loop-number.invariant c.add_number.ensures
