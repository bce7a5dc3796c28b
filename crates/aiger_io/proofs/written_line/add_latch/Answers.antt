use Rattle.aiger_io.proofs.Lemmas.{decimal, added_as, added_twice, latch_line}
use Rattle.aiger_io.proofs.written_line.add_latch.Goals as goal

pub returns : goal.returns
returns g c = added_as (latch_line (decimal c.args.own) (decimal c.args.next) c.args.init) (added_twice c.add_number.ensures (added_twice c.add_number-2.ensures (added_twice c.add_init.ensures c.add_byte.ensures)))
