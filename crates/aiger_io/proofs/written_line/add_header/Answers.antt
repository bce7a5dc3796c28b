use Rattle.aiger_io.proofs.Lemmas.{decimal, added_as, added_twice, header_line}
use Rattle.aiger_io.proofs.written_line.add_header.Goals as goal

pub returns : goal.returns
returns g c = added_as (header_line (decimal c.args.h.now.variables) (decimal c.args.h.now.inputs) (decimal c.args.h.now.latches) (decimal c.args.h.now.outputs) (decimal c.args.h.now.ands))
    (added_twice c.add_text.ensures (added_twice c.add_number.ensures (added_twice c.add_number-2.ensures (added_twice c.add_number-3.ensures (added_twice c.add_number-4.ensures (added_twice c.add_number-5.ensures c.add_byte.ensures))))))
