use Rattle.aiger_io.proofs.Lemmas.{decimal, added_as, added_twice, gate_line}
use Rattle.aiger_io.proofs.written_line.add_gate.Goals as goal

pub returns : goal.returns
returns g c = added_as (gate_line (decimal c.args.own) (decimal c.args.left) (decimal c.args.right)) (added_twice c.add_number.ensures (added_twice c.add_number-2.ensures (added_twice c.add_number-3.ensures c.add_byte.ensures)))
