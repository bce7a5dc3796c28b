use Rattle.aiger_io.proofs.Common.{added_twice}
use Rattle.aiger_io.proofs.written_line.add_number.Goals as goal

pub returns : goal.returns
returns g c = added_twice c.add_byte.ensures c.add_number.ensures
