use Rattle.aiger_io.proofs.Common.{added_twice}
use Rattle.aiger_io.proofs.written_line.add_literal.Goals as goal

pub returns-clause-input : goal.returns-clause-input
returns-clause-input g c = added_twice c.add_number.ensures c.add_byte.ensures

pub returns-clause-output : goal.returns-clause-output
returns-clause-output g c = added_twice c.add_number.ensures c.add_byte.ensures
