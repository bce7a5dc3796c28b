use Rattle.aiger_io.proofs.Lemmas.{decimal, added_as, added_twice, symbol_line}
use Rattle.aiger_io.proofs.written_line.add_symbol.Goals as goal

pub returns : goal.returns
returns g c = added_as (symbol_line c.args.letter (decimal c.args.ordinal) c.args.name.now) (added_twice c.add_byte.ensures (added_twice c.add_number.ensures (added_twice c.add_byte-2.ensures (added_twice c.add_text.ensures c.add_byte-3.ensures))))
