use Rattle.blif_write.proofs.Common.{added_twice}
use Rattle.blif_write.proofs.tables.add_bit_line.Goals as goal

pub returns : goal.returns
returns g c =
    added_twice c.add_text.ensures
    (added_twice c.add_table_bits.ensures c.add_byte.ensures)
