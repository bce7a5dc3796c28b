use Rattle.blif_write.proofs.Common.{added_twice}
use Rattle.blif_write.proofs.tables.add_table_name.Goals as goal

pub returns : goal.returns
returns g c =
    added_twice c.add_byte.ensures
    (added_twice c.add_own.ensures c.add_byte-2.ensures)
