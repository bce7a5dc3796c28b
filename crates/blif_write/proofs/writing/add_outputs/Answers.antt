use Rattle.blif_write.proofs.Common.{added_twice}
use Rattle.blif_write.proofs.writing.add_outputs.Goals as goal

pub returns : goal.returns
returns g c =
    added_twice c.add_text.ensures
    (added_twice c.add_output_names.ensures c.add_byte.ensures)
