use Rattle.blif_write.proofs.Lemmas.{added_as, added_twice, specialised_is}
use Rattle.blif_write.proofs.writing.add_specialised.Goals as goal

pub returns : goal.returns
returns g c params e =
    added_as (specialised_is c.args.names.now c.args.flat.now params c.args.template.now c.args.config.now e)
    (added_twice c.add_flat_head.ensures
    (added_twice c.add_flat_outputs.ensures
    (added_twice c.add_flat_latches.ensures
    (added_twice c.add_configured_tables.ensures
    (added_twice c.add_flat_wires.ensures c.add_text.ensures)))))
