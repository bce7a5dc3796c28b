use Rattle.blif_write.proofs.Lemmas.{added_as, added_twice, template_is}
use Rattle.blif_write.proofs.writing.add_template.Goals as goal

pub returns : goal.returns
returns g c params e =
    added_as (template_is c.args.names.now c.args.flat.now params c.args.template.now e)
    (added_twice c.add_flat_head.ensures
    (added_twice c.add_template_bits.ensures
    (added_twice c.add_flat_outputs.ensures
    (added_twice c.add_flat_latches.ensures
    (added_twice c.add_template_tables.ensures
    (added_twice c.add_flat_wires.ensures c.add_text.ensures))))))
