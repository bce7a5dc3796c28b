use Rattle.blif_write.proofs.Lemmas.{added_as, added_twice, control_names, head_text}
use Rattle.blif_write.proofs.writing.add_head.Goals as goal

pub returns : goal.returns
returns g c =
    added_as (head_text c.args.model.now c.args.names.now.regular (control_names c.args.control.now))
    (added_twice c.add_text.ensures
    (added_twice c.add_word.ensures
    (added_twice c.add_text-2.ensures
    (added_twice c.add_regular.ensures
    (added_twice c.add_control_net.ensures c.add_byte.ensures)))))
