use Rattle.blif_write.proofs.Lemmas.{written_latch, added_as, added_twice, latch_text}
use Rattle.blif_write.proofs.latches.add_latch.Goals as goal

pub returns : goal.returns
returns g c =
    added_as (latch_text (written_latch c.args.names.now c.args.control.now c.args.ordinal c.args.latch.now c.args.next))
    (added_twice c.add_text.ensures
    (added_twice c.add_literal.ensures
    (added_twice c.add_byte.ensures
    (added_twice c.add_own.ensures
    (added_twice c.add_control.ensures c.add_init.ensures)))))
