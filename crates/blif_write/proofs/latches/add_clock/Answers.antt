use Rattle.blif_write.proofs.Lemmas.{clock_text, added_as, added_twice}
use Rattle.blif_write.proofs.latches.add_clock.Goals as goal

pub returns : goal.returns
returns g c =
    added_as (clock_text c.args.control.now)
    (added_twice c.add_text.ensures c.add_word.ensures)
