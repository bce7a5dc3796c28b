use Rattle.blif_write.proofs.Lemmas.{◌-◌, arith, added_as, added_twice, chosen_row}
use Rattle.blif_write.proofs.rows.add_tunable_row.Goals as goal

pub returns : goal.returns
returns g c =
    added_as (chosen_row c.args.leaves c.args.v (c.bit_count-bits.result - 1 - c.args.v) (omega arith))
    (added_twice c.add_digits.ensures
    (added_twice c.add_repeated.ensures
    (added_twice c.add_byte.ensures
    (added_twice c.add_repeated-2.ensures c.add_text.ensures))))
