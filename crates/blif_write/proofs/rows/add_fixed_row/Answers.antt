use Rattle.blif_write.proofs.Lemmas.{arith, added_as, added_twice, with_digits}
use Rattle.blif_write.proofs.rows.add_fixed_row.Goals as goal

pub returns : goal.returns
returns g c =
    added_as (with_digits c.args.leaves c.args.v (omega arith))
    (added_twice c.add_digits.ensures c.add_text-2.ensures)
