use Rattle.blif_write.proofs.Lemmas.{refl, added_as, added_twice, leaf_names, bit_names, tunable_table, two_lists}
use Rattle.blif_write.proofs.tables.add_tunable_table.Goals as goal

pub returns : goal.returns
returns g c =
    added_as (two_lists (tunable_table c.args.names.now c.args.table.now) (leaf_names c.args.names.now c.args.table.now) (bit_names c.args.names.now c.args.table.now) refl)
    (added_twice c.add_text.ensures
    (added_twice c.add_table_leaves.ensures
    (added_twice c.add_table_bits.ensures
    (added_twice c.add_table_name.ensures c.add_choice_rows.ensures))))
