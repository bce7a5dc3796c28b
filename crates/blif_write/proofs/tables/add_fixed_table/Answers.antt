use Rattle.blif_write.proofs.Lemmas.{fixed_table, added_as, added_twice, one_list}
use Rattle.blif_write.proofs.tables.add_fixed_table.Goals as goal

pub returns : goal.returns
returns g c =
    added_as (one_list (fixed_table c.args.names.now c.args.config.now c.args.table.now))
    (added_twice c.add_text.ensures
    (added_twice c.add_table_leaves.ensures
    (added_twice c.add_table_name.ensures c.add_table_rows.ensures)))
