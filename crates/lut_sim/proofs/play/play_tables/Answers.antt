use Rattle.lut_sim.proofs.Common.{◌<◌, arith, length, subst, sym, In, In-get_or, IsTableInRoom}
use Rattle.lut_sim.proofs.play.play_tables.Goals as goal

pub play_table-requires : goal.play_table-requires
play_table-requires c =
    let inside : c.loop-table.table-index < length c.args.tables.now = omega arith in
    let member : In c.args.tables.now c.table-item.result = subst (λ t. In c.args.tables.now t) (sym c.table-item.is) (In-get_or c.args.tables.now c.loop-table.table-index c.table-item.result inside) in
    subst (λ n. IsTableInRoom c.table-item.result (length c.args.config.now) n) (sym c.loop-table.auto.values) (c.requires c.table-item.result member)
