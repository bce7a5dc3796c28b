use Rattle.blif_flat.proofs.Common.{length, ap, arith, member_at}
use Rattle.blif_flat.proofs.field.flat_ports.most_of.Goals as goal

pub underscores-requires : goal.underscores-requires
underscores-requires c =
    omega (arith, c.requires c.name-item.result (member_at c.args.names.now c.loop-name.name-index c.name-item.result c.loop-name-test.true c.name-item.is), ap length c.bytes.ensures)
