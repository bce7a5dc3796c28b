use Rattle.list_laws.proofs.Items.{member_at}
use Rattle.aig_build.proofs.building.output_lits.Goals as goal

pub of-requires : goal.of-requires
of-requires c = c.requires c.port-item.result (member_at c.args.ports.now c.loop-port.port-index c.port-item.result c.loop-port-test.true c.port-item.is)
