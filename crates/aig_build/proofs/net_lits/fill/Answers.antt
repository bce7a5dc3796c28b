use Rattle.list_laws.proofs.Members.{In-get_or}
use Rattle.aig_build.proofs.net_lits.fill.Goals as goal

pub of-requires : goal.of-requires
of-requires c = c.requires _ (In-get_or c.args.numbers.now c.loop-net.net-index _ c.loop-net-test.true)
