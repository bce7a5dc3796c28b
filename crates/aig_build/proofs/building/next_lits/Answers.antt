use Rattle.list_laws.proofs.Members.{In-get_or}
use Rattle.aig_build.proofs.building.next_lits.Goals as goal

pub of-requires : goal.of-requires
of-requires c = c.requires _ (In-get_or c.args.latches.now c.loop-latch.latch-index _ c.loop-latch-test.true)
