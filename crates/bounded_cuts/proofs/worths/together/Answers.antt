use Rattle.bounded_cuts.proofs.Common.{get_or, In-get_or}
use Rattle.bounded_cuts.proofs.worths.together.Goals as goal

pub worth_of-worth-requires : goal.worth_of-worth-requires
worth_of-worth-requires c = c.requires.counted (get_or c.args.leaves.now c.loop-m.m-index 0) (In-get_or c.args.leaves.now c.loop-m.m-index 0 c.loop-m-test.true)
