use Rattle.spec_core.proofs.Common.{arith, In-get_or}
use Rattle.spec_core.proofs.evaluation.mark_all.Goals as goal

pub mark-requires : goal.mark-requires
mark-requires c = omega (arith, c.requires _ (In-get_or c.args.numbers.now c.loop-n.n-index 0 (omega arith)))
