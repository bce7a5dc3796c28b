use Rattle.bounded_cuts.proofs.Common.{◌≤◌, ◌^◌, arith, pow_mono}
use Rattle.bounded_cuts.proofs.price.lut_cost.Goals as goal

pub returns-clause-small : goal.returns-clause-small
returns-clause-small c = let p : 2 ^ c.args.leaves ≤ 2 ^ 6 = pow_mono c.requires in omega arith
