use Rattle.blif_write.proofs.Common.{arith, ◌≤◌, ◌^◌}
use Rattle.std.proofs.Math.Pow.{pow_mono}
use Rattle.cut_sets.specs.declared.limits.TheConstants.{MOST_LEAVES}
use Rattle.blif_write.proofs.rows.bit_count.Goals as goal

pub returns-clause-few : goal.returns-clause-few
returns-clause-few c = let p : 2 ^ c.args.leaves ≤ 2 ^ MOST_LEAVES = pow_mono c.requires in omega arith

pub returns-clause-value : goal.returns-clause-value
returns-clause-value c = let p : 2 ^ c.args.leaves ≤ 2 ^ MOST_LEAVES = pow_mono c.requires in omega arith
