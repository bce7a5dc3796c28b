use Rattle.cover_pick.proofs.Common.{arith, ◌≤◌, ◌^◌, MOST_LEAVES}
use Rattle.std.proofs.Math.Pow.{pow_mono}
use Rattle.cover_pick.proofs.tables.table_bits.Goals as goal

pub returns-clause-few : goal.returns-clause-few
returns-clause-few c = let p : 2 ^ c.args.leaves ≤ 2 ^ MOST_LEAVES = pow_mono c.requires in omega arith
