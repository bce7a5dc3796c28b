use Rattle.aig_build.proofs.Common.{arith, member_at, Param}
use Rattle.aig_build.proofs.net_lits.marks.Goals as goal

pub index_mut-requires : goal.index_mut-requires
index_mut-requires c =
    let p : Param = c.param-item.result in
    omega (arith, c.loop-param.marks.ok.0, c.requires p (member_at c.args.params.now c.loop-param.param-index p c.loop-param-test.true c.param-item.is), c.loop-param.invariant.count)
