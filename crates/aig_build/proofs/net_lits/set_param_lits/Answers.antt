use Rattle.aig_build.proofs.Common.{arith, member_at, Param}
use Rattle.aig_build.proofs.net_lits.set_param_lits.Goals as goal

pub bounds-lits-param : goal.bounds-lits-param
bounds-lits-param c =
    let p : Param = c.param-item.result in
    omega (arith, c.requires.places p (member_at c.args.params.now c.loop-param.param-index p c.loop-param-test.true c.param-item.is), c.loop-param.invariant.count)
