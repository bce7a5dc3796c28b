use Rattle.std.proofs.lemmas.Result.{err_from_is_err_and}
use Rattle.run_core.proofs.host.Host.step.Goals as goal

pub returns-in_err-put-clause-holds : goal.returns-in_err-put-clause-holds
returns-in_err-put-clause-holds g c =
    let p = err_from_is_err_and c.from_residual-in_err-put.result c.from_residual-in_err-put.ensures.1 in
    rw (p.1, p.2, c.in_err-put.ensures.same) (c.in_ok-send.ensures.holds c.args.self.now c.play.ensures.played.is)
