use Rattle.std.proofs.Common.{ap}
use Rattle.std.proofs.lemmas.Result.{err_from_is_err_and}
use Rattle.run_core.specs.Events.{MachineValue}
use Rattle.run_core.proofs.script_machine.Machine.step.Goals as goal

pub returns-in_err-put-clause-holds : goal.returns-in_err-put-clause-holds
returns-in_err-put-clause-holds g c =
    let p = err_from_is_err_and c.from_residual-in_err-put.result c.from_residual-in_err-put.ensures.1 in
    let host = ap (λ (m : MachineValue). m.host) c.self.view_is in
    rw (p.1, p.2, c.in_err-put.ensures.same, ← host) (c.in_ok-send.ensures.holds c.args.self.now.host (rw host c.play.ensures.played.host.is))
