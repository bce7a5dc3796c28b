use Rattle.port_bank.proofs.Lemmas.{sym, ◌∙◌, err_from_is_err_and, steps_accepted, steps_mended, steps_lost, on_ok_at, on_err_at}
use Rattle.port_bank.proofs.bank.PortBank.send_one.Goals as goal

pub returns-then-is_ok-clause-ok : goal.returns-then-is_ok-clause-ok
returns-then-is_ok-clause-ok g c =
    steps_accepted c.args.width c.args.config.now c.args.passed c.args.write _ _ c.if-region-passed.false
    (on_ok_at c.call.result (sym c.is_ok.ensures.value ∙ c.if-is_ok.true) c.call.ensures.ok)

pub returns-in_err-mend-clause-fault : goal.returns-in_err-mend-clause-fault
returns-in_err-mend-clause-fault g c =
    let p = err_from_is_err_and c.from_residual.result c.from_residual.ensures.1 in
    let f = c.in_err-mend.ensures.err in
    let lost = steps_lost c.args.width c.args.config.now c.args.passed c.args.write _ _ _ c.if-region-passed.false
    (on_err_at c.call.result (sym c.is_ok.ensures.value ∙ c.if-is_ok.false) c.call.ensures.err) f.1 in
    rw (p.1, p.2, f.0) lost

pub returns-clause-ok : goal.returns-clause-ok
returns-clause-ok g c =
    steps_mended c.args.width c.args.config.now c.args.passed c.args.write _ _ _ c.if-region-passed.false
    (on_err_at c.call.result (sym c.is_ok.ensures.value ∙ c.if-is_ok.false) c.call.ensures.err) c.in_ok-mend.ensures.ok
