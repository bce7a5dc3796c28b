use Rattle.port_bank.proofs.Lemmas.{sym, ◌∙◌, err_from_is_err_and, broken_more, mends_now, mends_never, on_ok_at, on_err_at}
use Rattle.port_bank.proofs.bank.PortBank.mend.Goals as goal

pub returns-in_err-replace-clause-err : goal.returns-in_err-replace-clause-err
returns-in_err-replace-clause-err g c =
    let p = err_from_is_err_and c.from_residual.result c.from_residual.ensures.1 in
    let f = c.in_err-replace.ensures.fault in
    rw (p.1, p.2) (f.0, mends_never c.args.width c.args.config.now c.args.region _ _ _ c.spares.invariant.broken f.1)

pub returns-then-is_ok-clause-ok : goal.returns-then-is_ok-clause-ok
returns-then-is_ok-clause-ok g c =
    mends_now c.args.width c.args.config.now c.args.region _ _ _ _ c.spares.invariant.broken c.in_ok-replace.ensures.ok
    (on_ok_at c.fill.result (sym c.is_ok.ensures.value ∙ c.if-is_ok.true) c.fill.ensures.ok)

pub spares-preserved : goal.spares-preserved
spares-preserved g c = record {
  serving = c.fill.ensures.serving ∙ (c.in_ok-replace.ensures.serving ∙ c.spares.invariant.serving);
  broken = broken_more c.args.width c.args.config.now c.args.region _ _ _ _ c.spares.invariant.broken c.in_ok-replace.ensures.ok
      (on_err_at c.fill.result (sym c.is_ok.ensures.value ∙ c.if-is_ok.false) c.fill.ensures.err);
}
