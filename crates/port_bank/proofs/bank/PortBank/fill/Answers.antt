use Rattle.port_bank.proofs.Lemmas.{true, false, ◌∙◌, err_from_is_err_and, fills_more, fills_all, fills_breaks, at_place, inside_bits, past_bits}
use Rattle.port_bank.proofs.bank.PortBank.fill.Goals as goal

pub returns-in_err-call-clause-err : goal.returns-in_err-call-clause-err
returns-in_err-call-clause-err g c =
    let p = err_from_is_err_and c.from_residual.result c.from_residual.ensures.1 in
    let r = c.region_bits-start in
    let w = c.args.width in
    let config = c.args.config.now in
    let i = c.args.region in
    let k = c.loop-i.i in
    rw p.1 (fills_breaks w config i k _ _ _ (inside_bits w config i k r.result.1.now r.ensures.bits c.loop-i-test.true) c.loop-i.invariant.first
    (at_place w config i k r.result.0 r.result.1.now false _ _ r.ensures.start r.ensures.bits c.in_err-call.ensures.err))

pub loop-i-preserved : goal.loop-i-preserved
loop-i-preserved g c =
    let r = c.region_bits-start in
    let w = c.args.width in
    let config = c.args.config.now in
    let i = c.args.region in
    let k = c.loop-i.i in
    record {
      serving = c.in_ok-call.ensures.serving ∙ c.loop-i.invariant.serving;
      spares = c.in_ok-call.ensures.spares ∙ c.loop-i.invariant.spares;
      first = fills_more w config i k _ _ _ (inside_bits w config i k r.result.1.now r.ensures.bits c.loop-i-test.true) c.loop-i.invariant.first
          (at_place w config i k r.result.0 r.result.1.now true _ _ r.ensures.start r.ensures.bits c.in_ok-call.ensures.ok);
    }

pub returns-clause-ok : goal.returns-clause-ok
returns-clause-ok g c =
    let r = c.region_bits-start in
    fills_all c.args.width c.args.config.now c.args.region c.loop-i.i _ _
    (past_bits c.args.width c.args.config.now c.args.region c.loop-i.i r.result.1.now r.ensures.bits c.loop-i-test.false) c.loop-i.invariant.first
