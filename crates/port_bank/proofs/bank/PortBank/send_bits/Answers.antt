use Rattle.port_bank.proofs.Lemmas.{◌<◌, map, take, length, ap, refl, ◌∙◌, arith, err_from_is_err_and, writes_from, bank_seen, wide, has_port, serving_count, left_here, ascend_from, sends_none, sends_more, sends_lost, sends_all, length-writes_from, sent_in_bank, lost_in_bank, no_port}
use Rattle.port_bank.proofs.bank.PortBank.send_bits.Goals as goal

pub returns-then-self-eq0 : goal.returns-then-self-eq0
returns-then-self-eq0 g c =
    no_port _ c.args.config.now (writes_from 0 c.args.config.now) (bank_seen g.P.ConfigPort.port_seen c.args.self.now)
    (ap (λ n. take n (map g.P.ConfigPort.port_seen c.args.self.now.ports.items)) c.if-self-eq0.true)

pub loop-address-init : goal.loop-address-init
loop-address-init g c = record { serving = refl; sent = sends_none c.width_of-width.result c.args.config.now (writes_from 0 c.args.config.now) _ }

pub send_one-requires-clause-region : goal.send_one-requires-clause-region
send_one-requires-clause-region g c =
    let s = c.args.self.now.serving in
    let below = has_port s (length c.args.config.now) c.loop-address.address (omega (arith, c.if-self-eq0.false)) c.loop-address-test.true in
    rw (c.width_of-width.ensures, c.loop-address.invariant.serving) below

pub returns-in_err-passed : goal.returns-in_err-passed
returns-in_err-passed g c =
    let p = err_from_is_err_and c.from_residual.result c.from_residual.ensures.1 in
    let bank = c.args.self.now in
    let old = bank_seen g.P.ConfigPort.port_seen bank in
    let config = c.args.config.now in
    let w = c.width_of-width.result in
    let some : 0 < w = rw c.width_of-width.ensures (wide bank.serving (length config) c.loop-address.address c.loop-address-test.true) in
    let lost = sends_lost w c.loop-address.address c.loop-address.passed _ config (writes_from 0 config) _ old _ _ some (ascend_from config 0) (left_here config c.loop-address.address c.loop-address-test.true) c.loop-address.invariant.sent c.in_err-passed.ensures.fault in
    rw (p.1, p.2) (lost_in_bank w bank.serving config (writes_from 0 config) old _ _ c.width_of-width.ensures
    (serving_count g.P.ConfigPort.port_seen bank.ports.items bank.serving bank.spares bank.failed (omega (arith, bank.within, bank.ports.ok.0))) (omega (arith, c.if-self-eq0.false)) lost)

pub loop-address-preserved : goal.loop-address-preserved
loop-address-preserved g c =
    let bank = c.args.self.now in
    let config = c.args.config.now in
    let w = c.width_of-width.result in
    let some : 0 < w = rw c.width_of-width.ensures (wide bank.serving (length config) c.loop-address.address c.loop-address-test.true) in
    record {
      serving = c.in_ok-passed.ensures.serving ∙ c.loop-address.invariant.serving;
      sent = sends_more w c.loop-address.address c.loop-address.passed _ config (writes_from 0 config) _ _ _ _ some (ascend_from config 0) (left_here config c.loop-address.address c.loop-address-test.true) c.loop-address.invariant.sent c.in_ok-passed.ensures.ok;
    }

pub returns : goal.returns
returns g c =
    let bank = c.args.self.now in
    let old = bank_seen g.P.ConfigPort.port_seen bank in
    let config = c.args.config.now in
    let w = c.width_of-width.result in
    let sent = sends_all w c.loop-address.address c.loop-address.passed config (writes_from 0 config) old _ (omega (arith, c.loop-address-test.false, length-writes_from config 0)) c.loop-address.invariant.sent in
    sent_in_bank w bank.serving config (writes_from 0 config) old _ c.width_of-width.ensures
    (serving_count g.P.ConfigPort.port_seen bank.ports.items bank.serving bank.spares bank.failed (omega (arith, bank.within, bank.ports.ok.0))) (omega (arith, c.if-self-eq0.false)) sent
