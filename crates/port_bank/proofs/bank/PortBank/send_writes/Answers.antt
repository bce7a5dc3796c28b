use Rattle.port_bank.proofs.Lemmas.{◌<◌, ℕ, Bool, List, map, take, length, get_or, false, ap, refl, ◌∙◌, arith, drop_more, err_from_is_err_and, In-get_or, Write, slice_get_within, AreBitsOf, bank_seen, wide, has_port, serving_count, sends_none, sends_more, sends_lost, sends_all, sent_in_bank, lost_in_bank, no_port}
use Rattle.port_bank.proofs.bank.PortBank.send_writes.Goals as goal

-- a write's address is one of the configuration
address_below : (config : List Bool) (writes : List Write) (i : ℕ) (d : Write) → AreBitsOf config writes → i < length writes → (get_or writes i d).address < length config
address_below config writes i d b h = slice_get_within config (get_or writes i d).address (get_or writes i d).bit (b.bits (get_or writes i d) (In-get_or writes i d h))

pub returns-then-self-eq0 : goal.returns-then-self-eq0
returns-then-self-eq0 g c =
    no_port _ c.args.config.now c.args.writes.now (bank_seen g.P.ConfigPort.port_seen c.args.self.now)
    (ap (λ n. take n (map g.P.ConfigPort.port_seen c.args.self.now.ports.items)) c.if-self-eq0.true)

pub loop-write-init : goal.loop-write-init
loop-write-init g c = record { serving = refl; sent = sends_none c.width_of-width.result c.args.config.now c.args.writes.now _ }

pub send_one-requires-clause-address : goal.send_one-requires-clause-address
send_one-requires-clause-address g c = address_below c.args.config.now c.args.writes.now c.loop-write.write-index _ c.requires.bits c.loop-write-test.true

pub send_one-requires-clause-width : goal.send_one-requires-clause-width
send_one-requires-clause-width g c =
    rw c.width_of-width.ensures (wide c.args.self.now.serving (length c.args.config.now) _ (address_below c.args.config.now c.args.writes.now c.loop-write.write-index (record { address = 0; bit = false }) c.requires.bits c.loop-write-test.true))

pub send_one-requires-clause-region : goal.send_one-requires-clause-region
send_one-requires-clause-region g c =
    let below = has_port c.args.self.now.serving (length c.args.config.now) _ (omega (arith, c.if-self-eq0.false)) (address_below c.args.config.now c.args.writes.now c.loop-write.write-index (record { address = 0; bit = false }) c.requires.bits c.loop-write-test.true) in
    rw (c.width_of-width.ensures, c.loop-write.invariant.serving) below

pub returns-in_err-passed : goal.returns-in_err-passed
returns-in_err-passed g c =
    let p = err_from_is_err_and c.from_residual.result c.from_residual.ensures.1 in
    let bank = c.args.self.now in
    let old = bank_seen g.P.ConfigPort.port_seen bank in
    let config = c.args.config.now in
    let writes = c.args.writes.now in
    let i = c.loop-write.write-index in
    let w = c.width_of-width.result in
    let none : Write = record { address = 0; bit = false } in
    let some : 0 < w = rw c.width_of-width.ensures (wide bank.serving (length config) _ (address_below config writes i none c.requires.bits c.loop-write-test.true)) in
    let lost = sends_lost w i c.loop-write.passed _ config writes _ old _ _ some c.requires.ascending (drop_more writes i none c.loop-write-test.true) c.loop-write.invariant.sent c.in_err-passed.ensures.fault in
    rw (p.1, p.2) (lost_in_bank w bank.serving config writes old _ _ c.width_of-width.ensures
    (serving_count g.P.ConfigPort.port_seen bank.ports.items bank.serving bank.spares bank.failed (omega (arith, bank.within, bank.ports.ok.0))) (omega (arith, c.if-self-eq0.false)) lost)

pub loop-write-preserved : goal.loop-write-preserved
loop-write-preserved g c =
    let bank = c.args.self.now in
    let config = c.args.config.now in
    let writes = c.args.writes.now in
    let i = c.loop-write.write-index in
    let w = c.width_of-width.result in
    let none : Write = record { address = 0; bit = false } in
    let some : 0 < w = rw c.width_of-width.ensures (wide bank.serving (length config) _ (address_below config writes i none c.requires.bits c.loop-write-test.true)) in
    record {
      serving = c.in_ok-passed.ensures.serving ∙ c.loop-write.invariant.serving;
      sent = sends_more w i c.loop-write.passed _ config writes _ _ _ _ some c.requires.ascending (drop_more writes i none c.loop-write-test.true) c.loop-write.invariant.sent c.in_ok-passed.ensures.ok;
    }

pub returns : goal.returns
returns g c =
    let bank = c.args.self.now in
    let old = bank_seen g.P.ConfigPort.port_seen bank in
    let config = c.args.config.now in
    let writes = c.args.writes.now in
    let w = c.width_of-width.result in
    let sent = sends_all w c.loop-write.write-index c.loop-write.passed config writes old _ (omega (arith, c.loop-write-test.false)) c.loop-write.invariant.sent in
    sent_in_bank w bank.serving config writes old _ c.width_of-width.ensures
    (serving_count g.P.ConfigPort.port_seen bank.ports.items bank.serving bank.spares bank.failed (omega (arith, bank.within, bank.ports.ok.0))) (omega (arith, c.if-self-eq0.false)) sent
