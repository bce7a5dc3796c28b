use Rattle.std.proofs.Common.{◌≡◌, ◌-◌, ℕ, zero, suc, arith, refl}
use Rattle.port_bank.proofs.FilterLemmas.{retired, replaced_by}
use Rattle.port_bank.proofs.bank.PortBank.replace.Goals as goal

-- the spares but one are one fewer
some_left : (n : ℕ) → (n ≡ 0 → ⊥) → n ≡ suc (n - 1)
some_left zero other = absurd (other refl)
some_left (suc n) other = omega arith

pub returns-then-none_left-clause-fault : goal.returns-then-none_left-clause-fault
returns-then-none_left-clause-fault g c =
    let bank = c.args.self.now in
    let m = c.retire.ensures.moved in
    (refl, retired g.P.ConfigPort.port_seen bank.ports.items c.retire.new.boxes.items (bank.serving - 1) bank.serving bank.spares bank.failed c.args.region m.port c.requires (omega (arith, c.requires)) c.if-none_left.true (omega (arith, bank.within, bank.ports.ok.0)) m.was m.now)

pub returns-clause-ok : goal.returns-clause-ok
returns-clause-ok g c =
    let bank = c.args.self.now in
    let m = c.put_in_place.ensures.moved in
    replaced_by g.P.ConfigPort.port_seen bank.ports.items c.put_in_place.new.boxes.items bank.serving (bank.spares - 1) bank.spares bank.failed c.args.region m.spare m.port c.requires (some_left bank.spares c.if-none_left.false) (omega (arith, bank.within, bank.ports.ok.0)) m.was m.there m.now
