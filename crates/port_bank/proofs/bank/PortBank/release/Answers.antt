use Rattle.port_bank.proofs.Lemmas.{arith, sym, map, length-map, parts_joined}
use Rattle.port_bank.proofs.bank.PortBank.release.Goals as goal

pub returns : goal.returns
returns g c =
    let seen = g.P.ConfigPort.port_seen in
    let bank = c.args.self in
    sym (parts_joined bank.serving bank.spares bank.failed (map seen bank.ports.items) (omega (arith, bank.within, bank.ports.ok.0, length-map bank.ports.items seen)))
