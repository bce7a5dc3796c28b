use Rattle.std.proofs.Common.{arith, rules, ◌≤◌, ◌+◌, length}
use Rattle.port_bank.proofs.FilterLemmas.{called_ok, called_err}
use Rattle.port_bank.proofs.bank.PortBank.call.Goals as goal

pub returns-clause-ok : goal.returns-clause-ok
returns-clause-ok g c =
    let bank = c.args.self.now in
    let within : bank.serving + bank.spares + bank.failed ≤ length bank.ports.items = omega (arith, bank.within, bank.ports.ok.0) in
    search (rules, called_ok)

pub returns-clause-err : goal.returns-clause-err
returns-clause-err g c =
    let bank = c.args.self.now in
    let within : bank.serving + bank.spares + bank.failed ≤ length bank.ports.items = omega (arith, bank.within, bank.ports.ok.0) in
    grind (arith, called_err)
