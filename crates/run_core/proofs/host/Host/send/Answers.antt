use Rattle.port_bank.specs.Moves.{start}
use Rattle.run_core.proofs.host.Host.send.Goals as goal

pub returns-in-Cycle-clause-left : goal.returns-in-Cycle-clause-left
returns-in-Cycle-clause-left g c = start

pub returns-in-Cycle-2-clause-left : goal.returns-in-Cycle-2-clause-left
returns-in-Cycle-2-clause-left g c = start
