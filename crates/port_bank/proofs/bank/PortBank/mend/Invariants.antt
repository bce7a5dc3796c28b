use Rattle.port_bank.proofs.Common.{◌≡◌, bank_seen}
use Rattle.port_bank.proofs.SendLemmas.{StillBroken}
use Rattle.port_bank.proofs.bank.PortBank.mend.Given as goal

abbrev pub invariant-spares : goal.invariant-spares
invariant-spares g l = record {
  serving : l.self.serving ≡ l.fn.self.serving;
  broken : StillBroken l.width l.config l.region (bank_seen g.P.ConfigPort.port_seen l.fn.self) (bank_seen g.P.ConfigPort.port_seen l.self);
}

abbrev pub decreases-spares : goal.decreases-spares
decreases-spares g l = l.self.spares
