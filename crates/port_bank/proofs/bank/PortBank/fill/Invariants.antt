use Rattle.port_bank.proofs.Common.{◌≡◌, bank_seen}
use Rattle.port_bank.proofs.SendLemmas.{FillsFirst}
use Rattle.port_bank.proofs.bank.PortBank.fill.Given as goal

abbrev pub invariant-loop-i : goal.invariant-loop-i
invariant-loop-i g l = record {
  serving : l.self.serving ≡ l.fn.self.serving;
  spares : l.self.spares ≡ l.fn.self.spares;
  first : FillsFirst l.width l.config l.region l.i (bank_seen g.P.ConfigPort.port_seen l.fn.self) (bank_seen g.P.ConfigPort.port_seen l.self);
}
