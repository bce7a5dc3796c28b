use Rattle.port_bank.proofs.Common.{◌≡◌, drop, writes_from, Reaches, bank_seen, from_region}
use Rattle.port_bank.proofs.bank.PortBank.send_bits.Given as goal

abbrev pub invariant-loop-address : goal.invariant-loop-address
invariant-loop-address g l = record {
  serving : l.self.serving ≡ l.fn.self.serving;
  sent : Reaches l.width l.config (writes_from 0 l.config) (bank_seen g.P.ConfigPort.port_seen l.fn.self)
      (from_region l.width l.passed (drop l.address (writes_from 0 l.config))) (bank_seen g.P.ConfigPort.port_seen l.self);
}
