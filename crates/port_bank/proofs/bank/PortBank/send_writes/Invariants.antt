use Rattle.port_bank.proofs.Common.{◌≡◌, drop, Reaches, bank_seen, from_region}
use Rattle.port_bank.proofs.bank.PortBank.send_writes.Given as goal

abbrev pub invariant-loop-write : goal.invariant-loop-write
invariant-loop-write g l = record {
  serving : l.self.serving ≡ l.fn.self.serving;
  sent : Reaches l.width l.config l.writes (bank_seen g.P.ConfigPort.port_seen l.fn.self)
      (from_region l.width l.passed (drop l.write-index l.writes)) (bank_seen g.P.ConfigPort.port_seen l.self);
}
