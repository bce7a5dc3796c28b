use Rattle.cmd_pack.proofs.Common.{◌≡◌, ◌≤◌, [], length, take, event_values, bank_seen, AreHostSteps, AreAllPut}
use Rattle.cmd_pack.proofs.bits.play.play_with.Given as goal

abbrev pub invariant-loop-event : goal.invariant-loop-event
invariant-loop-event g l = record {
  pack : l.host.pack ≡ l.initial.host.pack;
  no_ports : length (bank_seen g.P.ConfigPort.port_seen l.bank).serving ≡ 0;
  come : AreAllPut (AreHostSteps l.initial.host) [] (event_values (take l.event-index l.events)) (g.O.Sink.seen l.initial.out).bytes l.host (g.O.Sink.seen l.out).bytes;
  later : (g.O.Sink.seen l.initial.out).faults ≤ (g.O.Sink.seen l.out).faults;
}
