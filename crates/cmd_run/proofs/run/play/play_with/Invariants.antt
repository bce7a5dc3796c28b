use Rattle.cmd_run.proofs.Common.{◌≡◌, ◌≤◌, [], take, event_values, Holds, bank_seen, AreSteps, AreAllPut}
use Rattle.cmd_run.proofs.run.play.play_with.Given as goal

abbrev pub invariant-loop-event : goal.invariant-loop-event
invariant-loop-event g l = record {
  pack : l.machine.host.pack ≡ l.initial.machine.host.pack;
  shape : l.machine.sim.shape ≡ l.initial.machine.sim.shape;
  holds : Holds l.machine.host.state.config (bank_seen g.P.ConfigPort.port_seen l.bank);
  come : AreAllPut (AreSteps (record { machine = l.initial.machine; bank = bank_seen g.P.ConfigPort.port_seen l.initial.bank })) [] (event_values (take l.event-index l.events)) (g.O.Sink.seen l.initial.out).bytes
      (record { machine = l.machine; bank = bank_seen g.P.ConfigPort.port_seen l.bank }) (g.O.Sink.seen l.out).bytes;
  later : (g.O.Sink.seen l.initial.out).faults ≤ (g.O.Sink.seen l.out).faults;
}
