use Rattle.cmd_run.proofs.Common.{◌≡◌, take, event_values, Totals}
use Rattle.cmd_run.proofs.gen_command.play.play_with.Given as goal

abbrev pub invariant-loop-event : goal.invariant-loop-event
invariant-loop-event g l = record {
  pack : l.machine.host.pack ≡ l.initial.machine.host.pack;
  shape : l.machine.sim.shape ≡ l.initial.machine.sim.shape;
  totals : Totals l.initial.machine (event_values (take l.event-index l.events)) l.totals.writes l.totals.total l.machine;
}
