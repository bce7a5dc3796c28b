use Rattle.cmd_pace.proofs.Common.{◌≤◌, [], take, pace_values, HaveShown, AreAllPut}
use Rattle.cmd_pace.proofs.PlayLemmas.{HasSameForm}
use Rattle.cmd_pace.proofs.play.play_with.Given as goal

abbrev pub invariant-loop-event : goal.invariant-loop-event
invariant-loop-event g l = record {
  form : HasSameForm l.initial.pacer l.pacer;
  come : AreAllPut (HaveShown l.initial.pacer) [] (pace_values (take l.event-index l.events)) (g.O.Sink.seen l.initial.out).bytes l.pacer (g.O.Sink.seen l.out).bytes;
  later : (g.O.Sink.seen l.initial.out).faults ≤ (g.O.Sink.seen l.out).faults;
}
