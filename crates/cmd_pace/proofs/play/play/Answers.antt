use Rattle.cmd_pace.proofs.Common.{subst, pace_values, PacerValue, pacer_header, puts_behind, IsShown, EventsEnd}
use Rattle.cmd_pace.proofs.play.play.Goals as goal

pub returns-clause-ends : goal.returns-clause-ends
returns-clause-ends g c =
    let pacer = c.args.ready.now.pacer in
    let events = pace_values c.args.ready.now.events.items in
    let before = (g.O.Sink.seen c.args.out.now).bytes in
    let headed = (g.O.Sink.seen c.header.new.out).bytes in
    let after = (g.O.Sink.seen c.play_events.new.out).bytes in
    let header = c.in_ok-header.ensures in
    let ends = subst (λ (p : PacerValue). EventsEnd p events headed after c.play_events.result) header.same (rw c.deref.ensures.value at c.play_events.ensures.ends) in
    puts_behind (λ events lines state come. come) (pacer_header pacer) before headed header.put.grown IsShown events after c.play_events.result ends
