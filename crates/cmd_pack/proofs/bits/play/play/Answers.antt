use Rattle.cmd_pack.proofs.Lemmas.{event_values, rose_later, play_end}
use Rattle.cmd_pack.proofs.bits.play.play.Goals as goal

pub returns-clause-ends : goal.returns-clause-ends
returns-clause-ends g c =
    let before = g.O.Sink.seen c.args.out.now in
    let headed = g.O.Sink.seen c.put_bits_header.new.out in
    let after = g.O.Sink.seen c.play_events.new.out in
    play_end c.args.ready.now.host (event_values c.args.ready.now.events.items) before headed after c.play_events.result c.in_ok-put_bits_header.ensures.put.grown
    (rw c.in_ok-put_bits_header.ensures.same at (rw c.deref.ensures.value at c.play_events.ensures.ends)) (rose_later before.faults headed.faults after.faults c.play_events.result c.in_ok-put_bits_header.ensures.put.cause.later c.play_events.ensures.cause.failed)
