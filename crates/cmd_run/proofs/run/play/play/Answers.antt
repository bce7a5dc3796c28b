use Rattle.cmd_run.proofs.Common.{map, arith, length-map, event_values, bank_seen}
use Rattle.cmd_run.proofs.PortLemmas.{run_served, run_failed}
use Rattle.cmd_run.proofs.run.play.play.Goals as goal

pub returns-clause-ends : goal.returns-clause-ends
returns-clause-ends g c shelf = record {
  bank = bank_seen g.P.ConfigPort.port_seen c.play_all-result.new.bank;
  end = rw (c.make-bank.ensures, c.replace-handed_in.ensures.value, c.deref.ensures.value) at c.play_all-result.ensures.ends;
  ports = c.release.ensures;
  cause = c.play_all-result.ensures.cause;
}

pub returns-clause-served : goal.returns-clause-served
returns-clause-served g c =
    let seen = g.P.ConfigPort.port_seen in
    let old = map seen c.args.ports.now.items in
    let ends = rw (c.make-bank.ensures, c.replace-handed_in.ensures.value, c.deref.ensures.value) at c.play_all-result.ensures.ends in
    run_served c.args.counts c.args.ready.now.machine (event_values c.args.ready.now.events.items) (g.O.Sink.seen c.args.out.now).bytes (g.O.Sink.seen c.play_all-result.new.out).bytes old (map seen c.release.result.items)
    (bank_seen seen c.play_all-result.new.bank) c.play_all-result.result ends c.release.ensures

pub returns-clause-failed : goal.returns-clause-failed
returns-clause-failed g c is =
    let seen = g.P.ConfigPort.port_seen in
    let old = map seen c.args.ports.now.items in
    let ends = rw (c.make-bank.ensures, c.replace-handed_in.ensures.value, c.deref.ensures.value, is) at c.play_all-result.ensures.ends in
    run_failed c.args.counts c.args.ready.now.machine (event_values c.args.ready.now.events.items) (g.O.Sink.seen c.args.out.now).bytes (g.O.Sink.seen c.play_all-result.new.out).bytes old (map seen c.release.result.items)
    (bank_seen seen c.play_all-result.new.bank) (omega (arith, c.requires.within, length-map c.args.ports.now.items seen)) ends c.release.ensures
