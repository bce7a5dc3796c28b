use Rattle.cmd_run.proofs.Common.{map, sym, subst, Ends, outside, Outcome, run_seen, run_walk, unbegun_ends}
use Rattle.cmd_run.proofs.RunLemmas.{run_ends}
use Rattle.cmd_run.proofs.HeadlineLemmas.{run_laws}
use Rattle.cmd_run.proofs.run.job.run_job.Goals as goal

pub returns-in-Ok-clause-ends : goal.returns-in-Ok-clause-ends
returns-in-Ok-clause-ends g c =
    let words = run_seen c.args.words.now in
    let old = g.S.Shelf.seen c.args.shelf.now in
    let new = g.S.Shelf.seen c.prepare.new.shelf in
    let ports = map g.P.ConfigPort.port_seen c.args.ports.now.items in
    let others = map g.P.ConfigPort.port_seen c.play-played.new.ports.items in
    let before = g.O.Sink.seen c.args.out.now in
    let after = g.O.Sink.seen c.play-played.new.out in
    subst (λ (o : Outcome). Ends (run_walk words) old new (outside old before ports) (outside new after others) o) (sym c.outcome_of.ensures)
    (run_ends words c.in-Ok.ready old new before after ports others c.in-Ok.ensures.given c.in-Ok.ensures.prepared c.prepare.ensures.keeps c.play-played.result c.play-played.ensures.ends c.play-played.ensures.cause c.play-played.ensures.served
    c.play-played.ensures.failed)

pub returns-in-Ok-clause-laws : goal.returns-in-Ok-clause-laws
returns-in-Ok-clause-laws g c = run_laws (run_seen c.args.words.now)

pub returns-in-Err-clause-ends : goal.returns-in-Err-clause-ends
returns-in-Err-clause-ends g c =
    unbegun_ends (run_walk (run_seen c.args.words.now)) c.prepare.ensures.keeps (λ none. absurd none) (g.O.Sink.seen c.args.out.now) (map g.P.ConfigPort.port_seen c.args.ports.now.items) c.in-Err.outcome c.in-Err.ensures.err

pub returns-in-Err-clause-laws : goal.returns-in-Err-clause-laws
returns-in-Err-clause-laws g c = run_laws (run_seen c.args.words.now)
