use Rattle.std.proofs.Common.{◌≡◌, ap, sym, subst, map, string_bytes, length, rules}
use Rattle.std.proofs.lemmas.List.{length-map}
use Rattle.tl_io.specs.DiskValue.{shelf_on_disk}
use Rattle.tl_io.specs.StdSinkValue.{sink_of_std}
use Rattle.tlut_cli.specs.Words.{Rule}
use Rattle.tlut_main.specs.Ends.{HasEnded}
use Rattle.tlut_main.proofs.EndLemmas.{ended}
use Rattle.tlut_main.proofs.run_with_ports.Goals as goal
use Rattle.tlut_main.proofs.run_with_ports.Goals.{in-FewestLeaves, in-LeastCost}

pub returns-clause-ended : goal.returns-clause-ended
returns-clause-ended g c =
    let ports = c.loop-before.ports.items in
    let all : length ports ≡ 4 = search (rules, c.loop-before.invariant, c.loop-before-test.false) in
    let Ended = λ (r : Rule). HasEnded r (map string_bytes c.args.call.words.now) (shelf_on_disk c.args.shelf.now) (shelf_on_disk c.finish.new.shelf) (g.E.Sink.seen c.args.err.now) (g.E.Sink.seen c.finish.new.err) c.finish.result in
    elim c.match-rule.branch [
      | in-FewestLeaves w ↦ subst Ended (sym w.in-FewestLeaves.is) (ended _ w.tlut-status.result c.match-rule.status c.finish.result (length-map ports _) all (ap sink_of_std c.make-out.ensures) w.status-is (ap shelf_on_disk w.shelf-is) (ap g.E.Sink.seen w.err-is) w.tlut-status.ensures.usage w.tlut-status.ensures.meaning w.tlut-status.ensures.told c.finish.ensures.kept c.finish.ensures.shelf)
      | in-LeastCost w ↦ ended _ w.tlut_by-status.result c.match-rule.status c.finish.result (length-map ports _) all (ap sink_of_std c.make-out.ensures) w.status-is (ap shelf_on_disk w.shelf-is) (ap g.E.Sink.seen w.err-is) w.tlut_by-status.ensures.usage w.tlut_by-status.ensures.meaning w.tlut_by-status.ensures.told c.finish.ensures.kept c.finish.ensures.shelf
    ]
