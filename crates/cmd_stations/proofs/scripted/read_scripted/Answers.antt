use Rattle.cmd_stations.proofs.Common.{◌∙◌, sym, Explains_from, scripted_seen, scripted_reading}
use Rattle.cmd_stations.proofs.ScriptedLemmas.{source_to_scripted, script_to_scripted, comes_scripted}
use Rattle.cmd_stations.proofs.scripted.read_scripted.Goals as goal

pub returns-in-Err-clause-err : goal.returns-in-Err-clause-err
returns-in-Err-clause-err g c = source_to_scripted (scripted_seen c.args.words.now) (g.S.Shelf.seen c.args.shelf.now) (g.S.Shelf.seen c.read_mapped.new.shelf) c.in-Err.outcome c.in-Err.ensures.err

pub returns-in-Err-read_events-clause-err : goal.returns-in-Err-read_events-clause-err
returns-in-Err-read_events-clause-err g c =
    let words = scripted_seen c.args.words.now in
    let old = g.S.Shelf.seen c.args.shelf.now in
    let mid = g.S.Shelf.seen c.read_mapped.new.shelf in
    let new = g.S.Shelf.seen c.read_events.new.shelf in
    let mapped = c.in-Ok.mapped in
    let keeps = c.read_mapped.ensures.keeps in
    Explains_from (scripted_reading words) old mid new keeps c.in-Err-read_events.outcome
    (script_to_scripted words mid new c.in-Err-read_events.outcome mapped.source mapped.tables.template
    (λ files told. let past = c.in-Ok.ensures.comes files (sym keeps.files ∙ told) in (past.has, past.settled)) c.in-Err-read_events.ensures.err)

pub returns-in-Ok-read_events-clause-comes : goal.returns-in-Ok-read_events-clause-comes
returns-in-Ok-read_events-clause-comes g c files told =
    let there = c.read_mapped.ensures.keeps.files ∙ told in
    comes_scripted files (scripted_seen c.args.words.now) (record { mapped = c.in-Ok.mapped; events = c.in-Ok-read_events.events }) (c.in-Ok.ensures.comes files told)
    (c.in-Ok-read_events.ensures.script files there) (c.in-Ok-read_events.ensures.settled files there)
