use Rattle.cmd_map.proofs.Common.{map_seen, map_walk, only_read, unbegun_ends}
use Rattle.cmd_map.proofs.MapLemmas.{map_ends}
use Rattle.cmd_map.proofs.SpecLemmas.{map_laws}
use Rattle.cmd_map.proofs.map.job.map_job.Goals as goal

pub returns-in-Err-clause-ends : goal.returns-in-Err-clause-ends
returns-in-Err-clause-ends g c ports =
    unbegun_ends (map_walk (map_seen c.args.words.now)) c.read_draft.ensures.keeps (λ _. c.read_draft.ensures.not_writing) (g.O.Sink.seen c.args.out.now) ports c.in-Err.outcome c.in-Err.ensures.err

pub returns-clause-ends : goal.returns-clause-ends
returns-clause-ends g c ports =
    map_ends c.in-Ok.draft.mapped c.in-Ok.ensures.draft.made c.write_out-written.ensures.means (map_seen c.args.words.now) (g.S.Shelf.seen c.args.shelf.now) (g.S.Shelf.seen c.read_draft.new.shelf) (g.S.Shelf.seen c.write_out-written.new.shelf)
    (only_read c.read_draft.ensures.keeps) c.in-Ok.ensures.given c.write_out-written.ensures.given c.in-Ok.ensures.comes (g.O.Sink.seen c.args.out.now) (g.O.Sink.seen c.write_out-written.new.out) ports c.write_out-written.result
    (c.write_out-written.ensures.ends ports) c.of_writing.result c.of_writing.ensures

pub returns-in-Err-clause-laws : goal.returns-in-Err-clause-laws
returns-in-Err-clause-laws g c = map_laws (map_seen c.args.words.now)

pub returns-clause-laws : goal.returns-clause-laws
returns-clause-laws g c = map_laws (map_seen c.args.words.now)
