use Rattle.cmd_pack.proofs.Lemmas.{memory_ends, only_read, unbegun_ends, repack_seen, repack_walk, repack_laws, repack_ends}
use Rattle.cmd_pack.proofs.repack.job.repack_job.Goals as goal

pub returns-in-Err-clause-ends : goal.returns-in-Err-clause-ends
returns-in-Err-clause-ends g c ports =
    unbegun_ends (repack_walk (repack_seen c.args.words.now)) c.read_pack.ensures.keeps (λ _. c.read_pack.ensures.not_writing) (g.O.Sink.seen c.args.out.now) ports c.in-Err.outcome c.in-Err.ensures.err

pub returns-in-Err-make-clause-ends : goal.returns-in-Err-make-clause-ends
returns-in-Err-make-clause-ends g c ports = memory_ends (repack_walk (repack_seen c.args.words.now)) c.read_pack.ensures.keeps (λ _. c.read_pack.ensures.not_writing) (g.O.Sink.seen c.args.out.now) ports

pub returns-clause-ends : goal.returns-clause-ends
returns-clause-ends g c ports =
    repack_ends (repack_seen c.args.words.now) c.in-Ok.pack (g.S.Shelf.seen c.args.shelf.now) (g.S.Shelf.seen c.read_pack.new.shelf) (g.S.Shelf.seen c.write_all-written.new.shelf) (only_read c.read_pack.ensures.keeps)
    c.in-Ok.ensures.pack c.in-Ok.ensures.settled c.in-Ok.ensures.given c.write_all-written.ensures.given (g.O.Sink.seen c.args.out.now) (g.O.Sink.seen c.write_all-written.new.out) ports c.write_all-written.result
    (c.write_all-written.ensures.ends ports) c.of_writing.result c.of_writing.ensures

pub returns-in-Err-clause-laws : goal.returns-in-Err-clause-laws
returns-in-Err-clause-laws g c = repack_laws (repack_seen c.args.words.now)

pub returns-in-Err-make-clause-laws : goal.returns-in-Err-make-clause-laws
returns-in-Err-make-clause-laws g c = repack_laws (repack_seen c.args.words.now)

pub returns-clause-laws : goal.returns-clause-laws
returns-clause-laws g c = repack_laws (repack_seen c.args.words.now)
