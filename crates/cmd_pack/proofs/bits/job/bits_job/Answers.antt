use Rattle.cmd_pack.proofs.Lemmas.{unbegun_ends, bits_seen, bits_walk, bits_ends, bits_laws}
use Rattle.cmd_pack.proofs.bits.job.bits_job.Goals as goal

pub returns-in-Err-clause-ends : goal.returns-in-Err-clause-ends
returns-in-Err-clause-ends g c ports =
    unbegun_ends (bits_walk (bits_seen c.args.words.now)) c.prepare.ensures.keeps (λ none. absurd none) (g.O.Sink.seen c.args.out.now) ports c.in-Err.outcome c.in-Err.ensures.err

pub returns-clause-ends : goal.returns-clause-ends
returns-clause-ends g c ports =
    bits_ends (bits_seen c.args.words.now) c.in-Ok.ready c.prepare.ensures.keeps c.in-Ok.ensures.given c.in-Ok.ensures.prepared (g.O.Sink.seen c.args.out.now) (g.O.Sink.seen c.play-played.new.out) ports c.play-played.result
    (c.play-played.ensures.ends (g.S.Shelf.seen c.args.shelf.now) ports) c.of_writing.result c.of_writing.ensures

pub returns-in-Err-clause-laws : goal.returns-in-Err-clause-laws
returns-in-Err-clause-laws g c = bits_laws (bits_seen c.args.words.now)

pub returns-clause-laws : goal.returns-clause-laws
returns-clause-laws g c = bits_laws (bits_seen c.args.words.now)
