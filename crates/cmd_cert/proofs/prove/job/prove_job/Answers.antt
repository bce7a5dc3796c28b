use Rattle.cmd_cert.proofs.Common.{only_read, unbegun_ends, cert_seen, prove_walk}
use Rattle.cmd_cert.proofs.ProveLemmas.{prove_ends, prove_laws}
use Rattle.cmd_cert.proofs.prove.job.prove_job.Goals as goal

pub returns-in-Err-clause-ends : goal.returns-in-Err-clause-ends
returns-in-Err-clause-ends g c ports =
    unbegun_ends (prove_walk (cert_seen c.args.words.now)) c.read_proof.ensures.keeps (λ _. c.read_proof.ensures.not_writing) (g.O.Sink.seen c.args.out.now) ports c.in-Err.outcome c.in-Err.ensures.err

pub returns-clause-ends : goal.returns-clause-ends
returns-clause-ends g c ports =
    prove_ends (cert_seen c.args.words.now) c.in-Ok.proof c.in-Ok.ensures.proof (g.S.Shelf.seen c.args.shelf.now) (g.S.Shelf.seen c.read_proof.new.shelf) (g.S.Shelf.seen c.write_out-written.new.shelf)
    (only_read c.read_proof.ensures.keeps) c.in-Ok.ensures.given c.write_out-written.ensures.given c.in-Ok.ensures.comes (g.O.Sink.seen c.args.out.now) (g.O.Sink.seen c.write_out-written.new.out) ports c.write_out-written.result
    (c.write_out-written.ensures.ends ports) c.of_writing.result c.of_writing.ensures

pub returns-in-Err-clause-laws : goal.returns-in-Err-clause-laws
returns-in-Err-clause-laws g c = prove_laws (cert_seen c.args.words.now)

pub returns-clause-laws : goal.returns-clause-laws
returns-clause-laws g c = prove_laws (cert_seen c.args.words.now)
