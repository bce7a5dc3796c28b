use Rattle.cmd_cert.proofs.Common.{◌∙◌, sym, Explains_from, cert_seen, audit_reading}
use Rattle.cmd_cert.proofs.GraphWalkLemmas.{source_to_audit}
use Rattle.cmd_cert.proofs.audit.job.read_audited.Goals as goal

pub returns-in-Err-clause-err : goal.returns-in-Err-clause-err
returns-in-Err-clause-err g c = source_to_audit (cert_seen c.args.words.now) (g.S.Shelf.seen c.args.shelf.now) (g.S.Shelf.seen c.read_graph.new.shelf) c.in-Err.outcome c.in-Err.ensures.err

pub read_valid-requires-clause-comes : goal.read_valid-requires-clause-comes
read_valid-requires-clause-comes g c files told = c.in-Ok.ensures.comes files (sym c.read_graph.ensures.keeps.files ∙ told)

pub returns-in-Err-read_valid-clause-err : goal.returns-in-Err-read_valid-clause-err
returns-in-Err-read_valid-clause-err g c =
    Explains_from (audit_reading (cert_seen c.args.words.now)) (g.S.Shelf.seen c.args.shelf.now) (g.S.Shelf.seen c.read_graph.new.shelf) (g.S.Shelf.seen c.read_valid.new.shelf)
    c.read_graph.ensures.keeps c.in-Err-read_valid.outcome c.in-Err-read_valid.ensures.err
