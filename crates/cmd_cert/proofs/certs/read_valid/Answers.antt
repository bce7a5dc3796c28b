use Rattle.cmd_cert.proofs.Common.{sym, subst, Explains, HasText, cert_seen, audit_reading}
use Rattle.cmd_cert.proofs.CertWalkLemmas.{cert_unread, cert_explains}
use Rattle.cmd_cert.proofs.certs.read_valid.Goals as goal

pub returns-in-Err-clause-err : goal.returns-in-Err-clause-err
returns-in-Err-clause-err g c =
    cert_unread (cert_seen c.args.words.now) c.args.built.now c.requires.built (g.S.Shelf.seen c.args.shelf.now) (g.S.Shelf.seen c.read_file.new.shelf) c.requires.comes c.in-Err.outcome c.in-Err.ensures.err

pub returns-clause-err : goal.returns-clause-err
returns-clause-err g c =
    let words = cert_seen c.args.words.now in
    let old = g.S.Shelf.seen c.args.shelf.now in
    let new = g.S.Shelf.seen c.read_file.new.shelf in
    subst (λ o. Explains (audit_reading words) old new o) (sym c.outcome_of.ensures)
    (cert_explains words c.args.built.now c.requires.built old new c.requires.comes c.deref.result.now c.in-Ok.ensures.given
    (λ files told. subst (λ text. HasText files words.cert text) (sym c.deref.ensures.value) (c.in-Ok.ensures.text files told)) c.in-Err-read_checked.error c.in-Err-read_checked.ensures.fault)
