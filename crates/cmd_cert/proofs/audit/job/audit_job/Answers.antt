use Rattle.cmd_cert.proofs.Common.{[], ap, ◌∙◌, refl, inl, Outside, outside, AreWritten, IsCutInLine, memory_ends, unbegun_ends, Audited, cert_seen, audited_line, audit_walk}
use Rattle.cmd_cert.proofs.AuditLemmas.{audit_laws, audit_begun, audited}
use Rattle.cmd_cert.proofs.audit.job.audit_job.Goals as goal

pub returns-in-Err-clause-ends : goal.returns-in-Err-clause-ends
returns-in-Err-clause-ends g c ports =
    unbegun_ends (audit_walk (cert_seen c.args.words.now)) c.read_audited.ensures.keeps (λ none. absurd none) (g.O.Sink.seen c.args.out.now) ports c.in-Err.outcome c.in-Err.ensures.err

pub returns-in-Err-line-clause-ends : goal.returns-in-Err-line-clause-ends
returns-in-Err-line-clause-ends g c ports = memory_ends (audit_walk (cert_seen c.args.words.now)) c.read_audited.ensures.keeps (λ none. absurd none) (g.O.Sink.seen c.args.out.now) ports

pub returns-in-Ok-put_line-clause-ends : goal.returns-in-Ok-put_line-clause-ends
returns-in-Ok-put_line-clause-ends g c ports =
    let words = cert_seen c.args.words.now in
    let old = g.S.Shelf.seen c.args.shelf.now in
    let new = g.S.Shelf.seen c.read_audited.new.shelf in
    let is = c.in-Ok.ensures in
    let before : Outside = outside old (g.O.Sink.seen c.args.out.now) ports in
    let after : Outside = outside new (g.O.Sink.seen c.put_line.new.out) ports in (
      audit_begun words c.in-Ok.audited is.normal is.valid old new is.comes is.has is.given,
      audited words c.in-Ok.audited is.normal is.valid old new is.comes is.has c.as_str.result.now (c.as_str.ensures.value ∙ c.in-Ok-line.ensures ∙ ap (λ (a : Audited). audited_line a.cert.depth) c.audited.view_is) (λ line. AreWritten [] line before after)
          (record { files = is.keeps.files; bytes = c.in-Ok-put_line.ensures.grown; ports = refl }),
      refl,
    )

pub returns-clause-ends : goal.returns-clause-ends
returns-clause-ends g c ports =
    let words = cert_seen c.args.words.now in
    let old = g.S.Shelf.seen c.args.shelf.now in
    let new = g.S.Shelf.seen c.read_audited.new.shelf in
    let is = c.in-Ok.ensures in
    let put = c.in-Err-put_line.ensures.grown in
    let rose = c.in-Err-put_line.ensures.cause.failed in
    let before : Outside = outside old (g.O.Sink.seen c.args.out.now) ports in
    let after : Outside = outside new (g.O.Sink.seen c.put_line.new.out) ports in (
      audit_begun words c.in-Ok.audited is.normal is.valid old new is.comes is.has is.given,
      audited words c.in-Ok.audited is.normal is.valid old new is.comes is.has c.as_str.result.now (c.as_str.ensures.value ∙ c.in-Ok-line.ensures ∙ ap (λ (a : Audited). audited_line a.cert.depth) c.audited.view_is) (λ line. IsCutInLine [] line before after)
          (record { part = put.0; within = put.1; files = is.keeps.files; bytes = put.2; cause = rose; ports = refl }),
      refl,
      inl rose,
    )

pub returns-in-Err-clause-laws : goal.returns-in-Err-clause-laws
returns-in-Err-clause-laws g c = audit_laws (cert_seen c.args.words.now)

pub returns-in-Err-line-clause-laws : goal.returns-in-Err-line-clause-laws
returns-in-Err-line-clause-laws g c = audit_laws (cert_seen c.args.words.now)

pub returns-in-Ok-put_line-clause-laws : goal.returns-in-Ok-put_line-clause-laws
returns-in-Ok-put_line-clause-laws g c = audit_laws (cert_seen c.args.words.now)

pub returns-clause-laws : goal.returns-clause-laws
returns-clause-laws g c = audit_laws (cert_seen c.args.words.now)
