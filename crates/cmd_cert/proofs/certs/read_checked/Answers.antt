use Rattle.cmd_cert.proofs.Common.{roots_of, OrMemory, OrMemory-map, IsCertTextFault, IsFault, refusal_of, IsCertFault, malformed, invalid}
use Rattle.tl_fault.proofs.PassedOn.{passed_err}
use Rattle.cmd_cert.proofs.certs.read_checked.Goals as goal

pub returns-in_err-cert-clause-fault : goal.returns-in_err-cert-clause-fault
returns-in_err-cert-clause-fault c =
    let graph = c.args.built.now.graph in
    let roots = c.args.built.now.roots in
    let e = c.in_err-cert.field-0.0 in
    passed_err c.from_residual.result e (OrMemory refusal_of (IsCertFault graph roots c.args.k c.args.text.now)) c.from_residual.ensures.1
    (OrMemory-map refusal_of (IsCertTextFault c.args.text.now) (IsCertFault graph roots c.args.k c.args.text.now) e (λ x f. malformed f) c.in_err-cert.ensures.fault)

pub returns-in_err-check-clause-fault : goal.returns-in_err-check-clause-fault
returns-in_err-check-clause-fault c =
    let graph = c.args.built.now.graph in
    let roots = c.args.built.now.roots in
    let e = c.in_err-check.field-0.0 in
    passed_err c.from_residual-in_err-check.result e (OrMemory refusal_of (IsCertFault graph roots c.args.k c.args.text.now)) c.from_residual-in_err-check.ensures.1
    (OrMemory-map refusal_of (IsFault graph (roots_of roots) c.args.k c.in_ok-cert.cert) (IsCertFault graph roots c.args.k c.args.text.now) e (λ x f. invalid c.in_ok-cert.cert c.in_ok-cert.ensures.certificate f) c.in_err-check.ensures.fault)
