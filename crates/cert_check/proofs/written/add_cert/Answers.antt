use Rattle.cert_check.proofs.Lemmas.{ap, ◌∙◌, CertificateValue, added_as, added_twice, whole_text}
use Rattle.cert_check.proofs.written.add_cert.Goals as goal

pub returns : goal.returns
returns g c = added_as (whole_text c.args.cert.now c.cert.inside.depth c.deref.result.now (ap (λ (x : CertificateValue). x.depth) c.cert.view_is) (c.deref.ensures.value ∙ ap (λ (x : CertificateValue). x.steps) c.cert.view_is)) (added_twice c.add_depth.ensures c.add_steps.ensures)
