use Rattle.cert_check.proofs.Lemmas.{ap, StepValue, added_as, added_twice, claim_line}
use Rattle.cert_check.proofs.written.add_claim.Goals as goal

pub returns : goal.returns
returns g c = added_as (claim_line c.args.step.now c.step.inside.node c.step.inside.claim (ap (λ (s : StepValue). s.node) c.step.view_is) (ap (λ (s : StepValue). s.claim) c.step.view_is)) (added_twice c.add_text.ensures (added_twice c.add_number.ensures (added_twice c.add_number-2.ensures c.add_byte.ensures)))
