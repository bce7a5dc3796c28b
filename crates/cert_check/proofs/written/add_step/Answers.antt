use Rattle.cert_check.proofs.Lemmas.{ap, ◌∙◌, StepValue, added_as, added_twice, step_line}
use Rattle.cert_check.proofs.written.add_step.Goals as goal

pub returns : goal.returns
returns g c = added_as (step_line c.args.step.now c.deref.result.now (c.deref.ensures.value ∙ ap (λ (s : StepValue). s.paths) c.step.view_is)) (added_twice c.add_claim.ensures c.add_paths.ensures)
