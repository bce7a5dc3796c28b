use Rattle.cert_check.proofs.Lemmas.{List, ◌∷◌, [], ◌++◌, length, length-append, ap, ◌∙◌, arith, StepValue, path_pushed}
use Rattle.cert_check.proofs.cert_lines.add_path.Goals as goal

pub returns : goal.returns
returns c =
    let step : StepValue = record { line = c.step.inside.line; node = c.step.inside.node; claim = c.step.inside.claim; paths = c.push.new.self.items } in (
      path_pushed c.pop.new.self.items c.args.steps.now.items c.push-2.new.self.items c.in-Some.step step c.args.path c.in-Some.ensures.items c.in_ok-push-2.ensures.items
          (ap (λ (s : StepValue). s.line) c.step.view_is) (ap (λ (s : StepValue). s.node) c.step.view_is) (ap (λ (s : StepValue). s.claim) c.step.view_is)
          (c.in_ok-push.ensures.items ∙ ap (λ (s : StepValue). s.paths ++ c.args.path ∷ []) c.step.view_is),
      omega (arith, ap (λ (ss : List StepValue). length ss) c.in-Some.ensures.items, length-append c.pop.new.self.items (c.in-Some.step ∷ [])),
    )
