use Rattle.flow_cert.proofs.Common.{List, Bool, first_and, label_at, AreDoneTo}
use Rattle.flow_cert.proofs.StepLemmas.{steps_turned}
use Rattle.flow_cert.proofs.steps.steps_of.Goals as goal

pub returns : goal.returns
returns c =
    let d : (marks : List Bool) × AreDoneTo c.args.graph.now c.args.k (label_at c.args.labels.now) c.args.begin (first_and c.args.graph.now) marks c.in_ok-steps.steps.items = c.in_ok-steps.ensures in
    rw c.reverse.ensures.items (steps_turned c.args.graph.now c.args.k (label_at c.args.labels.now) c.args.begin d.0 c.in_ok-steps.steps.items d.1)
