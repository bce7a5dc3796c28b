use Rattle.flow_cert.proofs.Common.{◌≡◌, true, false, sym, ◌∙◌, arith, length, label_at, get_or_read, mark}
use Rattle.flow_cert.proofs.StepLemmas.{step_fits, done_push}
use Rattle.flow_cert.proofs.steps.visit.Goals as goal

pub mark_shared-requires-clause-fit : goal.mark_shared-requires-clause-fit
mark_shared-requires-clause-fit c = step_fits c.args.graph.now c.args.k (label_at c.args.labels.now) c.in_ok-step.step (length c.args.marks.now.items) c.len-count.ensures.normal c.requires.size c.in_ok-step.ensures.step

pub returns-clause-done : goal.returns-clause-done
returns-clause-done c =
    let on : mark c.args.marks.now.items c.args.n ≡ true = sym (get_or_read c.args.marks.now.items c.args.n c.index.result.now (omega (arith, c.requires.size, c.requires.node.1)) c.index.ensures false) ∙ c.if-not-index.false in
    λ begin d. rw c.in_ok-push.ensures.items (done_push c.args.graph.now c.args.k (label_at c.args.labels.now) c.requires.least begin c.args.n c.args.marks.now.items c.args.steps.now.items d c.in_ok-step.step c.mark_shared.new.marks.items on c.in_ok-step.ensures.step c.in_ok-step.ensures.node c.mark_shared.ensures.marked)
