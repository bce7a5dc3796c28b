use Rattle.cert_check.proofs.Common.{◌≡◌, ℕ, ◌<◌, List, get_or, ap, subst, inr, arith, IsAnd, StepValue, First, StepFault, BadClaim, passed_err}
use Rattle.cert_check.proofs.checking.take_step.Goals as goal

pub returns-in_err-check_step-clause-fault : goal.returns-in_err-check_step-clause-fault
returns-in_err-check_step-clause-fault c =
    let same : c.step.inside.node ≡ c.args.step.now.node = ap (λ (s : StepValue). s.node) c.step.view_is in
    let and : IsAnd c.args.graph.now c.args.step.now.node = subst (IsAnd c.args.graph.now) same (c.is_and.ensures.yes c.if-not-is_and.false) in
    let up : c.args.last < c.args.step.now.node = omega arith in
    passed_err c.from_residual.result c.in_err-check_step.field-0.0
    (λ e. First (IsAnd c.args.graph.now c.args.step.now.node × (c.args.last < c.args.step.now.node)) (BadClaim c.args.step.now.line) (StepFault c.args.graph.now c.args.k (λ m. get_or c.args.claims.now.items m 0) c.args.step.now ⊥ e) e)
    c.from_residual.ensures.1
    (inr ((and, up), subst (λ (cs : List ℕ). StepFault c.args.graph.now c.args.k (λ m. get_or cs m 0) c.args.step.now ⊥ c.in_err-check_step.field-0.0) c.deref.ensures.value c.in_err-check_step.ensures.fault))
