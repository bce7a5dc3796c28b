use Rattle.cert_check.proofs.Common.{◌≡◌, ◌<◌, List, length, get_or, ap, ◌∙◌, subst, inr, arith, PathValue, StepValue, StepFault, path_count, passed_err}
use Rattle.cert_check.proofs.StepLemmas.{next_stops, next_taken, all_taken}
use Rattle.cert_check.proofs.step_check.check_step.Goals as goal

pub returns-in_err-check_path-clause-fault : goal.returns-in_err-check_path-clause-fault
returns-in_err-check_path-clause-fault c =
    let same : c.deref-path-items.result.now ≡ c.args.step.now.paths = c.deref-path-items.ensures.value ∙ ap (λ (s : StepValue). s.paths) c.step.view_is in
    let within : c.loop-path.path-index < length c.args.step.now.paths = subst (λ (ps : List PathValue). c.loop-path.path-index < length ps) same c.loop-path-test.true in
    let item : c.path-item.result ≡ get_or c.args.step.now.paths c.loop-path.path-index c.path-item.result = subst (λ (ps : List PathValue). c.path-item.result ≡ get_or ps c.loop-path.path-index c.path-item.result) same c.path-item.is in
    let all : length c.deref-path-items.result.now ≡ length c.args.step.now.paths = ap (λ (ps : List PathValue). length ps) same in
    let count : length c.args.step.now.paths ≡ path_count c.args.k c.args.step.now.claim =
    (let e : length c.args.step.now.paths ≡ c.paths_needed.result = omega (arith, ap (λ (s : StepValue). length s.paths) c.step.view_is) in e) ∙ c.paths_needed.ensures ∙ ap (λ (s : StepValue). path_count c.args.k s.claim) c.step.view_is in
    passed_err c.from_residual.result c.in_err-check_path.field-0.0 (StepFault c.args.graph.now c.args.k (λ m. get_or c.args.claims.now m 0) c.args.step.now ⊥) c.from_residual.ensures.1
    (inr (count, next_stops c.args.graph.now c.args.claims.now c.args.step.now c.loop-path.path-index c.loop-path.stamps.items c.loop-path.invariant c.path-item.result within item c.in_err-check_path.field-0.0 c.in_err-check_path.ensures))

pub loop-path-preserved : goal.loop-path-preserved
loop-path-preserved c =
    let same : c.deref-path-items.result.now ≡ c.args.step.now.paths = c.deref-path-items.ensures.value ∙ ap (λ (s : StepValue). s.paths) c.step.view_is in
    let within : c.loop-path.path-index < length c.args.step.now.paths = subst (λ (ps : List PathValue). c.loop-path.path-index < length ps) same c.loop-path-test.true in
    let item : c.path-item.result ≡ get_or c.args.step.now.paths c.loop-path.path-index c.path-item.result = subst (λ (ps : List PathValue). c.path-item.result ≡ get_or ps c.loop-path.path-index c.path-item.result) same c.path-item.is in
    next_taken c.args.graph.now c.args.claims.now c.args.step.now c.loop-path.path-index c.loop-path.stamps.items c.loop-path.invariant c.path-item.result within item c.check_path.new.stamps.items c.in_ok-check_path.ensures

pub returns-clause-ok : goal.returns-clause-ok
returns-clause-ok c =
    let same : c.deref-path-items.result.now ≡ c.args.step.now.paths = c.deref-path-items.ensures.value ∙ ap (λ (s : StepValue). s.paths) c.step.view_is in
    let all : length c.deref-path-items.result.now ≡ length c.args.step.now.paths = ap (λ (ps : List PathValue). length ps) same in
    let count : length c.args.step.now.paths ≡ path_count c.args.k c.args.step.now.claim =
    (let e : length c.args.step.now.paths ≡ c.paths_needed.result = omega (arith, ap (λ (s : StepValue). length s.paths) c.step.view_is) in e) ∙ c.paths_needed.ensures ∙ ap (λ (s : StepValue). path_count c.args.k s.claim) c.step.view_is in
    all_taken c.args.graph.now c.args.k c.args.claims.now c.args.step.now c.loop-path.path-index c.loop-path.stamps.items count c.loop-path.invariant (omega arith)
