use Rattle.cert_check.proofs.Lemmas.{◌≡◌, ℕ, ◌≤◌, List, length, ap, ◌∙◌, sym, subst, arith, In, PathValue, StepValue, IsPath, clash_as}
use Rattle.cert_check.proofs.step_check.check_path.Goals as goal

pub first_clash-requires-clause-stamps : goal.first_clash-requires-clause-stamps
first_clash-requires-clause-stamps c = λ m i.
    let nodes : c.deref-3.result.now ≡ c.deref.result.now = c.deref-3.ensures.value ∙ sym c.deref.ensures.value in
    let le : m ≤ c.step.inside.node = c.is_path.ensures.below c.if-not-is_path.false m (subst (λ (l : List ℕ). In l m) nodes i) in
    let same : c.step.inside.node ≡ c.args.step.now.node = ap (λ (s : StepValue). s.node) c.step.view_is in
    omega (arith, ap length c.deref-2.ensures.value)

pub first_clash-requires-clause-claims : goal.first_clash-requires-clause-claims
first_clash-requires-clause-claims c = λ m i.
    let nodes : c.deref-3.result.now ≡ c.deref.result.now = c.deref-3.ensures.value ∙ sym c.deref.ensures.value in
    let le : m ≤ c.step.inside.node = c.is_path.ensures.below c.if-not-is_path.false m (subst (λ (l : List ℕ). In l m) nodes i) in
    let same : c.step.inside.node ≡ c.args.step.now.node = ap (λ (s : StepValue). s.node) c.step.view_is in
    omega arith

pub stamp-requires : goal.stamp-requires
stamp-requires c = λ m i.
    let nodes : c.deref-in-None.result.now ≡ c.deref.result.now = c.deref-in-None.ensures.value ∙ sym c.deref.ensures.value in
    let le : m ≤ c.step.inside.node = c.is_path.ensures.below c.if-not-is_path.false m (subst (λ (l : List ℕ). In l m) nodes i) in
    let same : c.step.inside.node ≡ c.args.step.now.node = ap (λ (s : StepValue). s.node) c.step.view_is in
    omega arith

pub returns-in-Some : goal.returns-in-Some
returns-in-Some c =
    let nodes : c.deref-3.result.now ≡ c.args.path.now.nodes = c.deref-3.ensures.value ∙ ap (λ (p : PathValue). p.nodes) c.path.view_is in
    let same : c.deref.result.now ≡ c.deref-3.result.now = c.deref.ensures.value ∙ sym c.deref-3.ensures.value in
    clash_as c.args.graph.now c.args.claims.now c.args.step.now c.args.path.now c.args.stamps.now.items c.deref-2.result.now c.deref-3.result.now c.step.inside.node c.step.inside.claim c.path.inside.line c.in-Some.m
    (ap (λ (s : StepValue). s.node) c.step.view_is) (ap (λ (s : StepValue). s.claim) c.step.view_is) nodes c.deref-2.ensures.value (ap (λ (p : PathValue). p.line) c.path.view_is)
    (subst (IsPath c.args.graph.now c.step.inside.node) same (c.is_path.ensures.yes c.if-not-is_path.false)) c.in-Some.ensures
