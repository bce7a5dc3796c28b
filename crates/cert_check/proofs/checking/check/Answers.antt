use Rattle.cert_check.proofs.Lemmas.{◌≡◌, ℕ, [], List, get_or, ap, ◌∙◌, subst, roots_of, OrMemory, OrMemory-map, StepValue, CertificateValue, StepsFault, IsFault, AreInTurn, refusal_of, claim_of, IsReached, IsValid, passed_err, one_verdict, fault_of_steps, fault_of_depth, reached_all, reached_back}
use Rattle.cert_check.proofs.InTurnLemmas.{turn_valid}
use Rattle.cert_check.proofs.LeastLemmas.{valid_bound, valid_claims}
use Rattle.cert_check.proofs.checking.check.Goals as goal

pub returns-in_err-claims-clause-fault : goal.returns-in_err-claims-clause-fault
returns-in_err-claims-clause-fault c =
    let same : c.deref.result.now ≡ c.args.cert.now.steps = c.deref.ensures.value ∙ ap (λ (x : CertificateValue). x.steps) c.cert.view_is in
    passed_err c.from_residual.result c.in_err-claims.field-0.0 (OrMemory refusal_of (IsFault c.args.graph.now (roots_of c.args.roots.now) c.args.k c.args.cert.now)) c.from_residual.ensures.1
    (OrMemory-map refusal_of (StepsFault c.args.graph.now c.args.k [] c.deref.result.now ⊥) (IsFault c.args.graph.now (roots_of c.args.roots.now) c.args.k c.args.cert.now) c.in_err-claims.field-0.0
    (λ e f. fault_of_steps c.args.graph.now (roots_of c.args.roots.now) c.args.k c.args.cert.now e (subst (λ (ss : List StepValue). StepsFault c.args.graph.now c.args.k [] ss ⊥ e) same f)) c.in_err-claims.ensures.fault)

pub returns-in_err-claims-clause-one_verdict : goal.returns-in_err-claims-clause-one_verdict
returns-in_err-claims-clause-one_verdict c = one_verdict c.args.graph.now (roots_of c.args.roots.now) c.args.k c.args.cert.now c.take_steps.ensures.normal

pub returns-then-not-is_reached : goal.returns-then-not-is_reached
returns-then-not-is_reached c =
    let same : c.deref.result.now ≡ c.args.cert.now.steps = c.deref.ensures.value ∙ ap (λ (x : CertificateValue). x.steps) c.cert.view_is in
    let turn : AreInTurn c.args.graph.now c.args.k [] c.args.cert.now.steps = subst (λ (ss : List StepValue). AreInTurn c.args.graph.now c.args.k [] ss) same c.in_ok-claims.ensures.in_turn in
    let are : (m : ℕ) → get_or c.in_ok-claims.claims.items m 0 ≡ claim_of c.args.cert.now.steps m = λ m. c.in_ok-claims.ensures.claims m ∙ ap (λ (ss : List StepValue). claim_of ss m) same in
    record {
      ok = tt;
      fault = fault_of_depth c.args.graph.now (roots_of c.args.roots.now) c.args.k c.args.cert.now turn
          (λ r. c.is_reached.ensures.no c.if-not-is_reached.true (reached_back c.args.graph.now (roots_of c.args.roots.now) c.args.k c.args.cert.now c.in_ok-claims.claims.items c.deref-2.result.now c.cert.inside.depth c.deref-2.ensures.value (ap (λ (x : CertificateValue). x.depth) c.cert.view_is) are r));
      one_verdict = one_verdict c.args.graph.now (roots_of c.args.roots.now) c.args.k c.args.cert.now c.take_steps.ensures.normal;
      least = tt;
      claims = tt;
    }

pub returns : goal.returns
returns c =
    let same : c.deref.result.now ≡ c.args.cert.now.steps = c.deref.ensures.value ∙ ap (λ (x : CertificateValue). x.steps) c.cert.view_is in
    let turn : AreInTurn c.args.graph.now c.args.k [] c.args.cert.now.steps = subst (λ (ss : List StepValue). AreInTurn c.args.graph.now c.args.k [] ss) same c.in_ok-claims.ensures.in_turn in
    let are : (m : ℕ) → get_or c.in_ok-claims.claims.items m 0 ≡ claim_of c.args.cert.now.steps m = λ m. c.in_ok-claims.ensures.claims m ∙ ap (λ (ss : List StepValue). claim_of ss m) same in
    let reached : IsReached c.args.graph.now (roots_of c.args.roots.now) (claim_of c.args.cert.now.steps) c.args.cert.now.depth =
    reached_all c.args.graph.now (roots_of c.args.roots.now) c.args.k c.args.cert.now c.in_ok-claims.claims.items c.deref-2.result.now c.cert.inside.depth c.deref-2.ensures.value (ap (λ (x : CertificateValue). x.depth) c.cert.view_is) are (c.is_reached.ensures.yes c.if-not-is_reached.false) in
    let valid : IsValid c.args.graph.now (roots_of c.args.roots.now) c.args.k c.args.cert.now = turn_valid c.args.graph.now (roots_of c.args.roots.now) c.args.k c.args.cert.now c.take_steps.ensures.normal turn reached in
    record {
      ok = valid;
      fault = tt;
      one_verdict = one_verdict c.args.graph.now (roots_of c.args.roots.now) c.args.k c.args.cert.now c.take_steps.ensures.normal;
      least = valid_bound c.args.graph.now (roots_of c.args.roots.now) c.args.k c.args.cert.now valid;
      claims = valid_claims c.args.graph.now (roots_of c.args.roots.now) c.args.k c.args.cert.now valid;
    }
