use Rattle.cert_check.proofs.Lemmas.{ℕ, List, get_or, sym, ap, subst, inl, inr, arith, lits_of, drop_past, SomeNeeds, lits_drop}
use Rattle.cert_check.proofs.checking.one_needs.Goals as goal

pub loop-root-init : goal.loop-root-init
loop-root-init c = ((λ n. n), (λ n. n))

pub returns-then-needs : goal.returns-then-needs
returns-then-needs c = record {
  yes = λ _. c.loop-root.invariant.1 (subst (λ (ls : List ℕ). SomeNeeds c.args.graph.now ls (λ (m : ℕ). get_or c.args.claims.now m 0) c.args.depth) (sym (lits_drop c.args.roots.now c.loop-root.root-index c.loop-root-test.true)) (inl (c.needs.ensures.yes c.if-needs.true)));
  no = λ e. absurd (let wrong : ⊥ = cc in wrong);
}

pub loop-root-preserved : goal.loop-root-preserved
loop-root-preserved c = (
  (λ n. elim (subst (λ (ls : List ℕ). SomeNeeds c.args.graph.now ls (λ (m : ℕ). get_or c.args.claims.now m 0) c.args.depth) (lits_drop c.args.roots.now c.loop-root.root-index c.loop-root-test.true) (c.loop-root.invariant.0 n)) [
    | inl need ↦ absurd (c.needs.ensures.no c.if-needs.false need)
    | inr need ↦ need
  ]),
  (λ n. c.loop-root.invariant.1 (subst (λ (ls : List ℕ). SomeNeeds c.args.graph.now ls (λ (m : ℕ). get_or c.args.claims.now m 0) c.args.depth) (sym (lits_drop c.args.roots.now c.loop-root.root-index c.loop-root-test.true)) (inr n))),
)

pub returns : goal.returns
returns c = record {
  yes = λ e. absurd (let wrong : ⊥ = cc in wrong);
  no = λ _ n. subst (λ (ls : List ℕ). SomeNeeds c.args.graph.now ls (λ (m : ℕ). get_or c.args.claims.now m 0) c.args.depth) (ap lits_of (drop_past c.args.roots.now c.loop-root.root-index (omega arith))) (c.loop-root.invariant.0 n);
}
