use Rattle.cert_check.proofs.Lemmas.{◌≡◌, ℕ, List, get_or, sym, ap, ◌∙◌, subst, inl, inr, RootsValue, lits_of, Lit, SomeNeeds, some_left, some_right, neither}
use Rattle.cert_check.proofs.checking.is_reached.Goals as goal

pub returns-then-depth-eq0 : goal.returns-then-depth-eq0
returns-then-depth-eq0 c = record { yes = λ _. inl c.if-depth-eq0.true; no = λ e. absurd (let wrong : ⊥ = cc in wrong) }

pub returns-then-one_needs : goal.returns-then-one_needs
returns-then-one_needs c =
    let same : c.deref.result.now ≡ c.args.roots.now.outputs = c.deref.ensures.value ∙ ap (λ (r : RootsValue). r.outputs) c.roots.view_is in
    record {
      yes = λ _. inr (some_left c.args.graph.now (lits_of c.args.roots.now.outputs) (lits_of c.args.roots.now.next) (λ (m : ℕ). get_or c.args.claims.now m 0) c.args.depth
          (subst (λ (ls : List Lit). SomeNeeds c.args.graph.now (lits_of ls) (λ (m : ℕ). get_or c.args.claims.now m 0) c.args.depth) same (c.one_needs.ensures.yes c.if-one_needs.true)));
      no = λ e. absurd (let wrong : ⊥ = cc in wrong);
    }

pub returns : goal.returns
returns c =
    let outputs : c.deref.result.now ≡ c.args.roots.now.outputs = c.deref.ensures.value ∙ ap (λ (r : RootsValue). r.outputs) c.roots.view_is in
    let next : c.deref-2.result.now ≡ c.args.roots.now.next = c.deref-2.ensures.value ∙ ap (λ (r : RootsValue). r.next) c.roots.view_is in
    record {
      yes = λ e. inr (some_right c.args.graph.now (lits_of c.args.roots.now.outputs) (lits_of c.args.roots.now.next) (λ (m : ℕ). get_or c.args.claims.now m 0) c.args.depth
          (subst (λ (ls : List Lit). SomeNeeds c.args.graph.now (lits_of ls) (λ (m : ℕ). get_or c.args.claims.now m 0) c.args.depth) next (c.one_needs-2.ensures.yes e)));
      no = λ e reached. elim reached [
        | inl zero ↦ c.if-depth-eq0.false zero
        | inr need ↦ neither c.args.graph.now (lits_of c.args.roots.now.outputs) (lits_of c.args.roots.now.next) (λ (m : ℕ). get_or c.args.claims.now m 0) c.args.depth
            (λ n. c.one_needs.ensures.no c.if-one_needs.false (subst (λ (ls : List Lit). SomeNeeds c.args.graph.now (lits_of ls) (λ (m : ℕ). get_or c.args.claims.now m 0) c.args.depth) (sym outputs) n))
            (λ n. c.one_needs-2.ensures.no e (subst (λ (ls : List Lit). SomeNeeds c.args.graph.now (lits_of ls) (λ (m : ℕ). get_or c.args.claims.now m 0) c.args.depth) (sym next) n)) need
      ];
    }
