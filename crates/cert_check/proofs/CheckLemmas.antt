-- The steps of a certificate, one by one.
use Rattle.cert_check.proofs.Common.{◌≡◌, ℕ, ◌+◌, ◌<◌, ◌≤◌, eqb, List, [], ◌∷◌, ◌++◌, take, drop, set, length, get_or, get_or-set_same, get_or-set_other, length-set, append_assoc, append-nil, refl, sym, ap, ◌∙◌, subst, inl, inr, arith, fun_ext, eqb-true, eqb-false, cases_eq, cases_lt, take_more, take_all, Aig, first_and, node_count, IsAnd, AreNormal, lits_of, Lit, In, choose, drop_at, In-push, In-pushed, StepValue, CertificateValue, claim_of, IsJustified, SomeNeeds, IsReached, First, IsAbove, StepFault, StepsFault, DepthFault, IsFault, HasOneVerdict, IsNext, AreInTurn, CertErr, BadClaim, NotReached, rules, drop_get, slice_get-get_or}
use Rattle.cert_check.proofs.FaultLemmas.{step_more, steps_more, steps_met, one_fault}
use Rattle.cert_check.proofs.InTurnLemmas.{claim_before, valid_turn}

-- one more step in turn
turn_push : (g : Aig) (k : ℕ) (before ss : List StepValue) (s : StepValue) → AreInTurn g k before ss → IsNext g k (before ++ ss) s → AreInTurn g k before (ss ++ s ∷ [])
turn_push g k before [] s r n = (subst (λ xs. IsNext g k xs s) (append-nil before) n, tt)
turn_push g k before (u ∷ us) s r n = (r.0, turn_push g k (before ++ u ∷ []) us s r.1 (subst (λ xs. IsNext g k xs s) (sym (append_assoc before (u ∷ []) us)) n))

claim_new : (ss : List StepValue) (s : StepValue) (m : ℕ) → ((t : StepValue) → In ss t → t.node < s.node) → s.node ≡ m → claim_of (ss ++ s ∷ []) m ≡ s.claim
claim_new [] s m below e = choose (λ v. v ≡ s.claim) (eqb s.node m) s.claim 0 (λ q. refl) (λ q. absurd (eqb-false s.node m q e))
claim_new (t ∷ ts) s m below e = choose (λ v. v ≡ s.claim) (eqb t.node m) t.claim (claim_of (ts ++ s ∷ []) m) (λ q. let l : t.node < s.node = below t (inl refl) in let r : t.node ≡ m = eqb-true t.node m q in absurd (omega arith)) (λ q. claim_new ts s m (λ u j. below u (inr j)) e)

-- the steps before a place are taken: `last` is the greatest of their nodes, and 0 without one
pub record AreStepsTaken (g : Aig) (k : ℕ) (steps : List StepValue) (at last : ℕ) (claims marks : List ℕ) : Type 0 where
  pub claims_size : length claims ≡ node_count g
  pub marks_size : length marks ≡ node_count g
  pub turn : AreInTurn g k [] (take at steps)
  pub claims_are : (m : ℕ) → get_or claims m 0 ≡ claim_of (take at steps) m
  pub most : (t : StepValue) → In (take at steps) t → t.node ≤ last
  pub last_is : (n : ℕ) → n ≤ last → ((t : StepValue) → In (take at steps) t → t.node < n) → n ≡ 0
  pub used : (m : ℕ) → get_or marks m 0 ≤ last
  pub skips : (e : CertErr) → StepsFault g k (take at steps) (drop at steps) ⊥ e → StepsFault g k [] steps ⊥ e

pub no_steps : (g : Aig) (k : ℕ) (steps : List StepValue) (claims marks : List ℕ) → length claims ≡ node_count g → length marks ≡ node_count g → ((m : ℕ) → get_or claims m 0 ≡ 0) → ((m : ℕ) → get_or marks m 0 ≡ 0) → AreStepsTaken g k steps 0 0 claims marks
no_steps g k steps claims marks a b zero_claims zero_marks = search rules

module _ (g : Aig) (k : ℕ) (steps : List StepValue) (at last : ℕ) (claims marks : List ℕ) (taken : AreStepsTaken g k steps at last claims marks) where
  same_claims : (λ (m : ℕ). get_or claims m 0) ≡ claim_of (take at steps)
  same_claims = fun_ext taken.claims_are

  module _ (s : StepValue) (within : at < length steps) (item : s ≡ get_or steps at s) where
    more : take (at + 1) steps ≡ take at steps ++ s ∷ []
    more = take_more steps at s within ∙ ap (λ x. take at steps ++ x ∷ []) (sym item)

    above_is : IsAnd g s.node → last < s.node → IsAbove g (take at steps) s
    above_is and up = record { and = and; above = λ t j. let b : t.node ≤ last = taken.most t j in omega arith }

    above_last : IsAbove g (take at steps) s → last < s.node
    above_last a = elim (cases_lt last s.node) [
      | inl l ↦ l
      | inr l ↦ (let z : s.node ≡ 0 = taken.last_is s.node l a.above in let b : first_and g ≤ s.node = a.and.0 in absurd (omega arith))
    ]

    step_fault : (e : CertErr) → First (IsAnd g s.node × (last < s.node)) (BadClaim s.line) (StepFault g k (λ m. get_or claims m 0) s ⊥ e) e → StepsFault g k (take at steps) (s ∷ drop (at + 1) steps) ⊥ e
    step_fault e (inl n) = inl ((λ a. n.0 (a.and, above_last a)), n.1)
    step_fault e (inr f) = inr (
      above_is f.0.0 f.0.1,
      step_more g k (claim_of (take at steps)) s ⊥ (StepsFault g k (take at steps ++ s ∷ []) (drop (at + 1) steps) ⊥ e) e (λ n. absurd n)
          (subst (λ (c : ℕ → ℕ). StepFault g k c s ⊥ e) same_claims f.1),
    )

    -- a fault of the next step is one of the steps
    pub next_stops : (e : CertErr) → First (IsAnd g s.node × (last < s.node)) (BadClaim s.line) (StepFault g k (λ m. get_or claims m 0) s ⊥ e) e → StepsFault g k [] steps ⊥ e
    next_stops e f = taken.skips e (subst (λ ss. StepsFault g k (take at steps) ss ⊥ e) (sym (drop_at steps at s within item)) (step_fault e f))

    -- or it is taken too
    module _ (and : IsAnd g s.node) (up : last < s.node) (just : IsJustified g k (λ m. get_or claims m 0) s) where
      next_is : IsNext g k (take at steps) s
      next_is = record { above = above_is and up; justified = subst (λ (c : ℕ → ℕ). IsJustified g k c s) same_claims just }

      inside : s.node < length claims
      inside = let size : length claims ≡ node_count g = taken.claims_size in let b : s.node < node_count g = and.1 in omega arith

      next_claims : (m : ℕ) → get_or (set claims s.node s.claim) m 0 ≡ claim_of (take at steps ++ s ∷ []) m
      next_claims m = elim (cases_eq m s.node) [
        | inl q ↦ ap (λ x. get_or (set claims s.node s.claim) x 0) q ∙ (get_or-set_same claims s.node s.claim 0 inside ∙ sym (claim_new (take at steps) s m (above_is and up).above (sym q)))
        | inr ne ↦ get_or-set_other claims s.node m s.claim 0 ne ∙ (taken.claims_are m ∙ sym (claim_before (take at steps) (s ∷ []) m (λ t j e. elim j [ inl f ↦ ne (sym e ∙ ap (λ (x : StepValue). x.node) f) | inr x ↦ absurd x ])))
      ]

      pub next_taken : (new_claims new_marks : List ℕ) → new_claims ≡ set claims s.node s.claim → length new_marks ≡ node_count g → ((m : ℕ) → get_or new_marks m 0 ≤ s.node) → AreStepsTaken g k steps (at + 1) s.node new_claims new_marks
      next_taken new_claims new_marks set_is size used = record {
        claims_size = ap length set_is ∙ length-set claims s.node s.claim ∙ taken.claims_size;
        marks_size = size;
        turn = subst (AreInTurn g k []) (sym more) (turn_push g k [] (take at steps) s taken.turn next_is);
        claims_are = λ m. ap (λ (l : List ℕ). get_or l m 0) set_is ∙ next_claims m ∙ ap (λ ss. claim_of ss m) (sym more);
        most = λ t j. elim (In-push (take at steps) s t (subst (λ ss. In ss t) more j)) [
          | inl h ↦ (let b : t.node ≤ last = taken.most t h in omega arith)
          | inr q ↦ (let e : t.node ≡ s.node = ap (λ (x : StepValue). x.node) q in omega arith)
        ];
        last_is = λ n le b. let c : s.node < n = b s (subst (λ ss. In ss s) (sym more) (In-pushed (take at steps) s)) in absurd (omega arith);
        used = used;
        skips = λ e f. taken.skips e (subst (λ ss. StepsFault g k (take at steps) ss ⊥ e) (sym (drop_at steps at s within item))
            ((steps_met g k (take at steps) (s ∷ []) (StepsFault g k (take at steps ++ s ∷ []) (drop (at + 1) steps) ⊥ e) e (next_is, tt)).0 (subst (λ ss. StepsFault g k ss (drop (at + 1) steps) ⊥ e) more f)));
      }

  -- all steps are taken
  pub all_turn : length steps ≤ at → AreInTurn g k [] steps
  all_turn past = subst (AreInTurn g k []) (take_all at steps past) taken.turn

  pub all_claims : length steps ≤ at → (m : ℕ) → get_or claims m 0 ≡ claim_of steps m
  all_claims past m = taken.claims_are m ∙ ap (λ ss. claim_of ss m) (take_all at steps past)

-- roots that need the depth: of two lists, and from a place on
pub some_left : (g : Aig) (xs ys : List ℕ) (claim : ℕ → ℕ) (d : ℕ) → SomeNeeds g xs claim d → SomeNeeds g (xs ++ ys) claim d
some_left g [] ys claim d need = absurd need
some_left g (x ∷ xs) ys claim d (inl need) = inl need
some_left g (x ∷ xs) ys claim d (inr need) = inr (some_left g xs ys claim d need)

pub some_right : (g : Aig) (xs ys : List ℕ) (claim : ℕ → ℕ) (d : ℕ) → SomeNeeds g ys claim d → SomeNeeds g (xs ++ ys) claim d
some_right g [] ys claim d need = need
some_right g (x ∷ xs) ys claim d need = inr (some_right g xs ys claim d need)

pub neither : (g : Aig) (xs ys : List ℕ) (claim : ℕ → ℕ) (d : ℕ) → (SomeNeeds g xs claim d → ⊥) → (SomeNeeds g ys claim d → ⊥) → SomeNeeds g (xs ++ ys) claim d → ⊥
neither g [] ys claim d a b need = b need
neither g (x ∷ xs) ys claim d a b (inl need) = a (inl need)
neither g (x ∷ xs) ys claim d a b (inr need) = neither g xs ys claim d (λ n. a (inr n)) b need

pub lits_drop : (ls : List Lit) (i : ℕ) → i < length ls → lits_of (drop i ls) ≡ (get_or ls i (record { 0 = 0 })).0 ∷ lits_of (drop (i + 1) ls)
lits_drop ls i l = ap lits_of (drop_get ls i (get_or ls i (record { 0 = 0 })) (slice_get-get_or ls i (record { 0 = 0 }) l))

-- the verdict
module _ (g : Aig) (roots : List ℕ) (k : ℕ) (c : CertificateValue) where
  pub one_verdict : AreNormal (first_and g) g.pairs → HasOneVerdict g roots k c
  one_verdict normal = record {
    one_fault = one_fault g roots k c;
    not_both = λ e valid fault. elim ((steps_met g k [] c.steps (DepthFault g roots c e) e (valid_turn g roots k c normal valid)).1 fault) [ inl n ↦ n.0 valid.reached | inr n ↦ n.1 ];
  }

  -- a fault of the steps, or of the depth
  pub fault_of_steps : (e : CertErr) → StepsFault g k [] c.steps ⊥ e → IsFault g roots k c e
  fault_of_steps e f = steps_more g k [] c.steps ⊥ (DepthFault g roots c e) e (λ n. absurd n) f

  pub fault_of_depth : AreInTurn g k [] c.steps → (IsReached g roots (claim_of c.steps) c.depth → ⊥) → IsFault g roots k c NotReached
  fault_of_depth turn never = (steps_met g k [] c.steps (DepthFault g roots c NotReached) NotReached turn).0 (inl (never, refl))

  pub reached_all : (claims marks : List ℕ) (d : ℕ) → marks ≡ claims → d ≡ c.depth → ((m : ℕ) → get_or claims m 0 ≡ claim_of c.steps m) → IsReached g roots (λ (m : ℕ). get_or marks m 0) d → IsReached g roots (claim_of c.steps) c.depth
  reached_all claims marks d same depth are r =
      subst (λ x. IsReached g roots (claim_of c.steps) x) depth (subst (λ (q : ℕ → ℕ). IsReached g roots q d) (fun_ext are) (subst (λ (xs : List ℕ). IsReached g roots (λ m. get_or xs m 0) d) same r))

  pub reached_back : (claims marks : List ℕ) (d : ℕ) → marks ≡ claims → d ≡ c.depth → ((m : ℕ) → get_or claims m 0 ≡ claim_of c.steps m) → IsReached g roots (claim_of c.steps) c.depth → IsReached g roots (λ (m : ℕ). get_or marks m 0) d
  reached_back claims marks d same depth are r =
      subst (λ (xs : List ℕ). IsReached g roots (λ m. get_or xs m 0) d) (sym same) (subst (λ (q : ℕ → ℕ). IsReached g roots q d) (sym (fun_ext are)) (subst (λ x. IsReached g roots (claim_of c.steps) x) (sym depth) r))
