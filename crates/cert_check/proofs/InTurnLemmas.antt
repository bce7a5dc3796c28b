-- Steps in turn: a certificate is valid where its steps are in turn and its depth is reached, and only there.
use Rattle.cert_check.proofs.Common.{◌≡◌, ℕ, ◌+◌, ◌<◌, ◌≤◌, cond, eqb, List, [], ◌∷◌, ◌++◌, append_assoc, map, refl, sym, ap, ◌∙◌, subst, inl, inr, arith, eqb-true, ◌≢◌, Aig, first_and, IsAnd, AreNormal, In, IsAscending, choose, In-left, In-right, In-push, In-get, In-map, from_map, StepValue, CertificateValue, claim_of, IsJustified, IsReached, IsValid, AreInTurn, path_below}

-- later steps of other nodes do not change the claim of a node
claim_none : (ss : List StepValue) (m : ℕ) → ((t : StepValue) → In ss t → t.node ≢ m) → claim_of ss m ≡ 0
claim_none [] m never = refl
claim_none (t ∷ ts) m never = choose (λ v. v ≡ 0) (eqb t.node m) t.claim (claim_of ts m) (λ e. absurd (never t (inl refl) (eqb-true t.node m e))) (λ e. claim_none ts m (λ u j. never u (inr j)))

pub claim_before : (xs ys : List StepValue) (m : ℕ) → ((t : StepValue) → In ys t → t.node ≢ m) → claim_of (xs ++ ys) m ≡ claim_of xs m
claim_before [] ys m never = claim_none ys m never
claim_before (t ∷ ts) ys m never = ap (λ v. cond (eqb t.node m) t.claim v) (claim_before ts ys m never)

-- steps in turn have higher nodes than those before them
steps_above : (g : Aig) (k : ℕ) (before ss : List StepValue) → AreInTurn g k before ss → (t s : StepValue) → In before t → In ss s → t.node < s.node
steps_above g k before [] r t s i j = absurd j
steps_above g k before (u ∷ us) r t s i (inl e) = let l : t.node < u.node = r.0.above.above t i in let q : s.node ≡ u.node = ap (λ (x : StepValue). x.node) e in omega arith
steps_above g k before (u ∷ us) r t s i (inr j) = steps_above g k (before ++ u ∷ []) us r.1 t s (In-left before (u ∷ []) t i) j

steps_ascending : (g : Aig) (k : ℕ) (before ss : List StepValue) → AreInTurn g k before ss → IsAscending (map (λ (s : StepValue). s.node) ss)
steps_ascending g k before [] r = tt
steps_ascending g k before (u ∷ us) r = (
  (λ m i. let q = from_map (λ (s : StepValue). s.node) us m i in
      let e : m ≡ q.0.node = q.2 in omega (arith, steps_above g k (before ++ u ∷ []) us r.1 u q.0 (In-right before (u ∷ []) u (inl refl)) q.1)),
  steps_ascending g k (before ++ u ∷ []) us r.1,
)

-- a claim is shown where other claims count, too, if these agree below its node
justified_agree : (g : Aig) (k : ℕ) (f h : ℕ → ℕ) (s : StepValue) → AreNormal (first_and g) g.pairs → ((m : ℕ) → m < s.node → h m ≡ f m) → IsJustified g k f s → IsJustified g k h s
justified_agree g k f h s normal same just = record {
  count = just.count;
  paths = just.paths;
  apart = λ i j m p q l a b c d other.
      let le : m ≤ s.node = path_below g s.node p.nodes m normal (just.paths p (In-get s.paths i p a)) c in
      let high : s.claim ≤ f m + 1 = just.apart i j m p q l a b c d other in
      let agree : h m ≡ f m = same m (let ne : m ≢ s.node = other in omega arith) in omega arith;
}

-- the claims of all steps are below a node those of the steps before its step
claims_agree : (before ss : List StepValue) (u : StepValue) → ((s : StepValue) → In ss s → u.node < s.node) → (m : ℕ) → m < u.node → claim_of (before ++ (u ∷ ss)) m ≡ claim_of before m
claims_agree before ss u above m l = grind (arith, claim_before)

turn_justified : (g : Aig) (k : ℕ) (before ss all : List StepValue) → AreNormal (first_and g) g.pairs → before ++ ss ≡ all → AreInTurn g k before ss → (s : StepValue) → In ss s → IsJustified g k (claim_of all) s
turn_justified g k before [] all normal e r s i = absurd i
turn_justified g k before (u ∷ us) all normal e r s (inl q) =
    subst (λ x. IsJustified g k (claim_of all) x) (sym q)
    (justified_agree g k (claim_of before) (claim_of all) u normal
    (λ m l. ap (λ xs. claim_of xs m) (sym e) ∙ claims_agree before us u (λ t h. steps_above g k (before ++ u ∷ []) us r.1 u t (In-right before (u ∷ []) u (inl refl)) h) m l) r.0.justified)
turn_justified g k before (u ∷ us) all normal e r s (inr i) = turn_justified g k (before ++ u ∷ []) us all normal (append_assoc before (u ∷ []) us ∙ e) r.1 s i

turn_nodes : (g : Aig) (k : ℕ) (before ss : List StepValue) → AreInTurn g k before ss → (s : StepValue) → In ss s → IsAnd g s.node
turn_nodes g k before [] r s i = absurd i
turn_nodes g k before (u ∷ us) r s (inl e) = subst (λ (x : StepValue). IsAnd g x.node) (sym e) r.0.above.and
turn_nodes g k before (u ∷ us) r s (inr i) = turn_nodes g k (before ++ u ∷ []) us r.1 s i

-- Steps in turn, and a depth that is reached, are a valid certificate.
pub turn_valid : (g : Aig) (roots : List ℕ) (k : ℕ) (c : CertificateValue) → AreNormal (first_and g) g.pairs → AreInTurn g k [] c.steps → IsReached g roots (claim_of c.steps) c.depth → IsValid g roots k c
turn_valid g roots k c normal r reached = record {
  ascending = steps_ascending g k [] c.steps r;
  nodes = turn_nodes g k [] c.steps r;
  justified = λ s i. turn_justified g k [] c.steps c.steps normal refl r s i;
  reached = reached;
}

-- and the other way round
valid_turn_from : (g : Aig) (k : ℕ) (before ss all : List StepValue) → AreNormal (first_and g) g.pairs → before ++ ss ≡ all → IsAscending (map (λ (s : StepValue). s.node) ss)
    → ((t s : StepValue) → In before t → In ss s → t.node < s.node) → ((s : StepValue) → In ss s → IsAnd g s.node) → ((s : StepValue) → In ss s → IsJustified g k (claim_of all) s) → AreInTurn g k before ss
valid_turn_from g k before [] all normal e up above nodes just = tt
valid_turn_from g k before (u ∷ us) all normal e up above nodes just =
    let later : (s : StepValue) → In us s → u.node < s.node = λ s i. up.0 s.node (In-map (λ (x : StepValue). x.node) us s i) in (
      record {
        above = record { and = nodes u (inl refl); above = λ t i. above t u i (inl refl) };
        justified = justified_agree g k (claim_of all) (claim_of before) u normal (λ m l. sym (ap (λ xs. claim_of xs m) (sym e) ∙ claims_agree before us u later m l)) (just u (inl refl));
      },
      valid_turn_from g k (before ++ u ∷ []) us all normal (append_assoc before (u ∷ []) us ∙ e) up.1
          (λ t s i j. elim (In-push before u t i) [ inl o ↦ above t s o (inr j) | inr q ↦ (let a : u.node < s.node = later s j in let b : t.node ≡ u.node = ap (λ (x : StepValue). x.node) q in omega arith) ])
          (λ s i. nodes s (inr i)) (λ s i. just s (inr i)),
    )

pub valid_turn : (g : Aig) (roots : List ℕ) (k : ℕ) (c : CertificateValue) → AreNormal (first_and g) g.pairs → IsValid g roots k c → AreInTurn g k [] c.steps
valid_turn g roots k c normal valid = valid_turn_from g k [] c.steps c.steps normal refl valid.ascending (λ t s i j. absurd i) valid.nodes valid.justified
