-- The demands of a certificate: where all are met only the rest can be at fault, and two faults are the same.
use Rattle.cert_check.proofs.Common.{◌≡◌, ℕ, zero, suc, ◌<◌, List, [], ◌∷◌, ◌++◌, take, Some, refl, sym, ap, ◌∙◌, subst, inl, inr, arith, append_assoc, append-nil, slice_get, Aig, In, PathValue, StepValue, CertificateValue, IsPath, claim_of, IsJustified, First, MayStand, NodesFault, PathsFault, StepFault, StepsFault, DepthFault, IsFault, AreInTurn, CertErr}

-- a fault of the rest is one of the whole where the demand is met, and the other way round
abbrev pub Same : Type 0 → Type 0 → Type 0
Same A B = (A → B) × (B → A)

first_met : {D R : Type 0} {x e : CertErr} → D → Same R (First D x R e)
first_met d = ((λ r. inr (d, r)), (λ f. elim f [ inl n ↦ absurd (n.0 d) | inr r ↦ r.1 ]))

through : {A B C : Type 0} → Same A B → Same B C → Same A C
through f g = ((λ a. g.0 (f.0 a)), (λ c. f.1 (g.1 c)))

-- an element among those before a place stands at a lower place
taken_get : {A : Type 0} (xs : List A) (j : ℕ) (x : A) → In (take j xs) x → (i : ℕ) × (i < j) × (slice_get xs i ≡ Some x)
taken_get [] (suc j) x i = absurd i
taken_get (y ∷ xs) (suc j) x (inl e) = (0, omega arith, ap Some (sym e))
taken_get (y ∷ xs) (suc j) x (inr i) = let r = taken_get xs j x i in (suc r.0, (let l : r.0 < j = r.1 in omega arith), r.2)
taken_get items zero x i = absurd i

pub nodes_met : (claim : ℕ → ℕ) (s : StepValue) (earlier : List PathValue) (line : ℕ) (ms : List ℕ) (R : Type 0) (e : CertErr) → ((m : ℕ) → In ms m → MayStand claim s earlier m) → Same R (NodesFault claim s earlier line ms R e)
nodes_met claim s earlier line [] R e may = ((λ r. r), (λ r. r))
nodes_met claim s earlier line (m ∷ ms) R e may = through (nodes_met claim s earlier line ms R e (λ n i. may n (inr i))) (first_met (may m (inl refl)))

-- each node of each of these paths may stand behind the paths before it
AllMayStand : (ℕ → ℕ) → StepValue → List PathValue → List PathValue → Type 0
AllMayStand claim s earlier ps = (j : ℕ) (q : PathValue) (m : ℕ) → slice_get ps j ≡ Some q → In q.nodes m → MayStand claim s (earlier ++ take j ps) m

paths_met : (g : Aig) (claim : ℕ → ℕ) (s : StepValue) (earlier ps : List PathValue) (R : Type 0) (e : CertErr) → ((p : PathValue) → In ps p → IsPath g s.node p.nodes) → AllMayStand claim s earlier ps → Same R (PathsFault g claim s earlier ps R e)
unfolding AllMayStand
paths_met g claim s earlier [] R e paths may = ((λ r. r), (λ r. r))
paths_met g claim s earlier (p ∷ ps) R e paths may =
    through (paths_met g claim s (earlier ++ p ∷ []) ps R e (λ q i. paths q (inr i)) (λ j q m at i. subst (λ l. MayStand claim s l m) (sym (append_assoc earlier (p ∷ []) (take j ps))) (may (suc j) q m at i)))
    (through (nodes_met claim s earlier p.line p.nodes _ e (λ m i. subst (λ l. MayStand claim s l m) (append-nil earlier) (may 0 p m refl i))) (first_met (paths p (inl refl))))

step_met : (g : Aig) (k : ℕ) (claim : ℕ → ℕ) (s : StepValue) (R : Type 0) (e : CertErr) → IsJustified g k claim s → Same R (StepFault g k claim s R e)
unfolding AllMayStand
step_met g k claim s R e just = grind (arith, through, paths_met, taken_get, first_met)

-- Steps in turn have no fault: one is of the rest.
pub steps_met : (g : Aig) (k : ℕ) (before ss : List StepValue) (R : Type 0) (e : CertErr) → AreInTurn g k before ss → Same R (StepsFault g k before ss R e)
steps_met g k before [] R e turn = ((λ r. r), (λ r. r))
steps_met g k before (s ∷ ss) R e turn = grind (arith, through, step_met, first_met, steps_met g k (before ++ s ∷ []) ss R e turn.1)

-- a fault of more is one of all
first_more : {D R S : Type 0} {x e : CertErr} → (R → S) → First D x R e → First D x S e
first_more f (inl n) = inl n
first_more f (inr r) = inr (r.0, f r.1)

nodes_more : (claim : ℕ → ℕ) (s : StepValue) (earlier : List PathValue) (line : ℕ) (ms : List ℕ) (R S : Type 0) (e : CertErr) → (R → S) → NodesFault claim s earlier line ms R e → NodesFault claim s earlier line ms S e
nodes_more claim s earlier line [] R S e f n = f n
nodes_more claim s earlier line (m ∷ ms) R S e f n = first_more (nodes_more claim s earlier line ms R S e f) n

paths_more : (g : Aig) (claim : ℕ → ℕ) (s : StepValue) (earlier ps : List PathValue) (R S : Type 0) (e : CertErr) → (R → S) → PathsFault g claim s earlier ps R e → PathsFault g claim s earlier ps S e
paths_more g claim s earlier [] R S e f n = f n
paths_more g claim s earlier (p ∷ ps) R S e f n = first_more (nodes_more claim s earlier p.line p.nodes _ _ e (paths_more g claim s (earlier ++ p ∷ []) ps R S e f)) n

pub step_more : (g : Aig) (k : ℕ) (claim : ℕ → ℕ) (s : StepValue) (R S : Type 0) (e : CertErr) → (R → S) → StepFault g k claim s R e → StepFault g k claim s S e
step_more g k claim s R S e f n = first_more (paths_more g claim s [] s.paths R S e f) n

pub steps_more : (g : Aig) (k : ℕ) (before ss : List StepValue) (R S : Type 0) (e : CertErr) → (R → S) → StepsFault g k before ss R e → StepsFault g k before ss S e
steps_more g k before [] R S e f n = f n
steps_more g k before (s ∷ ss) R S e f n = first_more (step_more g k (claim_of before) s _ _ e (steps_more g k (before ++ s ∷ []) ss R S e f)) n

-- two faults are the same where those of the rest are
first_same : {D R S : Type 0} {x e f : CertErr} → (R → S → e ≡ f) → First D x R e → First D x S f → e ≡ f
first_same same (inl a) (inl b) = a.1 ∙ sym b.1
first_same same (inl a) (inr b) = absurd (a.0 b.0)
first_same same (inr a) (inl b) = absurd (b.0 a.0)
first_same same (inr a) (inr b) = same a.1 b.1

nodes_same : (claim : ℕ → ℕ) (s : StepValue) (earlier : List PathValue) (line : ℕ) (ms : List ℕ) (R S : Type 0) (e f : CertErr) → (R → S → e ≡ f) → NodesFault claim s earlier line ms R e → NodesFault claim s earlier line ms S f → e ≡ f
nodes_same claim s earlier line [] R S e f same a b = same a b
nodes_same claim s earlier line (m ∷ ms) R S e f same a b = first_same (nodes_same claim s earlier line ms R S e f same) a b

paths_same : (g : Aig) (claim : ℕ → ℕ) (s : StepValue) (earlier ps : List PathValue) (R S : Type 0) (e f : CertErr) → (R → S → e ≡ f) → PathsFault g claim s earlier ps R e → PathsFault g claim s earlier ps S f → e ≡ f
paths_same g claim s earlier [] R S e f same a b = same a b
paths_same g claim s earlier (p ∷ ps) R S e f same a b = first_same (nodes_same claim s earlier p.line p.nodes _ _ e f (paths_same g claim s (earlier ++ p ∷ []) ps R S e f same)) a b

steps_same : (g : Aig) (k : ℕ) (before ss : List StepValue) (R S : Type 0) (e f : CertErr) → (R → S → e ≡ f) → StepsFault g k before ss R e → StepsFault g k before ss S f → e ≡ f
steps_same g k before [] R S e f same a b = same a b
steps_same g k before (s ∷ ss) R S e f same a b = grind (arith, first_same, paths_same, steps_same g k (before ++ s ∷ []) ss R S e f same)

-- A certificate has one fault at most.
pub one_fault : (g : Aig) (roots : List ℕ) (k : ℕ) (c : CertificateValue) (e f : CertErr) → IsFault g roots k c e → IsFault g roots k c f → e ≡ f
one_fault g roots k c e f a b = steps_same g k [] c.steps (DepthFault g roots c e) (DepthFault g roots c f) e f (λ x y. first_same (λ n m. absurd n) x y) a b
