-- Stamps of nodes, and what a clash with them means for the paths of a step.
use Rattle.cert_check.proofs.Common.{◌≡◌, ℕ, ◌+◌, ◌<◌, ◌≤◌, List, [], ◌∷◌, ◌++◌, take, set, length, get_or, get_or-set_same, get_or-set_other, length-set, Some, None, sym, ap, ◌∙◌, subst, inl, inr, arith, cases_eq, cases_lt, take_more, none-some, same_Some, Aig, In, In-push, In-pushed, In-left, In-get_or, PathValue, StepValue, IsPath, MayStand, NodesFault, PathsFault, Clashes, IsFirstClash, AreStamped, IsPathFault, no_path, clash, CertErr, Shared, rules}

-- one more node is stamped
pub stamped_more : (old : List ℕ) (n : ℕ) (nodes : List ℕ) (i : ℕ) (stamps : List ℕ) → ((m : ℕ) → In nodes m → m < length old) → i < length nodes → AreStamped old n (take i nodes) stamps
    → AreStamped old n (take (i + 1) nodes) (set stamps (get_or nodes i 0) n)
stamped_more old n nodes i stamps inside l are =
    let x : ℕ = get_or nodes i 0 in
    rw (take_more nodes i 0 l) (record {
      size = length-set stamps x n ∙ are.size;
      there = λ m j. elim (cases_eq m x) [
        | inl q ↦ ap (λ y. get_or (set stamps x n) y 0) q ∙ (get_or-set_same stamps x n 0 (omega (arith, are.size, inside (get_or nodes i 0) (In-get_or nodes i 0 l))))
        | inr ne ↦ get_or-set_other stamps x m n 0 ne ∙ (elim (In-push (take i nodes) x m j) [ inl o ↦ are.there m o | inr e ↦ absurd (ne e) ])
      ];
      only = λ m. elim (cases_eq m x) [
        | inl q ↦ inl (subst (λ y. In (take i nodes ++ x ∷ []) y) (sym q) (In-pushed (take i nodes) x))
        | inr ne ↦ elim (are.only m) [ inl o ↦ inl (In-left (take i nodes) (x ∷ []) m o) | inr e ↦ inr (get_or-set_other stamps x m n 0 ne ∙ e) ]
      ];
    })

-- the stamps n are those of the nodes of these paths, and the others are lower
pub record AreStampsOf (n : ℕ) (earlier : List PathValue) (stamps : List ℕ) : Type 0 where
  pub there : (p : PathValue) (m : ℕ) → In earlier p → In p.nodes m → get_or stamps m 0 ≡ n
  pub only : (m : ℕ) → get_or stamps m 0 ≡ n → (p : PathValue) × In earlier p × In p.nodes m
  pub most : (m : ℕ) → get_or stamps m 0 ≤ n

pub stamps_more : (n : ℕ) (earlier : List PathValue) (p : PathValue) (old new : List ℕ) → AreStampsOf n earlier old → AreStamped old n p.nodes new → AreStampsOf n (earlier ++ p ∷ []) new
stamps_more n earlier p old new are more = record {
  there = λ q m i j. elim (In-push earlier p q i) [
    | inl o ↦ elim (more.only m) [ inl h ↦ more.there m h | inr e ↦ e ∙ are.there q m o j ]
    | inr e ↦ more.there m (subst (λ (r : PathValue). In r.nodes m) e j)
  ];
  only = λ m e. elim (more.only m) [
    | inl h ↦ (p, In-pushed earlier p, h)
    | inr q ↦ (let r = are.only m (sym q ∙ e) in (r.0, In-left earlier (p ∷ []) r.0 r.1, r.2))
  ];
  most = λ m. elim (more.only m) [
    | inl h ↦ (let e : get_or new m 0 ≡ n = more.there m h in omega arith)
    | inr e ↦ (let l : get_or old m 0 ≤ n = are.most m in omega arith)
  ];
}

module _ (claims : List ℕ) (s : StepValue) (earlier : List PathValue) (stamps : List ℕ) (are : AreStampsOf s.node earlier stamps) where
  -- a node that doesn't clash with the stamps may stand behind the paths, and one that does may not
  may_stand : (m : ℕ) → (Clashes stamps claims s.node s.claim m → ⊥) → MayStand (λ x. get_or claims x 0) s earlier m
  may_stand m never p i j other = search (rules, cases_lt)

  may_not : (m : ℕ) → Clashes stamps claims s.node s.claim m → MayStand (λ x. get_or claims x 0) s earlier m → ⊥
  may_not m c may = grind arith

  -- no node clashes: so each may stand there, and a fault is one of the rest
  pub all_stand : (nodes : List ℕ) → IsFirstClash stamps claims s.node s.claim nodes None → (m : ℕ) → In nodes m → MayStand (λ x. get_or claims x 0) s earlier m
  all_stand [] none m i = absurd i
  all_stand (x ∷ xs) (inl c) m i = absurd (none-some x c.1)
  all_stand (x ∷ xs) (inr r) m (inl e) = subst (MayStand (λ y. get_or claims y 0) s earlier) (sym e) (may_stand x r.0)
  all_stand (x ∷ xs) (inr r) m (inr i) = all_stand xs r.1 m i

  -- the first node that clashes is the fault
  nodes_stop : (line : ℕ) (nodes : List ℕ) (rest : Type 0) (m : ℕ) → IsFirstClash stamps claims s.node s.claim nodes (Some m) → NodesFault (λ x. get_or claims x 0) s earlier line nodes rest (Shared line m)
  nodes_stop line [] rest m none = absurd (none-some m (sym none))
  nodes_stop line (x ∷ xs) rest m (inl c) = inl (may_not x c.0, ap (Shared line) (same_Some m x c.1))
  nodes_stop line (x ∷ xs) rest m (inr n) = inr (may_stand x n.0, nodes_stop line xs rest m n.1)

  -- a path's fault is one of the paths
  pub path_stops : (g : Aig) (p : PathValue) (ps : List PathValue) (e : CertErr) → IsPathFault g claims s p stamps e → PathsFault g (λ x. get_or claims x 0) s earlier (p ∷ ps) ⊥ e
  path_stops g p ps e (no_path never is) = inl (never, is)
  path_stops g p ps e (clash m path first is) = grind (arith, nodes_stop)

-- a clash as the code finds it
pub clash_as : (g : Aig) (claims : List ℕ) (s : StepValue) (p : PathValue) (stamps marks nodes : List ℕ) (n h line m : ℕ) → n ≡ s.node → h ≡ s.claim → nodes ≡ p.nodes → marks ≡ stamps → line ≡ p.line
    → IsPath g n nodes → IsFirstClash marks claims n h nodes (Some m) → IsPathFault g claims s p stamps (Shared line m)
clash_as g claims s p stamps marks nodes n h line m node claim same marked at path first =
    clash m (rw (node, same) at path) (rw (node, claim, same, marked) at first) (ap (λ x. Shared x m) at)
