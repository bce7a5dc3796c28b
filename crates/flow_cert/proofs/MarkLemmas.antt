-- The marks of the nodes that two paths of a step share, node by node.
use Rattle.flow_cert.proofs.Common.{◌≡◌, ℕ, ◌+◌, ◌-◌, ◌<◌, ◌≤◌, Bool, true, false, List, [], ◌∷◌, ◌++◌, length, get_or, set, Some, sym, ap, ◌∙◌, subst, inl, inr, ◌⊎◌, arith, length-set, get_or-set_other, get_or-set_same, slice_get, cases_eq, cases_lt, slice_get_within, same_Some, In, In-left, In-right, In-push, PathValue, StepValue, IsShared, rules}
use Rattle.flow_cert.specs.Marks.{StandsIn, HasTaken, first, again, shared, AreTaken, AreMarkedTo, AreMarked}

pub taken_sizes : (node place m : ℕ) (marks : List Bool) (met : List ℕ) (marks' : List Bool) (met' : List ℕ) → HasTaken node place m marks met marks' met' → (length marks' ≡ length marks) × (length met' ≡ length met)
taken_sizes node place m marks met marks' met' (first z e f) = (ap length f, ap length e ∙ length-set met m (place + 1))
taken_sizes node place m marks met marks' met' (again p o e f) = (ap length f, ap length e)
taken_sizes node place m marks met marks' met' (shared p o q e f) = (ap length f ∙ length-set marks m true, ap length e)

-- The path at a place, and one of its nodes.
module _ (s : StepValue) (place m : ℕ) (path : PathValue) (is : slice_get s.paths place ≡ Some path) (inside : In path.nodes m) (low : m ≤ s.node) (nodes : List ℕ) (met : List ℕ) (k : AreTaken s place nodes met) where
  old_member : (x : ℕ) → In (nodes ++ m ∷ []) x → (x ≡ m → ⊥) → In nodes x
  old_member x i ne = elim (In-push nodes m x i) [ inl j ↦ j | inr e ↦ absurd (ne e) ]

  -- it is met here first
  taken_first : get_or met m 0 ≡ 0 → m < length met → AreTaken s place (nodes ++ m ∷ []) (set met m (place + 1))
  taken_first z l =
      let there : get_or (set met m (place + 1)) m 0 ≡ place + 1 = get_or-set_same met m (place + 1) 0 l in
      record {
        first = λ x p. elim (cases_eq x m) [
          | inl e ↦ (let a : get_or (set met m (place + 1)) x 0 ≡ place + 1 = ap (λ y. get_or (set met m (place + 1)) y 0) e ∙ there in inr ((omega arith), In-right nodes (m ∷ []) x (inl e)))
          | inr ne ↦ (let a : get_or (set met m (place + 1)) x 0 ≡ get_or met x 0 = get_or-set_other met m x (place + 1) 0 ne in
              subst (λ v. StandsIn s place x (v - 1) ⊎ ((v - 1 ≡ place) × In (nodes ++ m ∷ []) x)) (sym a) (elim (k.first x (omega arith)) [ inl h ↦ inl h | inr h ↦ inr (h.0, In-left nodes (m ∷ []) x h.1) ]))
        ];
        all = λ x i h. elim (cases_eq x m) [
          | inl e ↦ absurd (let a : 0 < get_or met x 0 = (k.all x i h).0 in let b : get_or met x 0 ≡ get_or met m 0 = ap (λ y. get_or met y 0) e in omega arith)
          | inr ne ↦ subst (λ v. (0 < v) × (v - 1 ≤ i)) (sym (get_or-set_other met m x (place + 1) 0 ne)) (k.all x i h)
        ];
        here = λ x i. elim (cases_eq x m) [
          | inl e ↦ (let a : get_or (set met m (place + 1)) x 0 ≡ place + 1 = ap (λ y. get_or (set met m (place + 1)) y 0) e ∙ there in (omega arith, omega arith))
          | inr ne ↦ subst (λ v. (0 < v) × (v - 1 ≤ place)) (sym (get_or-set_other met m x (place + 1) 0 ne)) (k.here x (old_member x i ne))
        ];
      }

  -- it was met before
  met_low : 0 < get_or met m 0 → get_or met m 0 - 1 ≤ place
  met_low p = elim (k.first m p) [ inl h ↦ (let l : get_or met m 0 - 1 < place = h.before in omega arith) | inr h ↦ (let e : get_or met m 0 - 1 ≡ place = h.0 in omega arith) ]

  taken_again : 0 < get_or met m 0 → AreTaken s place (nodes ++ m ∷ []) met
  taken_again p = record {
    first = λ x q. elim (k.first x q) [ inl h ↦ inl h | inr h ↦ inr (h.0, In-left nodes (m ∷ []) x h.1) ];
    all = k.all;
    here = λ x i. elim (cases_eq x m) [ inl e ↦ subst (λ y. (0 < get_or met y 0) × (get_or met y 0 - 1 ≤ place)) (sym e) (p, met_low p) | inr ne ↦ k.here x (old_member x i ne) ];
  }

  pub taken : (marks marks' : List Bool) (met' : List ℕ) → m < length met → HasTaken s.node place m marks met marks' met' → AreTaken s place (nodes ++ m ∷ []) met'
  taken marks marks' met' l (first z e f) = rw e (taken_first z l)
  taken marks marks' met' l (again p o e f) = rw e (taken_again p)
  taken marks marks' met' l (shared p o q e f) = rw e (taken_again p)

  -- a node that is met again in another path is shared
  is_shared : 0 < get_or met m 0 → (get_or met m 0 ≡ place + 1 → ⊥) → (m ≡ s.node → ⊥) → IsShared s m
  is_shared p other ne = search rules

  module _ (old marks : List Bool) (w : AreMarkedTo s place nodes old marks) where
    -- where nothing is marked: m does not stand in an earlier path, or is the path's end
    marked_same : ((i : ℕ) → m < s.node → StandsIn s place m i → ⊥) → AreMarkedTo s place (nodes ++ m ∷ []) old marks
    marked_same never = record {
      size = w.size;
      kept = w.kept;
      only = w.only;
      all = λ x i l h o. elim (cases_eq x m) [
        | inl e ↦ absurd (never i (subst (λ y. y < s.node) e l) (subst (λ y. StandsIn s place y i) e h))
        | inr ne ↦ w.all x i l h (elim o [ inl j ↦ inl (old_member x j ne) | inr j ↦ inr j ])
      ];
    }

    marked_set : IsShared s m → m < length marks → AreMarkedTo s place (nodes ++ m ∷ []) old (set marks m true)
    marked_set share l =
        let there : get_or (set marks m true) m false ≡ true = get_or-set_same marks m true false l in
        let kept_mark : (x : ℕ) → get_or marks x false ≡ true → get_or (set marks m true) x false ≡ true =
        (λ x h. elim (cases_eq x m) [ inl e ↦ ap (λ y. get_or (set marks m true) y false) e ∙ there | inr ne ↦ get_or-set_other marks m x true false ne ∙ h ]) in
        record {
          size = length-set marks m true ∙ w.size;
          kept = λ x h. kept_mark x (w.kept x h);
          only = λ x h. elim (cases_eq x m) [
            | inl e ↦ inr (subst (λ y. IsShared s y) (sym e) share)
            | inr ne ↦ w.only x (sym (get_or-set_other marks m x true false ne) ∙ h)
          ];
          all = λ x i b h o. elim (cases_eq x m) [
            | inl e ↦ ap (λ y. get_or (set marks m true) y false) e ∙ there
            | inr ne ↦ kept_mark x (w.all x i b h (elim o [ inl j ↦ inl (old_member x j ne) | inr j ↦ inr j ]))
          ];
        }

    pub marked : (marks' : List Bool) (met' : List ℕ) → m < length marks → HasTaken s.node place m marks met marks' met' → AreMarkedTo s place (nodes ++ m ∷ []) old marks'
    marked marks' met' l (first z e f) = rw f (marked_same (λ i b h. let a : 0 < get_or met m 0 = (k.all m i h).0 in absurd (omega arith)))
    marked marks' met' l (again p o e f) = rw f (marked_same (λ i b h. elim o [
      | inl here ↦ (let a : get_or met m 0 - 1 ≤ i = (k.all m i h).1 in let c : i < place = h.before in absurd (omega arith))
      | inr end ↦ absurd (omega arith)
    ]))
    marked marks' met' l (shared p other ne e f) = rw f (marked_set (is_shared p other ne) l)

-- All nodes of the path at a place were taken.
module _ (s : StepValue) (place : ℕ) (path : PathValue) (is : slice_get s.paths place ≡ Some path) where
  stands_cases : (m i : ℕ) → StandsIn s (place + 1) m i → StandsIn s place m i ⊎ ((i ≡ place) × In path.nodes m)
  stands_cases m i h = elim (cases_lt i place) [
    | inl l ↦ inl (record { path = h.path; is = h.is; before = l; inside = h.inside })
    | inr l ↦ (let b : i < place + 1 = h.before in let e : i ≡ place = omega arith in
        inr (e, subst (λ (p : PathValue). In p.nodes m) (same_Some h.path path (sym h.is ∙ (ap (λ j. slice_get s.paths j) e ∙ is))) h.inside))
  ]

  stands_later : (m i : ℕ) → StandsIn s place m i → StandsIn s (place + 1) m i
  stands_later m i h = record { path = h.path; is = h.is; before = (let b : i < place = h.before in omega arith); inside = h.inside }

  pub taken_next : (met : List ℕ) → AreTaken s place path.nodes met → AreTaken s (place + 1) [] met
  taken_next met k = record {
    first = λ m p. inl (elim (k.first m p) [
      | inl h ↦ stands_later m (get_or met m 0 - 1) h
      | inr h ↦ record { path = path; is = ap (λ j. slice_get s.paths j) h.0 ∙ is; before = (let e : get_or met m 0 - 1 ≡ place = h.0 in omega arith); inside = h.1 }
    ]);
    all = λ m i h. elim (stands_cases m i h) [
      | inl o ↦ k.all m i o
      | inr o ↦ (let r = k.here m o.1 in (r.0, (let e : i ≡ place = o.0 in let l : get_or met m 0 - 1 ≤ place = r.1 in omega arith)))
    ];
    here = λ m i. absurd i;
  }

  pub marked_next : (old marks : List Bool) → AreMarkedTo s place path.nodes old marks → AreMarkedTo s (place + 1) [] old marks
  marked_next old marks w = record {
    size = w.size;
    kept = w.kept;
    only = w.only;
    all = λ m i l h o. elim o [
      | inl b ↦ absurd b
      | inr later ↦ (let j : ℕ = later.0 in let a : i < later.0 = later.1 in let b : later.0 < place + 1 = later.2.before in
          elim (stands_cases m later.0 later.2) [
            | inl q ↦ w.all m i l (record { path = h.path; is = h.is; before = (let c : later.0 < place = q.before in omega arith); inside = h.inside }) (inr (later.0, later.1, q))
            | inr q ↦ w.all m i l (record { path = h.path; is = h.is; before = (let c : later.0 ≡ place = q.0 in omega arith); inside = h.inside }) (inl q.1)
          ])
    ];
  }

-- and at last
pub marked_all : (s : StepValue) (limit : ℕ) (old marks : List Bool) → length s.paths ≤ limit → AreMarkedTo s limit [] old marks → AreMarked s old marks
marked_all s limit old marks l w = record {
  size = w.size;
  kept = w.kept;
  only = w.only;
  all = λ m h.
      let j_in : h.j < length s.paths = slice_get_within s.paths h.j h.q h.second in
      w.all m h.i h.below (record { path = h.p; is = h.first; before = omega arith; inside = h.in_first })
      (inr (h.j, h.order, record { path = h.q; is = h.second; before = omega arith; inside = h.in_second }));
}
