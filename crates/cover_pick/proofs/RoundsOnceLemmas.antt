-- A graph has one plan from each supply for its labels and roots: rounds from the same counts on agree plan by plan, so the first ones of the least cost do.
use Rattle.cover_pick.proofs.Common.{◌≡◌, ℕ, ◌<◌, ◌≤◌, List, [], ◌∷◌, ◌++◌, length, Option, refl, sym, ap, ◌∙◌, subst, inl, inr, arith, Aig, node_count, Rule, FewestLeaves, LeastCost, Scope, AnyHeight, LeastHeight, flow_at, fan_out, flows_by, IsPlanBy, uses, cost_of, PlanValue, AreRounds, NoneBelow, IsFirst, no_flow, IsPlan, zero, suc, ◌+◌, Some, None, same_Some, none-some, false≢true, IsAnd, In, row_at, lex_trans, lex-same, before_trans, before-same, target, AtMost, IsRuled, HasRuled, IsNeededAbove, IsCheaper, earlier, less, fun_ext, ap₂, subst₂, Bool, false, has_cut, AreServing, AreSixRounds, IsMaking, IsLeastOfMakings, Supply, Rows, Sets, HaveOneMaking, IsSupplied}
use Rattle.cover_pick.specs.Choice.{Precedes, lower, before, fewer}
use Rattle.cover_pick.proofs.ChoiceLemmas.{above_same, cost_moved}

-- two cuts of which each is chosen before the other are the same
precedes_same : (label : ℕ → ℕ) (c d : List ℕ) → Precedes label c d → Precedes label d c → c ≡ d
precedes_same label c d (fewer l) (fewer m) = absurd (omega arith)
precedes_same label c d (fewer l) (lower e m) = absurd (omega arith)
precedes_same label c d (fewer l) (before e m o) = absurd (omega arith)
precedes_same label c d (lower e l) (fewer m) = absurd (omega arith)
precedes_same label c d (lower e l) (lower f m) = absurd (omega arith)
precedes_same label c d (lower e l) (before f m o) = absurd (omega arith)
precedes_same label c d (before e l o) (fewer m) = absurd (omega arith)
precedes_same label c d (before e l o) (lower f m) = absurd (omega arith)
precedes_same label c d (before e l (inl q)) (before f m p) = q
precedes_same label c d (before e l (inr q)) (before f m (inl p)) = sym p
precedes_same label c d (before e l (inr q)) (before f m (inr p)) = absurd (false≢true (sym (lex-same c) ∙ lex_trans c d c q p))

cheaper_same : (c d : List ℕ) (v w : ℕ) → IsCheaper c d v w → IsCheaper d c w v → c ≡ d
cheaper_same c d v w (less l) (less m) = absurd (omega arith)
cheaper_same c d v w (less l) (earlier e o) = absurd (omega arith)
cheaper_same c d v w (earlier e o) (less m) = absurd (omega arith)
cheaper_same c d v w (earlier e (inl q)) (earlier f p) = q
cheaper_same c d v w (earlier e (inr q)) (earlier f (inl p)) = sym p
cheaper_same c d v w (earlier e (inr q)) (earlier f (inr p)) = absurd (false≢true (sym (before-same c) ∙ before_trans c d c q p))

-- one cut is chosen by a rule, where the same is needed
ruled_once : (rule : Rule) (flow : ℕ → ℕ) (needed other : ℕ → Type 0) (label : ℕ → ℕ) (r : ℕ) (cs : List (List ℕ)) (c d : List ℕ) → ((m : ℕ) → needed m → other m) → ((m : ℕ) → other m → needed m)
    → IsRuled rule flow needed label r cs c → IsRuled rule flow other label r cs d → c ≡ d
ruled_once FewestLeaves flow needed other label r cs c d to from a b = precedes_same label c d (a.first d b.one b.low) (b.first c a.one a.low)
ruled_once LeastCost flow needed other label r cs c d to from a b =
    cheaper_same c d a.cost b.cost (a.first d b.cost b.one b.low (cost_moved flow other needed from to d b.cost b.is)) (b.first c a.cost a.one a.low (cost_moved flow needed other to from c a.cost a.is))

ruled_one : (rule : Rule) (flow : ℕ → ℕ) (needed : ℕ → Type 0) (label : ℕ → ℕ) (r : ℕ) (cs : List (List ℕ)) (c : List ℕ) → IsRuled rule flow needed label r cs c → In cs c
ruled_one FewestLeaves flow needed label r cs c a = a.one
ruled_one LeastCost flow needed label r cs c a = a.one

record PlansAgree (reqs other : ℕ → Option ℕ) (cover more : ℕ → Option (List ℕ)) (n : ℕ) : Type 0 where
  depth : reqs n ≡ other n
  cut : cover n ≡ more n

module _ (rule : Rule) (g : Aig) (rows : List (List (List ℕ))) (label : ℕ → ℕ) (roots : List ℕ) (flow : ℕ → ℕ) (k : ℕ) (t : AreServing g k label rows) where
  leaf_below : (reqs : ℕ → Option ℕ) (cover : ℕ → Option (List ℕ)) → IsPlanBy rule g rows label roots flow reqs cover → (n r m : ℕ) (c : List ℕ) → reqs n ≡ Some r → cover n ≡ Some c → In c m → m < n
  leaf_below reqs cover p n r m c e at i =
      let h : HasRuled rule flow (IsNeededAbove roots cover n) label r (row_at rows n) (cover n) = p.chosen n r e in
      let and : IsAnd g n = p.schedule.nodes n r e in
      ((t.cuts n h.cut and (ruled_one rule flow (IsNeededAbove roots cover n) label r (row_at rows n) h.cut h.best)).below m (subst (λ x. In x m) (sym (same_Some h.cut c (sym h.is ∙ at))) i)).0

  -- where two plans agree above a node, the one has no greater depth there
  depth_most : (reqs other : ℕ → Option ℕ) (cover more : ℕ → Option (List ℕ)) → IsPlanBy rule g rows label roots flow reqs cover → IsPlanBy rule g rows label roots flow other more
      → (n r : ℕ) → ((m : ℕ) → n < m → PlansAgree reqs other cover more m) → reqs n ≡ Some r → AtMost (other n) r
  depth_most reqs other cover more p q n r above e =
      let and : IsAnd g n = p.schedule.nodes n r e in
      elim (p.schedule.whence n r e) [
        | inl f ↦ (let a : AtMost (other n) (target g label roots) = subst (λ m. AtMost (other m) (target g label roots)) f.node (q.schedule.root f.root f.is_root (subst (λ m. IsAnd g m) (sym f.node) and)) in subst (λ d. AtMost (other n) d) (sym f.is) a)
        | inr f ↦ (
            let same = above f.reader (leaf_below reqs cover p f.reader f.depth n f.cut f.needed f.chosen f.leaf) in
            subst (λ d. AtMost (other n) d) (sym f.is) (q.schedule.leaf f.reader f.depth n f.cut (sym same.depth ∙ f.needed) (sym same.cut ∙ f.chosen) f.leaf and))
      ]

  module _ (reqs other : ℕ → Option ℕ) (cover more : ℕ → Option (List ℕ)) (p : IsPlanBy rule g rows label roots flow reqs cover) (q : IsPlanBy rule g rows label roots flow other more) where
    same_depth : (n : ℕ) (o x : Option ℕ) → reqs n ≡ o → other n ≡ x → ((r : ℕ) → reqs n ≡ Some r → AtMost (other n) r) → ((r : ℕ) → other n ≡ Some r → AtMost (reqs n) r) → o ≡ x
    same_depth n None None e f a b = refl
    same_depth n None (Some s) e f a b = let m = b s f in absurd (none-some m.by (sym e ∙ m.is))
    same_depth n (Some r) None e f a b = let m = a r e in absurd (none-some m.by (sym f ∙ m.is))
    same_depth n (Some r) (Some s) e f a b =
        let m = a r e in
        let k = b s f in
        let x : s ≡ m.by = same_Some s m.by (sym f ∙ m.is) in
        let y : r ≡ k.by = same_Some r k.by (sym e ∙ k.is) in
        let v : m.by ≤ r = m.le in
        let w : k.by ≤ s = k.le in
        ap (λ i. Some i) (let z : r ≡ s = omega arith in z)

    same_cut : (n : ℕ) → ((m : ℕ) → n < m → PlansAgree reqs other cover more m) → (o : Option ℕ) → reqs n ≡ o → other n ≡ o → cover n ≡ more n
    same_cut n above None e f = p.none n e ∙ sym (q.none n f)
    same_cut n above (Some r) e f =
        let a = p.chosen n r e in
        let b = q.chosen n r f in
        let to : (m : ℕ) → IsNeededAbove roots cover n m → IsNeededAbove roots more n m = (λ m x. above_same roots cover more n m (λ i l. (above i l).cut) x) in
        let from : (m : ℕ) → IsNeededAbove roots more n m → IsNeededAbove roots cover n m = (λ m x. above_same roots more cover n m (λ i l. sym (above i l).cut) x) in
        a.is ∙ (ap (λ c. Some c) (ruled_once rule flow (IsNeededAbove roots cover n) (IsNeededAbove roots more n) label r (row_at rows n) a.cut b.cut to from a.best b.best) ∙ sym b.is)

    agree_at : (n : ℕ) → ((m : ℕ) → n < m → PlansAgree reqs other cover more m) → PlansAgree reqs other cover more n
    agree_at n above =
        let d : reqs n ≡ other n = same_depth n (reqs n) (other n) refl refl (λ r e. depth_most reqs other cover more p q n r above e)
        (λ r e. depth_most other reqs more cover q p n r (λ m k. let a = above m k in record { depth = sym a.depth; cut = sym a.cut }) e) in
        record { depth = d; cut = same_cut n above (reqs n) refl (sym d) }

    past_none : (some : ℕ → Option ℕ) (cuts : ℕ → Option (List ℕ)) → IsPlanBy rule g rows label roots flow some cuts → (n : ℕ) → node_count g ≤ n → (o : Option ℕ) → some n ≡ o → some n ≡ None
    past_none some cuts plan n l None e = e
    past_none some cuts plan n l (Some r) e = absurd (let a : n < node_count g = (plan.schedule.nodes n r e).1 in omega arith)

    agree_past : (n : ℕ) → node_count g ≤ n → PlansAgree reqs other cover more n
    agree_past n l =
        let a : reqs n ≡ None = past_none reqs cover p n l (reqs n) refl in
        let b : other n ≡ None = past_none other more q n l (other n) refl in
        record { depth = a ∙ sym b; cut = p.none n a ∙ sym (q.none n b) }

    agree_above : (f n : ℕ) → node_count g ≤ n + f → PlansAgree reqs other cover more n
    agree_above zero n l = agree_past n (omega arith)
    agree_above (suc f) n l = agree_at n (λ m k. agree_above f m (omega arith))

    -- A graph has one plan by these flows.
    depths_once : (n : ℕ) → reqs n ≡ other n
    depths_once n = (agree_above (node_count g) n (omega arith)).depth

    cuts_once : (n : ℕ) → cover n ≡ more n
    cuts_once n = (agree_above (node_count g) n (omega arith)).cut

module _ (g : Aig) where
  -- where no plan of a list costs less than this, the first of the least cost does not
  none_first : (ps : List PlanValue) (v : ℕ) → NoneBelow g v ps → (q : PlanValue) → IsFirst g q ps → v ≤ cost_of g q.cover
  none_first [] v none q f = absurd f
  none_first (x ∷ ps) v none q (inl f) = subst (λ (u : PlanValue). v ≤ cost_of g u.cover) (sym f.0) (none x (inl refl))
  none_first (x ∷ ps) v none q (inr f) = none_first ps v (λ r i. none r (inr i)) q f.1

  pub first_once : (ps : List PlanValue) (p q : PlanValue) → IsFirst g p ps → IsFirst g q ps → p ≡ q
  first_once [] p q e f = absurd e
  first_once (x ∷ ps) p q (inl e) (inl f) = e.0 ∙ sym f.0
  first_once (x ∷ ps) p q (inl e) (inr f) = absurd (omega (arith, none_first ps (cost_of g p.cover) e.1 q f.1, ap (λ (u : PlanValue). cost_of g u.cover) e.0, f.0))
  first_once (x ∷ ps) p q (inr e) (inl f) = absurd (omega (arith, none_first ps (cost_of g q.cover) f.1 p e.1, ap (λ (u : PlanValue). cost_of g u.cover) f.0, e.0))
  first_once (x ∷ ps) p q (inr e) (inr f) = first_once ps p q e.1 f.1

module _ (g : Aig) (rows : List (List (List ℕ))) (label : ℕ → ℕ) (roots : List ℕ) (k : ℕ) (t : AreServing g k label rows) where
  -- plans by the same counts are the same
  round_once : (flow : ℕ → ℕ) (p q : PlanValue) → IsPlanBy LeastCost g rows label roots flow p.reqs p.cover → IsPlanBy LeastCost g rows label roots flow q.reqs q.cover → p ≡ q
  round_once flow p q a b =
      let cover : p.cover ≡ q.cover = fun_ext (cuts_once LeastCost g rows label roots flow k t p.reqs q.reqs p.cover q.cover a b) in
      λ i. record { reqs = (fun_ext (depths_once LeastCost g rows label roots flow k t p.reqs q.reqs p.cover q.cover a b)) i; cover = cover i }

  rounds_once : (scope : Scope) (counts : ℕ → ℕ) (ps qs : List PlanValue) → length ps ≡ length qs → AreRounds g rows label roots scope counts ps → AreRounds g rows label roots scope counts qs → ps ≡ qs
  rounds_once scope counts [] [] l a b = refl
  rounds_once scope counts (p ∷ ps) (q ∷ qs) l a b =
      let s : p ≡ q = round_once (flow_at (flows_by g rows label scope counts)) p q a.0 b.0 in
      ap₂ (λ (x : PlanValue) (xs : List PlanValue). x ∷ xs) s (rounds_once scope (uses g p.cover) ps qs (omega arith) a.1 (subst (λ (u : PlanValue). AreRounds g rows label roots scope (uses g u.cover) qs) (sym s) b.1))
  rounds_once scope counts ps qs l a b = absurd (omega arith)

  -- six rounds from the same counts on are the same
  pub six_once : (counts : ℕ → ℕ) (ps qs : List PlanValue) → AreSixRounds g rows label roots counts ps → AreSixRounds g rows label roots counts qs → ps ≡ qs
  six_once counts ps qs p q = grind (arith, rounds_once, ap₂)

module _ (g : Aig) (k : ℕ) (lows : ℕ → List ℕ) (label : ℕ → ℕ) (roots : List ℕ) (one : HaveOneMaking g k label lows) where
  -- a graph has one set for each node, so it has one making for the same counts and favoured nodes
  making_once : (counts : ℕ → ℕ) (favoured : ℕ → Bool) (ps qs : List PlanValue) → IsMaking g k lows label roots counts favoured ps → IsMaking g k lows label roots counts favoured qs → ps ≡ qs
  making_once counts favoured ps qs p q =
      let sets : p.sets ≡ q.sets = one.once counts favoured p.sets q.sets p.made q.made in
      six_once g q.sets label roots k (one.serves counts favoured q.sets q.made) counts ps qs (subst (λ rows. AreSixRounds g rows label roots counts ps) sets p.rounds) q.rounds

  least_once : (reqs other : ℕ → Option ℕ) (cover more : ℕ → Option (List ℕ)) (p : IsLeastOfMakings g k lows label roots reqs cover) (q : IsLeastOfMakings g k lows label roots other more) → p.plan ≡ q.plan
  least_once reqs other cover more p q =
      let first : p.first ≡ q.first = making_once (fan_out g) (λ m. false) p.first q.first p.first_making q.first_making in
      let best : p.best ≡ q.best = first_once g q.first p.best q.best (subst (λ xs. IsFirst g p.best xs) first p.best_is) q.best_is in
      let second : p.second ≡ q.second = making_once (uses g q.best.cover) (λ m. has_cut (q.best.cover m)) p.second q.second
      (subst (λ (b : PlanValue). IsMaking g k lows label roots (uses g b.cover) (λ m. has_cut (b.cover m)) p.second) best p.second_making) q.second_making in
      first_once g (q.first ++ q.second) p.plan q.plan (subst₂ (λ (xs ys : List PlanValue). IsFirst g p.plan (xs ++ ys)) first second p.plan_is) q.plan_is

-- A graph has one plan from a supply.
pub plan_once : (supply : Supply) (g : Aig) (label : ℕ → ℕ) (roots : List ℕ) → IsSupplied supply g label → (reqs other : ℕ → Option ℕ) (cover more : ℕ → Option (List ℕ)) → IsPlan supply g label roots reqs cover → IsPlan supply g label roots other more
    → (reqs ≡ other) × (cover ≡ more)
plan_once (Rows rows) g label roots t reqs other cover more p q =
    (fun_ext (depths_once FewestLeaves g rows label roots no_flow t.k t.served.serving reqs other cover more p q), fun_ext (cuts_once FewestLeaves g rows label roots no_flow t.k t.served.serving reqs other cover more p q))
plan_once (Sets k lows) g label roots t reqs other cover more p q =
    let s : p.plan ≡ q.plan = least_once g k lows label roots t reqs other cover more p q in
    (fun_ext (λ n. p.depths n ∙ (ap (λ (u : PlanValue). u.reqs n) s ∙ sym (q.depths n))), fun_ext (λ n. p.cuts n ∙ (ap (λ (u : PlanValue). u.cover n) s ∙ sym (q.cuts n))))
