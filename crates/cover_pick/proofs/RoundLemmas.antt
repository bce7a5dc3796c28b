-- The rounds that are made are rounds by their own words, and the flows that are found are those of the first plan of the least cost.
use Rattle.cover_pick.proofs.Common.{◌≡◌, ℕ, ◌/◌, ◌<◌, ◌≤◌, cond, ltb, Bool, true, false, List, [], ◌∷◌, ◌++◌, length, Option, refl, sym, ap, ◌∙◌, subst, inl, inr, arith, ltb-true, ltb-false, Aig, first_and, node_count, AreNormal, In, In-append, choose, choose_one, Rule, LeastCost, Scope, AnyHeight, LeastHeight, flow_at, flows_by, IsPlanBy, uses, cost_of, count_at, AreLeaves, AreUsed, PlanValue, AreRounds, NoneBelow, IsFirst, plan_of, AreFlows, cut_at, IsPlanned, plan_by, next_flows, cost_by, cheaper_flows, three_rounds, six_rounds, AreSixRounds, IsServing, label_at, lits_of, cheaper_cuts, AreCutsBy, CanChoose, flows_over, three_over, rules, Choices}
use Rattle.cover_pick.proofs.UsesLemmas.{flows_same, flows_fit, uses_same, cost_same}
use Rattle.cover_pick.proofs.RuleLemmas.{plan_all, plan_is}

-- the first of the least cost, in a list alone and among more
module _ (g : Aig) where
  first_alone : (p : PlanValue) → IsFirst g p (p ∷ [])
  first_alone p = inl (refl, λ r i. absurd i)

  pub first_low : (p : PlanValue) (ps : List PlanValue) → IsFirst g p ps → NoneBelow g (cost_of g p.cover) ps
  first_low p [] f r i = absurd f
  first_low p (q ∷ qs) (inl f) r (inl e) = let x : cost_of g p.cover ≡ cost_of g q.cover = ap (λ (u : PlanValue). cost_of g u.cover) f.0 in let y : cost_of g r.cover ≡ cost_of g q.cover = ap (λ (u : PlanValue). cost_of g u.cover) e in omega arith
  first_low p (q ∷ qs) (inl f) r (inr i) = f.1 r i
  first_low p (q ∷ qs) (inr f) r (inl e) = let x : cost_of g p.cover < cost_of g q.cover = f.0 in let y : cost_of g r.cover ≡ cost_of g q.cover = ap (λ (u : PlanValue). cost_of g u.cover) e in omega arith
  first_low p (q ∷ qs) (inr f) r (inr i) = first_low p qs f.1 r i

  pub first_left : (p : PlanValue) (ps qs : List PlanValue) → IsFirst g p ps → NoneBelow g (cost_of g p.cover) qs → IsFirst g p (ps ++ qs)
  first_left p [] qs f none = absurd f
  first_left p (q ∷ ps) qs (inl f) none = inl (f.0, λ r i. elim (In-append ps qs r i) [ inl a ↦ f.1 r a | inr b ↦ none r b ])
  first_left p (q ∷ ps) qs (inr f) none = inr (f.0, first_left p ps qs f.1 none)

  pub first_right : (p : PlanValue) (ps qs : List PlanValue) → ((r : PlanValue) → In ps r → cost_of g p.cover < cost_of g r.cover) → IsFirst g p qs → IsFirst g p (ps ++ qs)
  first_right p [] qs less f = f
  first_right p (q ∷ ps) qs less f = inr (less q (inl refl), first_right p ps qs (λ r i. less r (inr i)) f)

-- what holds of both pairs holds of the one that is chosen
both_if : (P : List ℕ → List (Option (List ℕ)) → Type 0) (b : Bool) (fs gs : List ℕ) (c d : List (Option (List ℕ))) → P fs c → P gs d → P (cond b fs gs) (cond b c d)
both_if P true fs gs c d p q = p
both_if P false fs gs c d p q = q

module _ (g : Aig) (rows : List (List (List ℕ))) (label : ℕ → ℕ) (roots : List ℕ) where
  first_cheaper : (a b : List ℕ) (xs ys : List PlanValue) → IsFirst g (plan_by g rows label roots a) xs → IsFirst g (plan_by g rows label roots b) ys → IsFirst g (plan_by g rows label roots (cheaper_flows g rows label roots a b)) (xs ++ ys)
  first_cheaper a b xs ys fa fb =
      choose (λ fs. IsFirst g (plan_by g rows label roots fs) (xs ++ ys)) (ltb (cost_by g rows label roots b) (cost_by g rows label roots a)) b a
      (λ t. first_right g (plan_by g rows label roots b) xs ys
      (λ r i. let l : cost_by g rows label roots b < cost_by g rows label roots a = ltb-true (cost_by g rows label roots b) (cost_by g rows label roots a) t in
      let m : cost_by g rows label roots a ≤ cost_of g r.cover = first_low g (plan_by g rows label roots a) xs fa r i in
      let n : cost_by g rows label roots b < cost_of g r.cover = omega arith in n) fb)
      (λ t. first_left g (plan_by g rows label roots a) xs ys fa
      (λ r i. let l : cost_by g rows label roots a ≤ cost_by g rows label roots b = ltb-false (cost_by g rows label roots b) (cost_by g rows label roots a) t in
      let n : cost_by g rows label roots a ≤ cost_of g r.cover = omega (arith, first_low g (plan_by g rows label roots b) ys fb r i) in n))

  -- the plans of the first three rounds
  abbrev three : Scope → List ℕ → List PlanValue
  three scope flows =
      plan_by g rows label roots flows ∷ plan_by g rows label roots (next_flows g rows label roots scope flows) ∷ plan_by g rows label roots (next_flows g rows label roots scope (next_flows g rows label roots scope flows)) ∷ []

  first_three : (scope : Scope) (flows : List ℕ) → IsFirst g (plan_by g rows label roots (three_rounds g rows label roots scope flows)) (three scope flows)
  first_three scope flows =
      first_cheaper (cheaper_flows g rows label roots flows (next_flows g rows label roots scope flows)) (next_flows g rows label roots scope (next_flows g rows label roots scope flows)) (_ ∷ _ ∷ []) (_ ∷ [])
      (first_cheaper flows (next_flows g rows label roots scope flows) (_ ∷ []) (_ ∷ []) (first_alone g _) (first_alone g _)) (first_alone g _)

  -- six rounds, and the first of them of the least cost
  abbrev pub six : (ℕ → ℕ) → List PlanValue
  six counts = three AnyHeight (flows_by g rows label AnyHeight counts) ++ three LeastHeight (flows_by g rows label LeastHeight counts)

  pub first_six : (counts : ℕ → ℕ) → IsFirst g (plan_by g rows label roots (six_rounds g rows label roots counts)) (six counts)
  first_six counts = search (rules, first_cheaper, three, first_three)

  module _ (inside : (l : ℕ) → In roots l → l / 2 < node_count g) (serving : IsServing LeastCost g label rows) (normal : AreNormal (first_and g) g.pairs) where
    planned_by : (flows : List ℕ) → AreFlows g flows → IsPlanBy LeastCost g rows label roots (flow_at flows) (plan_by g rows label roots flows).reqs (plan_by g rows label roots flows).cover
    planned_by flows fit = plan_is LeastCost g rows label roots flows (plan_of LeastCost g rows label roots flows) (plan_all LeastCost g rows label roots flows inside serving fit normal (plan_of LeastCost g rows label roots flows) (λ n. refl))

    three_are : (scope : Scope) (counts : ℕ → ℕ) → AreRounds g rows label roots scope counts (three scope (flows_by g rows label scope counts))
    three_are scope counts =
        let first : List ℕ = flows_by g rows label scope counts in
        let second : List ℕ = next_flows g rows label roots scope first in (
          planned_by first (flows_fit g scope label rows counts),
          (
            planned_by second (flows_fit g scope label rows (uses g (plan_of LeastCost g rows label roots first))),
            (planned_by (next_flows g rows label roots scope second) (flows_fit g scope label rows (uses g (plan_of LeastCost g rows label roots second))), tt),
          ),
        )

    pub six_are : (counts : ℕ → ℕ) → AreSixRounds g rows label roots counts (six counts)
    six_are counts = record {
      any = three AnyHeight (flows_by g rows label AnyHeight counts);
      any_three = refl;
      any_rounds = three_are AnyHeight counts;
      low = three LeastHeight (flows_by g rows label LeastHeight counts);
      low_three = refl;
      low_rounds = three_are LeastHeight counts;
      are = refl;
    }

  cheaper_fit : (a b : List ℕ) → AreFlows g a → AreFlows g b → AreFlows g (cheaper_flows g rows label roots a b)
  cheaper_fit a b x y = choose_one (λ fs. AreFlows g fs) (ltb (cost_by g rows label roots b) (cost_by g rows label roots a)) b a y x

  three_fit : (scope : Scope) (counts : ℕ → ℕ) → AreFlows g (three_rounds g rows label roots scope (flows_by g rows label scope counts))
  three_fit scope counts = search (rules, cheaper_fit, flows_fit)

  pub six_fit : (counts : ℕ → ℕ) → AreFlows g (six_rounds g rows label roots counts)
  six_fit counts = search (rules, cheaper_fit, three_fit)

  -- where a round uses what the one before it does, the rounds from it on are the same
  cheaper_self : (flows : List ℕ) → cheaper_flows g rows label roots flows flows ≡ flows
  cheaper_self flows = choose_one (λ fs. fs ≡ flows) (ltb (cost_by g rows label roots flows) (cost_by g rows label roots flows)) flows flows refl refl

  three_stop : (scope : Scope) (flows : List ℕ) → next_flows g rows label roots scope flows ≡ flows → three_rounds g rows label roots scope flows ≡ flows
  three_stop scope flows e =
      ap (λ fs. cheaper_flows g rows label roots (cheaper_flows g rows label roots flows fs) (next_flows g rows label roots scope fs)) e
      ∙ (ap (λ fs. cheaper_flows g rows label roots fs (next_flows g rows label roots scope flows)) (cheaper_self flows)
      ∙ (ap (λ fs. cheaper_flows g rows label roots flows fs) e ∙ cheaper_self flows))

  cheaper_again : (a b : List ℕ) → cheaper_flows g rows label roots (cheaper_flows g rows label roots a b) b ≡ cheaper_flows g rows label roots a b
  cheaper_again a b =
      choose (λ fs. cheaper_flows g rows label roots fs b ≡ fs) (ltb (cost_by g rows label roots b) (cost_by g rows label roots a)) b a (λ _. cheaper_self b) (λ e. ap (λ t. cond t b a) e)

  three_stop_late : (scope : Scope) (flows : List ℕ) → next_flows g rows label roots scope (next_flows g rows label roots scope flows) ≡ next_flows g rows label roots scope flows
      → three_rounds g rows label roots scope flows ≡ cheaper_flows g rows label roots flows (next_flows g rows label roots scope flows)
  three_stop_late scope flows e =
      ap (λ fs. cheaper_flows g rows label roots (cheaper_flows g rows label roots flows (next_flows g rows label roots scope flows)) fs) e ∙ cheaper_again flows (next_flows g rows label roots scope flows)

  -- the flows over the counted uses of a cover
  used_flows : (scope : Scope) (flows counts : List ℕ) (cover : ℕ → Option (List ℕ)) → IsPlanned LeastCost g rows label roots flows cover → AreUsed g cover (node_count g) counts
      → flows_by g rows label scope (count_at counts) ≡ next_flows g rows label roots scope flows
  used_flows scope flows counts cover p u = grind (arith, flows_same, uses_same)

  -- the cheaper of two covers is that of the cheaper flows
  cheaper_planned : (a b : List ℕ) (first second best : List (Option (List ℕ))) → IsPlanned LeastCost g rows label roots a (cut_at first) → IsPlanned LeastCost g rows label roots b (cut_at second)
      → best ≡ cond (ltb (cost_of g (cut_at second)) (cost_of g (cut_at first))) second first → IsPlanned LeastCost g rows label roots (cheaper_flows g rows label roots a b) (cut_at best)
  cheaper_planned a b first second best p q e =
      let x : cost_of g (cut_at first) ≡ cost_by g rows label roots a = cost_same (cut_at first) (plan_of LeastCost g rows label roots a) (node_count g) p.chosen in
      let y : cost_of g (cut_at second) ≡ cost_by g rows label roots b = cost_same (cut_at second) (plan_of LeastCost g rows label roots b) (node_count g) q.chosen in
      let same : ltb (cost_of g (cut_at second)) (cost_of g (cut_at first)) ≡ ltb (cost_by g rows label roots b) (cost_by g rows label roots a) = ap (λ v. ltb v (cost_of g (cut_at first))) y ∙ ap (λ v. ltb (cost_by g rows label roots b) v) x in
      grind (arith, both_if, ltb)

pub leaves_there : (rule : Rule) (g : Aig) (rows : List (List (List ℕ))) (label : ℕ → ℕ) (roots flows : List ℕ) (cover : ℕ → Option (List ℕ)) → IsServing rule g label rows → IsPlanned rule g rows label roots flows cover → AreLeaves g cover
leaves_there rule g rows label roots flows cover t p =
    record {
      inside = λ n m c e i. let both = ((p.least t.k t.served).is).cuts n c e in let a : n < node_count g = both.0.1 in let b : m < n = (both.1.below m i).0 in omega arith;
      ascending = λ n c e. (((p.least t.k t.served).is).cuts n c e).1.ascending;
    }

module _ (c : Choices) where
  abbrev Cuts : List ℕ → List (Option (List ℕ)) → Type 0
  Cuts flows cuts = AreCutsBy LeastCost c flows cuts

  -- the cheaper of two covers is that of the cheaper flows
  pub cheaper_by : (a b : List ℕ) (first second best : List (Option (List ℕ))) → Cuts a first → Cuts b second → best ≡ cheaper_cuts c.graph.now first second
      → Cuts (cheaper_flows c.graph.now c.rows.now (label_at c.labels.now) (lits_of c.roots.now) a b) best
  cheaper_by a b first second best p q e =
      let count : ℕ = node_count c.graph.now in
      record {
        plan = cheaper_planned c.graph.now c.rows.now (label_at c.labels.now) (lits_of c.roots.now) a b first second best p.plan q.plan e;
        len = ap length e ∙ choose_one (λ (o : List (Option (List ℕ))). length o ≡ count) (ltb (cost_of c.graph.now (cut_at second)) (cost_of c.graph.now (cut_at first))) second first q.len p.len;
        normal = p.normal;
      }

  pub leaves_by : (flows : List ℕ) (cuts : List (Option (List ℕ))) → CanChoose LeastCost c → Cuts flows cuts → AreLeaves c.graph.now (cut_at cuts)
  leaves_by flows cuts can are = leaves_there LeastCost c.graph.now c.rows.now (label_at c.labels.now) (lits_of c.roots.now) flows (cut_at cuts) can.serving are.plan

  module _ (scope : Scope) where
    abbrev after : List ℕ → List ℕ
    after flows = next_flows c.graph.now c.rows.now (label_at c.labels.now) (lits_of c.roots.now) scope flows

    -- the flows over the uses of a cover
    used_by : (flows used : List ℕ) (cuts : List (Option (List ℕ))) → Cuts flows cuts → AreUsed c.graph.now (cut_at cuts) (node_count c.graph.now) used → flows_over c scope used ≡ after flows
    used_by flows used cuts p u = used_flows c.graph.now c.rows.now (label_at c.labels.now) (lits_of c.roots.now) scope flows used (cut_at cuts) p.plan u

    -- a later round, over the uses of the cover before it
    pub later_by : (flows used seen : List ℕ) (cuts next : List (Option (List ℕ))) → Cuts flows cuts → AreUsed c.graph.now (cut_at cuts) (node_count c.graph.now) used → seen ≡ used → Cuts (flows_over c scope seen) next → Cuts (after flows) next
    later_by flows used seen cuts next p u e q = subst (λ fs. Cuts fs next) (ap (flows_over c scope) e ∙ used_by flows used cuts p u) q

    -- where the uses are the counts of the round, the next round has the same flows
    same_after : (flows used counts : List ℕ) (cuts : List (Option (List ℕ))) → Cuts flows cuts → AreUsed c.graph.now (cut_at cuts) (node_count c.graph.now) used → used ≡ counts → flows_over c scope counts ≡ flows → after flows ≡ flows
    same_after flows used counts cuts p u e f = sym (used_by flows used cuts p u) ∙ (ap (flows_over c scope) e ∙ f)

    pub stop_first : (counts used : List ℕ) (first : List (Option (List ℕ))) → Cuts (flows_over c scope counts) first → AreUsed c.graph.now (cut_at first) (node_count c.graph.now) used → used ≡ counts → Cuts (three_over c scope counts) first
    stop_first counts used first p u e =
        subst (λ fs. Cuts fs first) (sym (three_stop c.graph.now c.rows.now (label_at c.labels.now) (lits_of c.roots.now) scope (flows_over c scope counts) (same_after (flows_over c scope counts) used counts first p u e refl))) p

    pub stop_second : (counts used again : List ℕ) (first second best : List (Option (List ℕ))) → Cuts (flows_over c scope counts) first → AreUsed c.graph.now (cut_at first) (node_count c.graph.now) used → Cuts (after (flows_over c scope counts)) second → AreUsed c.graph.now (cut_at second) (node_count c.graph.now) again → again ≡ used
        → Cuts (cheaper_flows c.graph.now c.rows.now (label_at c.labels.now) (lits_of c.roots.now) (flows_over c scope counts) (after (flows_over c scope counts))) best → Cuts (three_over c scope counts) best
    stop_second counts used again first second best p u q v e b =
        subst (λ fs. Cuts fs best) (sym (three_stop_late c.graph.now c.rows.now (label_at c.labels.now) (lits_of c.roots.now) scope (flows_over c scope counts) (same_after (after (flows_over c scope counts)) again used second q v e (used_by (flows_over c scope counts) used first p u)))) b
