-- The cheaper of the plans of two makings is the first plan of the least cost of both.
use Rattle.cover_pick.proofs.Common.{◌≡◌, ℕ, ◌/◌, ◌<◌, ◌≤◌, ◌++◌, List, [], length, Option, Result, Ok, Err, IfOk, refl, sym, subst, subst₂, ap, ◌∙◌, fun_ext, arith, Bool, false, true, ltb, ltb-true, ltb-false, cond, Aig, first_and, node_count, AreNormal, In, LeastCost, fan_out, uses, has_cut, cost_of, PlanValue, IsFirst, AreSets, AreServing, AreLeastHeights, IsServing, IsLeastOfMakings, Sets, cut_at, IsPlanned, plan_by, six_rounds, HasPlan, AreCounted, AreUsed, AreLeaves, count_at, favoured_in}
use Rattle.cover_pick.proofs.UsesLemmas.{cost_same, counts_are, used_are, needed_are}
use Rattle.cover_pick.proofs.RoundLemmas.{six, first_six, six_are, first_low, first_left, first_right, leaves_there}
use Rattle.cover_pick.proofs.ServedLemmas.{serving_of}

module _ (g : Aig) (k : ℕ) (lows : ℕ → List ℕ) (label : ℕ → ℕ) (roots : List ℕ) (first : List (List (List ℕ))) where
  -- the plan of the first making
  abbrev pub best_flows : List ℕ
  best_flows = six_rounds g first label roots (fan_out g)

  abbrev pub best : PlanValue
  best = plan_by g first label roots best_flows

  module _ (second : List (List (List ℕ))) where
    -- and that of the second
    abbrev pub other_flows : List ℕ
    other_flows = six_rounds g second label roots (uses g best.cover)

    abbrev pub other : PlanValue
    other = plan_by g second label roots other_flows

    module _ (inside : (l : ℕ) → In roots l → l / 2 < node_count g) (normal : AreNormal (first_and g) g.pairs) (first_serves : IsServing LeastCost g label first) (first_made : AreSets g k label lows (fan_out g) (λ m. false) first)
        (second_serves : IsServing LeastCost g label second) (second_made : AreSets g k label lows (uses g best.cover) (λ m. has_cut (best.cover m)) second) where
      pub least_of : (plan : PlanValue) → IsFirst g plan (six g first label roots (fan_out g) ++ six g second label roots (uses g best.cover)) → (cover : ℕ → Option (List ℕ)) → ((n : ℕ) → cover n ≡ plan.cover n) → IsLeastOfMakings g k lows label roots plan.reqs cover
      least_of plan is cover same = record {
        first = six g first label roots (fan_out g);
        first_making = record { sets = first; made = first_made; rounds = six_are g first label roots inside first_serves normal (fan_out g) };
        best = best;
        best_is = first_six g first label roots (fan_out g);
        second = six g second label roots (uses g best.cover);
        second_making = record { sets = second; made = second_made; rounds = six_are g second label roots inside second_serves normal (uses g best.cover) };
        plan = plan;
        plan_is = is;
        depths = λ n. refl;
        cuts = same;
      }

      abbrev pub first_wins : (cuts : List (Option (List ℕ))) → IsPlanned LeastCost g first label roots best_flows (cut_at cuts) → cost_of g best.cover ≤ cost_of g other.cover → HasPlan (Sets k lows) g label roots cuts
      first_wins cuts p l = record {
        rule = LeastCost;
        rows = first;
        serving = first_serves;
        flows = best_flows;
        plan = p;
        chosen = least_of best (first_left g best (six g first label roots (fan_out g)) (six g second label roots (uses g best.cover)) (first_six g first label roots (fan_out g))
            (λ r i. omega (arith, first_low g other (six g second label roots (uses g best.cover)) (first_six g second label roots (uses g best.cover)) r i))) (cut_at cuts) p.chosen;
      }

      abbrev pub second_wins : (cuts : List (Option (List ℕ))) → IsPlanned LeastCost g second label roots other_flows (cut_at cuts) → cost_of g other.cover < cost_of g best.cover → HasPlan (Sets k lows) g label roots cuts
      second_wins cuts p l = record {
        rule = LeastCost;
        rows = second;
        serving = second_serves;
        flows = other_flows;
        plan = p;
        chosen = least_of other (first_right g other (six g first label roots (fan_out g)) (six g second label roots (uses g best.cover))
            (λ r i. omega (arith, first_low g best (six g first label roots (fan_out g)) (first_six g first label roots (fan_out g)) r i)) (first_six g second label roots (uses g best.cover))) (cut_at cuts) p.chosen;
      }

      -- the cheaper of both
      wins_by : (b : Bool) (xs ys : List (Option (List ℕ))) → IsPlanned LeastCost g first label roots best_flows (cut_at xs) → IsPlanned LeastCost g second label roots other_flows (cut_at ys) → ltb (cost_of g (cut_at ys)) (cost_of g (cut_at xs)) ≡ b
          → cost_of g (cut_at xs) ≡ cost_of g best.cover → cost_of g (cut_at ys) ≡ cost_of g other.cover → HasPlan (Sets k lows) g label roots (cond b ys xs)
      wins_by true xs ys p q t x y = second_wins ys q (omega (arith, ltb-true (cost_of g (cut_at ys)) (cost_of g (cut_at xs)) t))
      wins_by false xs ys p q t x y = first_wins xs p (omega (arith, ltb-false (cost_of g (cut_at ys)) (cost_of g (cut_at xs)) t))

      pub cheaper_wins : (xs ys cuts : List (Option (List ℕ))) → IsPlanned LeastCost g first label roots best_flows (cut_at xs) → IsPlanned LeastCost g second label roots other_flows (cut_at ys) → cuts ≡ cond (ltb (cost_of g (cut_at ys)) (cost_of g (cut_at xs))) ys xs
          → HasPlan (Sets k lows) g label roots cuts
      cheaper_wins xs ys cuts p q e =
          subst (λ cs. HasPlan (Sets k lows) g label roots cs) (sym e)
          (wins_by (ltb (cost_of g (cut_at ys)) (cost_of g (cut_at xs))) xs ys p q refl (cost_same (cut_at xs) best.cover (node_count g) p.chosen) (cost_same (cut_at ys) other.cover (node_count g) q.chosen))

-- The plan of the makings as they are made: over counted fan-outs, and over the counted uses in the best cover.
pub makings_plan : (g : Aig) (k : ℕ) (lows : ℕ → List ℕ) (label : ℕ → ℕ) (roots : List ℕ) → ((l : ℕ) → In roots l → l / 2 < node_count g) → AreNormal (first_and g) g.pairs → (first second : List (List (List ℕ))) (fans used : List ℕ) (needed : List Bool) (xs ys cuts : List (Option (List ℕ)))
    → AreCounted g (node_count g) fans → AreSets g k label lows (count_at fans) (favoured_in []) first → IsServing LeastCost g label first → IsPlanned LeastCost g first label roots (six_rounds g first label roots (count_at fans)) (cut_at xs) → length xs ≡ node_count g
    → AreUsed g (cut_at xs) (node_count g) used → length needed ≡ node_count g → ((m : ℕ) → m < node_count g → favoured_in needed m ≡ has_cut (cut_at xs m))
    → AreSets g k label lows (count_at used) (favoured_in needed) second → IsServing LeastCost g label second → IsPlanned LeastCost g second label roots (six_rounds g second label roots (count_at used)) (cut_at ys)
    → cuts ≡ cond (ltb (cost_of g (cut_at ys)) (cost_of g (cut_at xs))) ys xs → HasPlan (Sets k lows) g label roots cuts
makings_plan g k lows label roots inside normal first second fans used needed xs ys cuts counted first_sets first_serves first_plan long are_used size each second_sets second_serves second_plan e =
    let fans_are : count_at fans ≡ fan_out g = counts_are g normal fans counted in
    let none_are : favoured_in [] ≡ (λ (m : ℕ). false) = fun_ext (λ m. refl) in
    let first_made : AreSets g k label lows (fan_out g) (λ m. false) first = subst₂ (λ (cs : ℕ → ℕ) (fs : ℕ → Bool). AreSets g k label lows cs fs first) fans_are none_are first_sets in
    let p : IsPlanned LeastCost g first label roots (best_flows g k lows label roots first) (cut_at xs) = subst (λ (cs : ℕ → ℕ). IsPlanned LeastCost g first label roots (six_rounds g first label roots cs) (cut_at xs)) fans_are first_plan in
    let cover_is : cut_at xs ≡ (best g k lows label roots first).cover = fun_ext p.chosen in
    let leaves : AreLeaves g (cut_at xs) = leaves_there LeastCost g first label roots (best_flows g k lows label roots first) (cut_at xs) first_serves p in
    let used_is : count_at used ≡ uses g (best g k lows label roots first).cover = used_are g (cut_at xs) leaves used are_used ∙ ap (λ (cover : ℕ → Option (List ℕ)). uses g cover) cover_is in
    let needed_is : favoured_in needed ≡ (λ m. has_cut ((best g k lows label roots first).cover m)) = needed_are g xs needed long size each ∙ ap (λ (cover : ℕ → Option (List ℕ)). λ (m : ℕ). has_cut (cover m)) cover_is in
    let second_made : AreSets g k label lows (uses g (best g k lows label roots first).cover) (λ m. has_cut ((best g k lows label roots first).cover m)) second =
    subst₂ (λ (cs : ℕ → ℕ) (fs : ℕ → Bool). AreSets g k label lows cs fs second) used_is needed_is second_sets in
    let q : IsPlanned LeastCost g second label roots (other_flows g k lows label roots first second) (cut_at ys) = subst (λ (cs : ℕ → ℕ). IsPlanned LeastCost g second label roots (six_rounds g second label roots cs) (cut_at ys)) used_is second_plan in
    cheaper_wins g k lows label roots first second inside normal first_serves first_made second_serves second_made xs ys cuts p q e

-- sets serve where they are made
pub ok_serving : (g : Aig) (k : ℕ) (label : ℕ → ℕ) → AreLeastHeights g k label → {E : Type 0} (r : Result (List (List (List ℕ))) E) → IfOk r (AreServing g k label) → IfOk r (IsServing LeastCost g label)
ok_serving g k label heights (Ok rows) s = serving_of g k label rows heights s
ok_serving g k label heights (Err e) s = tt
