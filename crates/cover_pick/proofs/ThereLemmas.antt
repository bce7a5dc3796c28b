-- The chosen template is there, whether it is found or not; and as there is one, each template maps the graph with the least depth.
use Rattle.cover_pick.proofs.Common.{◌≡◌, ℕ, zero, suc, ◌+◌, ◌<◌, List, [], ◌∷◌, length, Option, refl, ap, sym, ◌∙◌, subst, arith, Bool, false, cases_lt, Aig, first_and, node_count, AreNormal, RootsValue, roots_of, AreRoots, Supply, Rows, Sets, IsSupplied, HasPlan, HaveOneMaking, Rule, FewestLeaves, LeastCost, IsServing, IsServed, AreServing, AreSets, AreFlows, IsMapping, IsLeast, Made, IsMade, tables_of, cut_at, plan_of, IsPlanned, six_rounds, PlanValue, IsFirst, IsLeastOfMakings, fan_out, uses, has_cut, cost_of, target, TemplateValue, IsTemplate, ◌/◌, ◌^◌, ◌≤◌, inl, inr, ◌⊎◌, Result, Ok, Err, IfOk, Lit, In, Lut, PickErr, Work, Memory, AscendByLit, HaveBases, bits_of, IsWork, IsLight, once_by, TablesWithin, AreChosen, IsTooMuch, rules, IsNeeded, IsLeaves, HasTable}
use Rattle.cover_pick.proofs.ChosenLemmas.{template_is, tables_made}
use Rattle.cover_pick.proofs.MappingLemmas.{mapping_is, least_is}
use Rattle.cover_pick.proofs.UsesLemmas.{no_flows_fit}
use Rattle.cover_pick.proofs.RuleLemmas.{plan_all, cuts_all, plan_is, roots_inside}
use Rattle.cover_pick.proofs.RoundLemmas.{six, first_six, six_are, six_fit}
use Rattle.cover_pick.proofs.ServedLemmas.{serving_of}
use Rattle.cover_pick.proofs.MakingLemmas.{best as best_of_first, best_flows, other, other_flows, first_wins, second_wins}
use Rattle.cover_pick.proofs.RoundsOnceLemmas.{plan_once, six_once, first_once}
use Rattle.cover_pick.proofs.OwnLemmas.{work_once}

lut_same : (x y : Lut) → x.lit.0 ≡ y.lit.0 → x.leaves ≡ y.leaves → x.base ≡ y.base → x ≡ y
lut_same x y l c b = grind arith

-- the tables of one list are of the literals of the other, with the same leaves
abbrev Matches : List Lut → List Lut → Type 0
Matches xs ys = (t : Lut) → In xs t → HasTable ys t.lit.0 t.leaves

-- the first tables of two such lists are the same
heads_of : (x y : Lut) (xs ys : List Lut) (p : ℕ) → AscendByLit (x ∷ xs) → AscendByLit (y ∷ ys) → HaveBases p (x ∷ xs) → HaveBases p (y ∷ ys) → (h : HasTable (y ∷ ys) x.lit.0 x.leaves) → (k : HasTable (x ∷ xs) y.lit.0 y.leaves)
    → In (y ∷ ys) h.by → In (x ∷ xs) k.by → x ≡ y
heads_of x y xs ys p ax ay bx by h k (inl e) j = lut_same x y (sym h.lit_is ∙ ap (λ (t : Lut). t.lit.0) e) (sym h.leaves_are ∙ ap (λ (t : Lut). t.leaves) e) (bx.0 ∙ sym by.0)
heads_of x y xs ys p ax ay bx by h k (inr i) j = grind arith

-- and the others match again
tail_matches : (x y : Lut) (xs ys : List Lut) → x ≡ y → AscendByLit (x ∷ xs) → Matches (x ∷ xs) (y ∷ ys) → Matches xs ys
tail_matches x y xs ys same ax m t i = grind arith

lists_same : (xs ys : List Lut) (p : ℕ) → AscendByLit xs → AscendByLit ys → HaveBases p xs → HaveBases p ys → Matches xs ys → Matches ys xs → xs ≡ ys
lists_same [] [] p ax ay bx by m n = refl
lists_same [] (y ∷ ys) p ax ay bx by m n = absurd (n y (inl refl)).in'
lists_same (x ∷ xs) [] p ax ay bx by m n = absurd (m x (inl refl)).in'
lists_same (x ∷ xs) (y ∷ ys) p ax ay bx by m n =
    let h = m x (inl refl) in
    let k = n y (inl refl) in
    let e : x ≡ y = heads_of x y xs ys p ax ay bx by h k h.in' k.in' in
    let rest : xs ≡ ys = lists_same xs ys (p + 2 ^ length x.leaves) ax.1 ay.1 bx.1 (subst (λ (t : Lut). HaveBases (p + 2 ^ length t.leaves) ys) (sym e) by.1) (tail_matches x y xs ys e ax m) (tail_matches y x ys xs (sym e) ay n) in
    ap (λ t. t ∷ xs) e ∙ ap (λ ts. y ∷ ts) rest

-- the same chosen cuts need the same literals, and give them the same leaves
module _ (supply : Supply) (g : Aig) (label : ℕ → ℕ) (roots : List ℕ) (t : IsSupplied supply g label) where
  chosen_matches : (xs ys : List Lut) (a b : ℕ) → AreChosen supply g label roots xs a → AreChosen supply g label roots ys b → Matches xs ys
  chosen_matches xs ys a b x y u i =
      let same : x.cover ≡ y.cover = (plan_once supply g label roots t x.reqs y.reqs x.cover y.cover x.plan y.plan).1 in
      y.tables.all u.lit.0 u.leaves (subst (λ c. IsNeeded roots c u.lit.0) same (x.tables.needed u i)) (subst (λ c. IsLeaves g c u.lit.0 u.leaves) same (x.tables.leaves u i))

  pub chosen_once : (xs ys : List Lut) (a b : ℕ) → AreChosen supply g label roots xs a → AreChosen supply g label roots ys b → xs ≡ ys
  chosen_once xs ys a b x y =
      lists_same xs ys 0 x.tables.ascending y.tables.ascending x.tables.bases y.tables.bases (chosen_matches xs ys a b x y) (chosen_matches ys xs b a y x)

pub template_once : (supply : Supply) (g : Aig) (label : ℕ → ℕ) (roots : RootsValue) → IsSupplied supply g label → (t u : TemplateValue) → IsTemplate supply g label roots t → IsTemplate supply g label roots u → t ≡ u
template_once supply g label roots table t u x y =
    let make : List Lut → List Lit → List Lit → ℕ → ℕ → TemplateValue = λ ls o n b d. record { luts = ls; outputs = o; next = n; bits = b; depth = d } in
    let luts : t.luts ≡ u.luts = chosen_once supply g label (roots_of roots) table t.luts u.luts t.bits u.bits x.chosen y.chosen in
    let outputs : t.outputs ≡ u.outputs = x.outputs ∙ sym y.outputs in
    let next : t.next ≡ u.next = x.next ∙ sym y.next in
    let bits : t.bits ≡ u.bits = x.chosen.tables.sum ∙ (ap (λ ls. bits_of ls) luts ∙ sym y.chosen.tables.sum) in
    let low : t.depth ≤ u.depth = x.exact u.depth (subst (λ ls. TablesWithin g (roots_of roots) ls u.depth) (sym luts) y.within) in
    let high : u.depth ≤ t.depth = y.exact t.depth (subst (λ ls. TablesWithin g (roots_of roots) ls t.depth) luts x.within) in
    let depth : t.depth ≡ u.depth = omega (arith, low, high) in
    ap (λ ls. make ls t.outputs t.next t.bits t.depth) luts
    ∙ (ap (λ o. make u.luts o t.next t.bits t.depth) outputs
    ∙ (ap (λ n. make u.luts u.outputs n t.bits t.depth) next ∙ (ap (λ b. make u.luts u.outputs u.next b t.depth) bits ∙ ap (λ d. make u.luts u.outputs u.next u.bits d) depth)))

-- No template within the limit stands where the work is too much.
pub light_or_too_much : (supply : Supply) (g : Aig) (label : ℕ → ℕ) (roots : RootsValue) → IsSupplied supply g label → (t : TemplateValue) → IsTemplate supply g label roots t → IsLight supply g t.luts → IsTooMuch supply g label (roots_of roots) → ⊥
light_or_too_much supply g label roots table t is light much =
    let e : t.luts ≡ much.luts = chosen_once supply g label (roots_of roots) table t.luts much.luts t.bits much.bits is.chosen much.chosen in
    omega (arith, work_once g (once_by supply g much.luts) much.luts light.work much.work (subst (λ ts. IsWork g (once_by supply g ts) ts light.work) e light.is) much.is, light.light, much.past)

-- An answer that is a template within the limit, or an error, is an error where the work is too much.
pub too_much_answer : (supply : Supply) (g : Aig) (label : ℕ → ℕ) (roots : RootsValue) → IsSupplied supply g label → (r : Result TemplateValue PickErr) → IfOk r (λ t. IsTemplate supply g label roots t) → IfOk r (λ t. IsLight supply g t.luts)
    → IsTooMuch supply g label (roots_of roots) → (r ≡ Err Work) ⊎ (r ≡ Err Memory)
too_much_answer supply g label roots table (Ok t) is light much = absurd (light_or_too_much supply g label roots table t is light much)
too_much_answer supply g label roots table (Err Work) is light much = inl refl
too_much_answer supply g label roots table (Err Memory) is light much = inr refl

-- what an answer has under a condition that holds
pub ok_given : (r : Result TemplateValue PickErr) (P : Type 0) (Q : TemplateValue → Type 0) → P → IfOk r (λ t. P → Q t) → IfOk r Q
ok_given (Ok t) P Q p given = given p
ok_given (Err e) P Q p given = tt

-- the cuts of a plan as a list of one a node
abbrev cuts_from : (ℕ → Option (List ℕ)) → ℕ → ℕ → List (Option (List ℕ))
cuts_from plan from zero = []
cuts_from plan from (suc count) = plan from ∷ cuts_from plan (from + 1) count

cuts_long : (plan : ℕ → Option (List ℕ)) (from count : ℕ) → length (cuts_from plan from count) ≡ count
cuts_long plan from zero = refl
cuts_long plan from (suc count) = ap suc (cuts_long plan (from + 1) count)

cuts_at : (plan : ℕ → Option (List ℕ)) (from count n : ℕ) → n < count → cut_at (cuts_from plan from count) n ≡ plan (from + n)
cuts_at plan from zero n l = absurd (omega arith)
cuts_at plan from (suc count) zero l = let here : from ≡ from + 0 = omega arith in ap plan here
cuts_at plan from (suc count) (suc n) l = let next : from + 1 + n ≡ from + suc n = omega arith in cuts_at plan (from + 1) count n (omega arith) ∙ ap plan next

-- the cuts that the walk finds by some flows, as a list
abbrev walk_cuts : Rule → Aig → List (List (List ℕ)) → (ℕ → ℕ) → List ℕ → List ℕ → List (Option (List ℕ))
walk_cuts rule g rows label roots flows = cuts_from (plan_of rule g rows label roots flows) 0 (node_count g)

walk_planned : (rule : Rule) (g : Aig) (rows : List (List (List ℕ))) (label : ℕ → ℕ) (roots flows : List ℕ) → ((l : ℕ) → In roots l → l / 2 < node_count g) → IsServing rule g label rows → AreFlows g flows → AreNormal (first_and g) g.pairs
    → IsPlanned rule g rows label roots flows (cut_at (walk_cuts rule g rows label roots flows))
walk_planned rule g rows label roots flows inside serving fit normal =
    let plan : ℕ → Option (List ℕ) = plan_of rule g rows label roots flows in
    let cuts : List (Option (List ℕ)) = walk_cuts rule g rows label roots flows in
    plan_all rule g rows label roots flows inside serving fit normal (cut_at cuts)
    (cuts_all rule g rows label roots flows inside serving cuts (cuts_long plan 0 (node_count g)) (λ n l. let here : 0 + n ≡ n = omega arith in cuts_at plan 0 (node_count g) n l ∙ ap plan here))

-- Each template is the one of a plan that is there.
module _ (supply : Supply) (g : Aig) (label : ℕ → ℕ) (roots : RootsValue) (one : IsSupplied supply g label) (lits : AreRoots g (roots_of roots)) (cuts : List (Option (List ℕ))) (h : HasPlan supply g label (roots_of roots) cuts) where
  abbrev made : Made
  made = tables_of g (roots_of roots) cuts

  abbrev is_made : IsMade supply g label (roots_of roots) made
  is_made = tables_made supply g label (roots_of roots) cuts h lits

  abbrev there : TemplateValue
  there = record { luts = made.luts; outputs = roots.outputs; next = roots.next; bits = made.bits; depth = target g label (roots_of roots) }

  same : (t : TemplateValue) → IsTemplate supply g label roots t → there ≡ t
  same t is = template_once supply g label roots one there t (template_is supply g label roots made roots.outputs roots.next (target g label (roots_of roots)) lits is_made refl refl refl) is

  depth_by : (t : TemplateValue) → IsTemplate supply g label roots t → t.depth ≡ target g label (roots_of roots)
  depth_by t is = ap (λ (u : TemplateValue). u.depth) (sym (same t is))

  maps_by : (k : ℕ) → IsServed g k label h.rows → (t : TemplateValue) → IsTemplate supply g label roots t → IsMapping g k (roots_of roots) t.luts t.bits
  maps_by k served t is = subst (λ (u : TemplateValue). IsMapping g k (roots_of roots) u.luts u.bits) (same t is) (mapping_is supply g label (roots_of roots) made is_made k served lits)

  least_by : (k : ℕ) → IsServed g k label h.rows → (t : TemplateValue) → IsTemplate supply g label roots t → IsLeast g k (roots_of roots) t.luts t.depth
  least_by k served t is = subst (λ (u : TemplateValue). IsLeast g k (roots_of roots) u.luts u.depth) (same t is) (least_is supply g label (roots_of roots) made is_made k served lits)

-- from rows of all nodes' cuts
module _ (rows : List (List (List ℕ))) (g : Aig) (label : ℕ → ℕ) (roots : RootsValue) (normal : AreNormal (first_and g) g.pairs) (serving : IsServing FewestLeaves g label rows) (lits : AreRoots g (roots_of roots)) where
  abbrev rows_cuts : List (Option (List ℕ))
  rows_cuts = walk_cuts FewestLeaves g rows label (roots_of roots) []

  abbrev rows_plan : HasPlan (Rows rows) g label (roots_of roots) rows_cuts
  rows_plan =
      let planned : IsPlanned FewestLeaves g rows label (roots_of roots) [] (cut_at rows_cuts) = walk_planned FewestLeaves g rows label (roots_of roots) [] (roots_inside g (roots_of roots) lits) serving (no_flows_fit g) normal in
      record { rule = FewestLeaves; rows = rows; serving = serving; flows = []; plan = planned; chosen = plan_is FewestLeaves g rows label (roots_of roots) [] (cut_at rows_cuts) planned }

  pub depth_is_target : (t : TemplateValue) → IsTemplate (Rows rows) g label roots t → t.depth ≡ target g label (roots_of roots)
  depth_is_target t is = depth_by (Rows rows) g label roots serving lits rows_cuts rows_plan t is

  pub each_maps : (t : TemplateValue) → IsTemplate (Rows rows) g label roots t → (k : ℕ) → IsServed g k label rows → IsMapping g k (roots_of roots) t.luts t.bits
  each_maps t is k served = maps_by (Rows rows) g label roots serving lits rows_cuts rows_plan k served t is

  pub each_least : (t : TemplateValue) → IsTemplate (Rows rows) g label roots t → (k : ℕ) → IsServed g k label rows → IsLeast g k (roots_of roots) t.luts t.depth
  each_least t is k served = least_by (Rows rows) g label roots serving lits rows_cuts rows_plan k served t is

-- what a template is good for
pub record IsGood (g : Aig) (k : ℕ) (label : ℕ → ℕ) (roots : RootsValue) (t : TemplateValue) : Type 0 where
  pub depth : t.depth ≡ target g label (roots_of roots)
  pub maps : IsMapping g k (roots_of roots) t.luts t.bits
  pub least : IsLeast g k (roots_of roots) t.luts t.depth

-- from bounded sets, which are those of the template's own makings
module _ (k : ℕ) (lows : ℕ → List ℕ) (g : Aig) (label : ℕ → ℕ) (roots : RootsValue) (normal : AreNormal (first_and g) g.pairs) (one : HaveOneMaking g k label lows) (lits : AreRoots g (roots_of roots)) where
  good_by : (cuts : List (Option (List ℕ))) (h : HasPlan (Sets k lows) g label (roots_of roots) cuts) → IsServed g k label h.rows → (t : TemplateValue) → IsTemplate (Sets k lows) g label roots t → IsGood g k label roots t
  good_by cuts h served t is = record {
    depth = depth_by (Sets k lows) g label roots one lits cuts h t is;
    maps = maps_by (Sets k lows) g label roots one lits cuts h k served t is;
    least = least_by (Sets k lows) g label roots one lits cuts h k served t is;
  }

  set_flows_planned : (rows : List (List (List ℕ))) (counts : ℕ → ℕ) → IsServing LeastCost g label rows → IsPlanned LeastCost g rows label (roots_of roots) (six_rounds g rows label (roots_of roots) counts) (cut_at (walk_cuts LeastCost g rows label (roots_of roots) (six_rounds g rows label (roots_of roots) counts)))
  set_flows_planned rows counts serving = walk_planned LeastCost g rows label (roots_of roots) (six_rounds g rows label (roots_of roots) counts) (roots_inside g (roots_of roots) lits) serving (six_fit g rows label (roots_of roots) counts) normal

  served_by : (counts : ℕ → ℕ) (favoured : ℕ → Bool) (rows : List (List (List ℕ))) → AreSets g k label lows counts favoured rows → IsServed g k label rows
  served_by counts favoured rows made = record { heights = one.heights; serving = one.serves counts favoured rows made }

  -- the best plan of the first making is that of the walk
  best_walked : (reqs : ℕ → Option ℕ) (cover : ℕ → Option (List ℕ)) (p : IsLeastOfMakings g k lows label (roots_of roots) reqs cover) → p.best ≡ best_of_first g k lows label (roots_of roots) p.first_making.sets
  best_walked reqs cover p =
      let rows : List (List (List ℕ)) = p.first_making.sets in
      let serves : AreServing g k label rows = one.serves (fan_out g) (λ m. false) rows p.first_making.made in
      let plans : p.first ≡ six g rows label (roots_of roots) (fan_out g) = six_once g rows label (roots_of roots) k serves (fan_out g) p.first (six g rows label (roots_of roots) (fan_out g)) p.first_making.rounds
      (six_are g rows label (roots_of roots) (roots_inside g (roots_of roots) lits) (serving_of g k label rows one.heights serves) normal (fan_out g)) in
      first_once g (six g rows label (roots_of roots) (fan_out g)) p.best (best_of_first g k lows label (roots_of roots) rows) (subst (λ xs. IsFirst g p.best xs) plans p.best_is) (first_six g rows label (roots_of roots) (fan_out g))

  pub sets_good : (t : TemplateValue) → IsTemplate (Sets k lows) g label roots t → IsGood g k label roots t
  sets_good t is =
      let p = is.chosen.plan in
      let inside = roots_inside g (roots_of roots) lits in
      let first : List (List (List ℕ)) = p.first_making.sets in
      let second : List (List (List ℕ)) = p.second_making.sets in
      let first_made : AreSets g k label lows (fan_out g) (λ m. false) first = p.first_making.made in
      let made_best : PlanValue = best_of_first g k lows label (roots_of roots) first in
      let second_made : AreSets g k label lows (uses g made_best.cover) (λ m. has_cut (made_best.cover m)) second =
      subst (λ (b : PlanValue). AreSets g k label lows (uses g b.cover) (λ m. has_cut (b.cover m)) second) (best_walked is.chosen.reqs is.chosen.cover p) p.second_making.made in
      let first_served : IsServed g k label first = served_by (fan_out g) (λ m. false) first first_made in
      let second_served : IsServed g k label second = served_by (uses g made_best.cover) (λ m. has_cut (made_best.cover m)) second second_made in
      let first_serves : IsServing LeastCost g label first = serving_of g k label first one.heights first_served.serving in
      let second_serves : IsServing LeastCost g label second = serving_of g k label second one.heights second_served.serving in
      elim (cases_lt (cost_of g (other g k lows label (roots_of roots) first second).cover) (cost_of g made_best.cover)) [
        | inl l ↦ good_by (walk_cuts LeastCost g second label (roots_of roots) (other_flows g k lows label (roots_of roots) first second))
            (second_wins g k lows label (roots_of roots) first second inside normal first_serves first_made second_serves second_made _ (set_flows_planned second (uses g made_best.cover) second_serves) l) second_served t is
        | inr l ↦ good_by (walk_cuts LeastCost g first label (roots_of roots) (best_flows g k lows label (roots_of roots) first))
            (first_wins g k lows label (roots_of roots) first second inside normal first_serves first_made second_serves second_made _ (set_flows_planned first (fan_out g) first_serves) l) first_served t is
      ]
