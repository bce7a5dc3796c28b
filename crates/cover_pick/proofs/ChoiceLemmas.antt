-- The chosen cut by the rule's own words, and that the rule keeps within the required depth.
use Rattle.cover_pick.proofs.Common.{◌≡◌, ℕ, ◌<◌, ◌≤◌, true, ◌&&◌, ltb, eqb, List, [], ◌∷◌, length, Option, Some, None, refl, sym, ap, ◌∙◌, subst, inl, inr, ◌⊎◌, arith, same_Some, none-some, cases_order, ltb-true, ltb-false, eqb-true, and_parts, and_from, both_ways, lt-ltb, eq-eqb, In, lex, comes_before, IsOrdered, height, choose, better, fewest, rules, zero, suc, get_or, drop, drop_more, IsAt, IsOffer, IsShorter, cases_lt, comes_before, before_trans, cases_Bool, cond, false, less, earlier, cheaper, cheaper_low, cheapest, sum_by, sum_by-cons, cases_eq, flow_at, cost_where, leaf_cost, cut_cost, need, IfSome, before_none}
use Rattle.cover_pick.specs.Choice.{Precedes, fewer, lower, before, IsChosen}
use Rattle.cut_enum.proofs.LevelLemmas.{IsRising, IsRising-ordered, first_least}
use Rattle.cover_pick.specs.declared.choice.Candidate.{Candidate}
use Rattle.cover_pick.specs.declared.cost.Offer.{Offer}
use Rattle.cover_pick.specs.Sharing.{IsNeededAbove, root, leaf, IsLeafCost, shared, free, new, AreLeafCosts, IsCost, IsCheaper, IsCheapest}

before_says : (a b : List ℕ) → comes_before a b ≡ true → (length a < length b) ⊎ ((length a ≡ length b) × (lex a b ≡ true))
before_says a b h0 = grind arith

record BestIn (S : List ℕ → Type 0) (label : ℕ → ℕ) (r : ℕ) (c : List ℕ) : Type 0 where
  one : S c
  low : height label c ≤ r
  first : (d : List ℕ) → S d → height label d ≤ r → Precedes label c d

State : (S : List ℕ → Type 0) → (ℕ → ℕ) → ℕ → Option (List ℕ) → Type 0
State S label r None = (d : List ℕ) → S d → r < height label d
State S label r (Some b) = BestIn S label r b

-- the same of another way to say S
state_of : (S Q : List ℕ → Type 0) (label : ℕ → ℕ) (r : ℕ) (o : Option (List ℕ)) → ((d : List ℕ) → S d → Q d) → ((d : List ℕ) → Q d → S d) → State S label r o → State Q label r o
unfolding State
state_of S Q label r None to from s = λ d q. s d (from d q)
state_of S Q label r (Some b) to from s = record { one = to b s.one; low = s.low; first = λ d q l. s.first d (from d q) l }

precedes_lower : (label : ℕ → ℕ) (b c d : List ℕ) → length c ≡ length b → height label c < height label b → Precedes label b d → Precedes label c d
precedes_lower label b c d e l (fewer h) = fewer (omega arith)
precedes_lower label b c d e l (lower f h) = lower (e ∙ f) (omega arith)
precedes_lower label b c d e l (before f h o) = lower (e ∙ f) (omega arith)

precedes_next : (label : ℕ → ℕ) (b c : List ℕ) → comes_before b c ≡ true → (length c ≡ length b → height label c < height label b → ⊥) → Precedes label b c
precedes_next label b c h differ = search (rules, before_says, cases_order)

step : (S : List ℕ → Type 0) (label : ℕ → ℕ) (r : ℕ) (o : Option (List ℕ)) (c : List ℕ) → State S label r o → ((d : List ℕ) → S d → comes_before d c ≡ true)
    → State (λ d. S d ⊎ (d ≡ c)) label r (better label r o c)
unfolding State
step S label r None c s prior = grind arith
step S label r (Some b) c s prior =
    choose (λ o. State (λ d. S d ⊎ (d ≡ c)) label r o) ((eqb (length c) (length b)) && ltb (height label c) (height label b)) (Some c) (Some b)
    (λ t.
    let p = and_parts (eqb (length c) (length b)) (ltb (height label c) (height label b)) t in
    let e : length c ≡ length b = eqb-true (length c) (length b) p.0 in
    let l : height label c < height label b = ltb-true (height label c) (height label b) p.1 in
    record {
      one = inr refl;
      low = (let m : height label b ≤ r = s.low in omega arith);
      first = λ d i m. elim i [
        | inl j ↦ precedes_lower label b c d e l (s.first d j m)
        | inr q ↦ before (sym (ap (λ x. length x) q)) (sym (ap (λ x. height label x) q)) (inl (sym q))
      ];
    })
    (λ t. record {
      one = inl s.one;
      low = s.low;
      first = λ d i m. elim i [
        | inl j ↦ s.first d j m
        | inr q ↦ subst (λ x. Precedes label b x) (sym q) (precedes_next label b c (prior b s.one)
            (λ e l. both_ways ((eqb (length c) (length b)) && ltb (height label c) (height label b)) t (and_from (eqb (length c) (length b)) (ltb (height label c) (height label b)) (eq-eqb (length c) (length b) e) (lt-ltb (height label c) (height label b) l))))
      ];
    })

best_state : (cs : List (List ℕ)) (S : List ℕ → Type 0) (label : ℕ → ℕ) (r : ℕ) (o : Option (List ℕ)) → State S label r o → IsOrdered cs → ((d c : List ℕ) → S d → In cs c → comes_before d c ≡ true)
    → State (λ d. S d ⊎ In cs d) label r (fewest label r o cs)
best_state [] S label r o s up prior = state_of S (λ d. S d ⊎ In [] d) label r o (λ d i. inl i) (λ d i. elim i [ inl j ↦ j | inr j ↦ absurd j ]) s
best_state (c ∷ cs) S label r o s up prior = grind (arith, state_of, step, best_state cs (λ d. S d ⊎ (d ≡ c)) label r (better label r o c) (step S label r o c s (λ d i. prior d c i (inl refl))) up.1 (λ d e i j. elim i [ inl k ↦ prior d e k (inr j) | inr k ↦ subst (λ x. comes_before x e ≡ true) (sym k) (up.0 e j) ]))

-- the choice is the best of the cuts, by its own words
pub best_is : (label : ℕ → ℕ) (r : ℕ) (cs : List (List ℕ)) (c : List ℕ) → IsOrdered cs → fewest label r None cs ≡ Some c → IsChosen label r cs c
unfolding State
best_is label r cs c up e =
    let s : State (λ d. ⊥ ⊎ In cs d) label r (Some c) = subst (λ o. State (λ d. ⊥ ⊎ In cs d) label r o) e (best_state cs (λ d. ⊥) label r None (λ d i. absurd i) up (λ d c i. absurd i)) in
    record { one = elim s.one [ inl j ↦ absurd j | inr j ↦ j ]; low = s.low; first = λ d i l. s.first d (inr i) l }

pub best_in : (label : ℕ → ℕ) (r : ℕ) (cs : List (List ℕ)) (o : Option (List ℕ)) (c : List ℕ) → fewest label r o cs ≡ Some c → In cs c ⊎ (o ≡ Some c)
best_in label r [] o c h = inr h
best_in label r (d ∷ cs) None c h = search (rules, ltb, same_Some, best_in label r cs (better label r None d) c h)
best_in label r (d ∷ cs) (Some b) c h = search (rules, eqb, ltb, same_Some, best_in label r cs (better label r (Some b) d) c h)

best_some : (label : ℕ → ℕ) (r : ℕ) (cs : List (List ℕ)) (b : List ℕ) → (c : List ℕ) × (fewest label r (Some b) cs ≡ Some c)
best_some label r [] b = (b, refl)
best_some label r (d ∷ cs) b =
    choose (λ x. (c : List ℕ) × (fewest label r x cs ≡ Some c)) ((eqb (length d) (length b)) && ltb (height label d) (height label b)) (Some d) (Some b) (λ _. best_some label r cs d) (λ _. best_some label r cs b)

pub best_found : (label : ℕ → ℕ) (r : ℕ) (cs : List (List ℕ)) (o : Option (List ℕ)) (b : List ℕ) → In cs b → height label b ≤ r → (c : List ℕ) × (fewest label r o cs ≡ Some c)
best_found label r [] o b i l = elim i [ ]
best_found label r (d ∷ cs) (Some a) b i l = best_some label r (d ∷ cs) a
best_found label r (d ∷ cs) None b (inl e) l =
    choose (λ x. (c : List ℕ) × (fewest label r x cs ≡ Some c)) (ltb r (height label d)) None (Some d)
    (λ t. absurd (let f : height label b ≡ height label d = ap (λ x. height label x) e in let q : r < height label d = ltb-true r (height label d) t in omega arith)) (λ _. best_some label r cs d)
best_found label r (d ∷ cs) None b (inr i) l = best_found label r cs (better label r None d) b i l

pub best_low : (label : ℕ → ℕ) (r : ℕ) (cs : List (List ℕ)) (o : Option (List ℕ)) (c : List ℕ) → ((b : List ℕ) → o ≡ Some b → height label b ≤ r) → fewest label r o cs ≡ Some c → height label c ≤ r
best_low label r [] o c low h = low c h
best_low label r (d ∷ cs) None c low h = grind (arith, ltb, none-some, ltb-false, same_Some, best_low label r cs (better label r None d) c (λ b e. choose (λ x. x ≡ Some b → height label b ≤ r) (ltb r (height label d)) None (Some d) (λ _ q. absurd (none-some b q)) (λ f q. let g : height label d ≤ r = ltb-false r (height label d) f in let s : height label d ≡ height label b = ap (λ x. height label x) (same_Some d b q) in omega arith) e) h)
best_low label r (d ∷ cs) (Some a) c low h = grind (arith, eqb, ltb, ltb-true, and_parts, same_Some, best_low label r cs (better label r (Some a) d) c (λ b e. choose (λ x. x ≡ Some b → height label b ≤ r) ((eqb (length d) (length a)) && ltb (height label d) (height label a)) (Some d) (Some a) (λ t q. let u : height label d < height label a = ltb-true (height label d) (height label a) (and_parts (eqb (length d) (length a)) (ltb (height label d) (height label a)) t).1 in let v : height label a ≤ r = low a refl in let s : height label d ≡ height label b = ap (λ x. height label x) (same_Some d b q) in omega arith) (λ _ q. low b q) e) h)

module _ (label : ℕ → ℕ) (r : ℕ) where
  better_longer : (c d : List ℕ) → length c < length d → better label r (Some c) d ≡ Some c
  better_longer c d l = grind arith

  fewest_longer : (c : List ℕ) (cs : List (List ℕ)) → ((d : List ℕ) → In cs d → length c < length d) → fewest label r (Some c) cs ≡ Some c
  fewest_longer c [] l = refl
  fewest_longer c (d ∷ ds) l = ap (λ o. fewest label r o ds) (better_longer c d (l d (inl refl))) ∙ fewest_longer c ds (λ e i. l e (inr i))

  rising_drop : (cs : List (List ℕ)) (i : ℕ) → IsRising cs → IsRising (drop i cs)
  rising_drop cs zero s = s
  rising_drop [] (suc i) s = tt
  rising_drop (c ∷ cs) (suc i) s = rising_drop cs i s.1

  later_longer : (cs : List (List ℕ)) (i : ℕ) (d : List ℕ) → IsRising cs → i < length cs → In (drop i cs) d → length (get_or cs i []) ≤ length d
  later_longer cs i d s l h = grind (arith, drop_more, first_least, rising_drop)

  -- So the fold may stop at the first cut of more leaves.
  pub fewest_stops : (cs : List (List ℕ)) (best : Option Candidate) (o full : Option (List ℕ)) (i : ℕ) → IsOrdered cs → i < length cs → IsShorter best (length (get_or cs i [])) → IsAt label cs best o
      → fewest label r o (drop i cs) ≡ full → o ≡ full
  fewest_stops cs None o full i up l s h e = absurd s
  fewest_stops cs (Some b) None full i up l s h e = absurd h
  fewest_stops cs (Some b) (Some c) full i up l s h e =
      sym (fewest_longer c (drop i cs) (λ d k. let m : length (get_or cs i []) ≤ length d = later_longer cs i d (IsRising-ordered cs up) l k in omega arith)) ∙ e

-- the place of an offer is one of its list
pub offer_inside : (cost : List ℕ → ℕ) (cs : List (List ℕ)) (best : Option Offer) (o : Option (List ℕ)) → IsOffer cost cs best o → IfSome best (λ (b : Offer). b.place < length cs)
offer_inside cost cs None o h = tt
offer_inside cost cs (Some b) None h = absurd h
offer_inside cost cs (Some b) (Some c) h = h.0

-- The cut that is found for its cost: there is one where a cut is low enough, it is one of the list, and the first of the least cost.
module _ (cost : List ℕ → ℕ) (label : ℕ → ℕ) (r : ℕ) where
  high_is : (o : Option (List ℕ)) (e : List ℕ) → r < height label e → cheaper_low cost label r o e ≡ o
  high_is o e l = choose (λ s. s ≡ o) (ltb r (height label e)) o (cheaper cost o e) (λ _. refl) (λ t. absurd (let a : height label e ≤ r = ltb-false r (height label e) t in omega arith))

  low_is : (o : Option (List ℕ)) (e : List ℕ) → height label e ≤ r → cheaper_low cost label r o e ≡ cheaper cost o e
  low_is o e l = choose (λ s. s ≡ cheaper cost o e) (ltb r (height label e)) o (cheaper cost o e) (λ t. absurd (let a : r < height label e = ltb-true r (height label e) t in omega arith)) (λ _. refl)

  -- what is found after one more cut, by its cases
  step_is : (P : Option (List ℕ) → Type 0) (b e : List ℕ) → P (Some b) → P (Some e) → P (cheaper_low cost label r (Some b) e)
  step_is P b e p q = grind arith

  found_some : (cs : List (List ℕ)) (b : List ℕ) → (c : List ℕ) × (cheapest cost label r (Some b) cs ≡ Some c)
  found_some [] b = (b, refl)
  found_some (e ∷ cs) b = step_is (λ o. (c : List ℕ) × (cheapest cost label r o cs ≡ Some c)) b e (found_some cs b) (found_some cs e)

  pub cheapest_found : (cs : List (List ℕ)) (o : Option (List ℕ)) (b : List ℕ) → In cs b → height label b ≤ r → (c : List ℕ) × (cheapest cost label r o cs ≡ Some c)
  cheapest_found [] o b i l = elim i [ ]
  cheapest_found (e ∷ cs) (Some a) b i l = found_some (e ∷ cs) a
  cheapest_found (e ∷ cs) None b (inl q) l = subst (λ o. (c : List ℕ) × (cheapest cost label r o cs ≡ Some c)) (sym (low_is None e (subst (λ x. height label x ≤ r) q l))) (found_some cs e)
  cheapest_found (e ∷ cs) None b (inr i) l = cheapest_found cs (cheaper_low cost label r None e) b i l

  from_more : (cs : List (List ℕ)) (o next : Option (List ℕ)) (e c : List ℕ) → (next ≡ o) ⊎ (next ≡ Some e) → In cs c ⊎ (next ≡ Some c) → In (e ∷ cs) c ⊎ (o ≡ Some c)
  from_more cs o next e c s (inl i) = inl (inr i)
  from_more cs o next e c (inl q) (inr h) = inr (sym q ∙ h)
  from_more cs o next e c (inr q) (inr h) = inl (inl (sym (same_Some e c (sym q ∙ h))))

  step_either : (o : Option (List ℕ)) (e : List ℕ) → (cheaper_low cost label r o e ≡ o) ⊎ (cheaper_low cost label r o e ≡ Some e)
  step_either None e = choose (λ s. (s ≡ None) ⊎ (s ≡ Some e)) (ltb r (height label e)) None (Some e) (λ _. inl refl) (λ _. inr refl)
  step_either (Some b) e = step_is (λ s. (s ≡ Some b) ⊎ (s ≡ Some e)) b e (inl refl) (inr refl)

  pub cheapest_in : (cs : List (List ℕ)) (o : Option (List ℕ)) (c : List ℕ) → cheapest cost label r o cs ≡ Some c → In cs c ⊎ (o ≡ Some c)
  cheapest_in [] o c h = inr h
  cheapest_in (e ∷ cs) o c h = from_more cs o (cheaper_low cost label r o e) e c (step_either o e) (cheapest_in cs (cheaper_low cost label r o e) c h)

  low_next : (o : Option (List ℕ)) (e : List ℕ) → ((b : List ℕ) → o ≡ Some b → height label b ≤ r) → (b : List ℕ) → cheaper_low cost label r o e ≡ Some b → height label b ≤ r
  low_next o e low b h = search (rules, cases_lt, high_is, step_either, same_Some)

  pub cheapest_low : (cs : List (List ℕ)) (o : Option (List ℕ)) (c : List ℕ) → ((b : List ℕ) → o ≡ Some b → height label b ≤ r) → cheapest cost label r o cs ≡ Some c → height label c ≤ r
  cheapest_low [] o c low h = low c h
  cheapest_low (e ∷ cs) o c low h = cheapest_low cs (cheaper_low cost label r o e) c (low_next o e low) h

  abbrev Cheaper : List ℕ → List ℕ → Type 0
  Cheaper c d = IsCheaper c d (cost c) (cost d)

  no_later : (c b e : List ℕ) → (c ≡ b) ⊎ (comes_before c b ≡ true) → (b ≡ e) ⊎ (comes_before b e ≡ true) → (c ≡ e) ⊎ (comes_before c e ≡ true)
  no_later c b e (inl q) h = subst (λ x. (x ≡ e) ⊎ (comes_before x e ≡ true)) (sym q) h
  no_later c b e (inr s) (inl q) = inr (subst (λ x. comes_before c x ≡ true) q s)
  no_later c b e (inr s) (inr t) = inr (before_trans c b e s t)

  cheaper_over : (c b e : List ℕ) → Cheaper c b → Cheaper b e → Cheaper c e
  cheaper_over c b e (less l) (less m) = less (omega arith)
  cheaper_over c b e (less l) (earlier q o) = less (omega arith)
  cheaper_over c b e (earlier q o) (less m) = less (omega arith)
  cheaper_over c b e (earlier q o) (earlier p t) = earlier (q ∙ p) (no_later c b e o t)

  cheaper_same : (c : List ℕ) → Cheaper c c
  cheaper_same c = earlier refl (inl refl)

  -- of two cuts the one that is kept is the cheaper
  record Kept (b e : List ℕ) (o : Option (List ℕ)) : Type 0 where
    cut : List ℕ
    is : o ≡ Some cut
    one : (cut ≡ b) ⊎ (cut ≡ e)
    over_old : Cheaper cut b
    over_new : Cheaper cut e

  kept_old : (b e : List ℕ) → Cheaper b e → Kept b e (Some b)
  kept_old b e h = record { cut = b; is = refl; one = inl refl; over_old = cheaper_same b; over_new = h }

  kept_new : (b e : List ℕ) → Cheaper e b → Kept b e (Some e)
  kept_new b e h = record { cut = e; is = refl; one = inr refl; over_old = h; over_new = cheaper_same e }

  not_later : (b e : List ℕ) → comes_before e b ≡ false → (b ≡ e) ⊎ (comes_before b e ≡ true)
  not_later b e h = elim (cases_Bool (comes_before b e)) [ inl t ↦ inr t | inr f ↦ inl (before_none b e f h) ]

  kept_over : (b e : List ℕ) → cost b ≤ cost e → ((eqb (cost e) (cost b)) && comes_before e b) ≡ false → Cheaper b e
  kept_over b e l t = search (rules, cases_eq, cases_Bool, both_ways, eqb, and_from, eq-eqb, not_later)

  kept : (b e : List ℕ) → Kept b e (cheaper cost (Some b) e)
  kept b e = grind (arith, ltb, cond, eqb, kept_new, ltb-true, and_parts, eqb-true, kept_old, kept_over, ltb-false)

  -- what is found is the first of the least cost
  pub cheapest_first : (cs : List (List ℕ)) (o : Option (List ℕ)) (c : List ℕ) → ((b : List ℕ) → o ≡ Some b → height label b ≤ r)
      → cheapest cost label r o cs ≡ Some c
      → (d : List ℕ) → In cs d ⊎ (o ≡ Some d) → height label d ≤ r → Cheaper c d
  cheapest_first [] o c lows h d (inl i) l = absurd i
  cheapest_first [] o c lows h d (inr q) l = subst (λ x. Cheaper c x) (same_Some c d (sym h ∙ q)) (cheaper_same c)
  cheapest_first (e ∷ cs) None c lows h d (inr q) l = absurd (none-some d q)
  cheapest_first (e ∷ cs) None c lows h d (inl i) l =
      let next : (x : List ℕ) → In cs x ⊎ (cheaper_low cost label r None e ≡ Some x) → height label x ≤ r → Cheaper c x = cheapest_first cs (cheaper_low cost label r None e) c (low_next None e lows) h in
      elim i [
        | inl q ↦ next d (inr (low_is None e (subst (λ x. height label x ≤ r) q l) ∙ ap (λ x. Some x) (sym q))) l
        | inr k ↦ next d (inl k) l
      ]
  cheapest_first (e ∷ cs) (Some b) c lows h d i l =
      let next : (x : List ℕ) → In cs x ⊎ (cheaper_low cost label r (Some b) e ≡ Some x) → height label x ≤ r → Cheaper c x = cheapest_first cs (cheaper_low cost label r (Some b) e) c (low_next (Some b) e lows) h in
      elim (cases_lt r (height label e)) [
        | inl high ↦ elim i [
          | inl j ↦ elim j [ inl q ↦ absurd (let a : height label d ≡ height label e = ap (λ x. height label x) q in omega arith) | inr k ↦ next d (inl k) l ]
          | inr q ↦ next d (inr (high_is (Some b) e high ∙ q)) l
        ]
        | inr low ↦ (
            let k = kept b e in
            let is : cheaper_low cost label r (Some b) e ≡ Some k.cut = low_is (Some b) e low ∙ k.is in
            let over : Cheaper c k.cut = next k.cut (inr is) (low_next (Some b) e lows k.cut is) in
            elim i [
              | inl j ↦ elim j [ inl q ↦ subst (λ x. Cheaper c x) (sym q) (cheaper_over c k.cut e over k.over_new) | inr m ↦ next d (inl m) l ]
              | inr q ↦ subst (λ x. Cheaper c x) (same_Some b d q) (cheaper_over c k.cut b over k.over_old)
            ])
      ]

pub above_same : (roots : List ℕ) (cover more : ℕ → Option (List ℕ)) (n m : ℕ) → ((i : ℕ) → n < i → cover i ≡ more i) → IsNeededAbove roots cover n m → IsNeededAbove roots more n m
above_same roots cover more n m same (root l i e) = root l i e
above_same roots cover more n m same (leaf reader c a e i) = leaf reader c a (sym (same reader a) ∙ e) i

-- costs where the same is needed
module _ (flow : ℕ → ℕ) (needed other : ℕ → Type 0) (to : (m : ℕ) → needed m → other m) (from : (m : ℕ) → other m → needed m) where
  leaf_moved : (m cost : ℕ) → IsLeafCost flow needed m cost → IsLeafCost flow other m cost
  leaf_moved m cost (shared x z) = shared (to m x) z
  leaf_moved m cost (free f z) = free f z
  leaf_moved m cost (new x z) = new (λ y. x (from m y)) z

  leaves_moved : (c : List ℕ) (cost : ℕ) → AreLeafCosts flow needed c cost → AreLeafCosts flow other c cost
  leaves_moved [] cost a = a
  leaves_moved (m ∷ ms) cost a = (a.0, a.1, leaf_moved m a.0 a.2, leaves_moved ms a.1 a.3, a.4)

  pub cost_moved : (c : List ℕ) (cost : ℕ) → IsCost flow needed c cost → IsCost flow other c cost
  cost_moved c cost a = record { leaves = a.leaves; are = leaves_moved c a.leaves a.are; is = a.is }

-- what is needed is what has a required depth, where it has a flow
module _ (flows : List ℕ) (reqs : List (Option ℕ)) (needed : ℕ → Type 0) (to : (m r : ℕ) → need reqs m ≡ Some r → needed m)
    (from : (m : ℕ) → needed m → (flow_at flows m ≡ 0) ⊎ ((r : ℕ) × (need reqs m ≡ Some r))) where
  leaf_of : (m : ℕ) (o : Option ℕ) → need reqs m ≡ o → IsLeafCost (flow_at flows) needed m (cost_where o (flow_at flows m))
  leaf_of m None e =
      elim (cases_eq (flow_at flows m) 0) [
        | inl z ↦ free z z
        | inr d ↦ new (λ x. elim (from m x) [ inl z ↦ d z | inr q ↦ absurd (none-some q.0 (sym e ∙ q.1)) ]) refl
      ]
  leaf_of m (Some r) e = shared (to m r e) refl

  leaf_only : (m cost : ℕ) (o : Option ℕ) → need reqs m ≡ o → IsLeafCost (flow_at flows) needed m cost → cost ≡ cost_where o (flow_at flows m)
  leaf_only m cost None e (shared x z) = elim (from m x) [ inl f ↦ z ∙ sym f | inr q ↦ absurd (none-some q.0 (sym e ∙ q.1)) ]
  leaf_only m cost (Some r) e (shared x z) = z
  leaf_only m cost None e (free f z) = z ∙ sym f
  leaf_only m cost (Some r) e (free f z) = z
  leaf_only m cost None e (new x z) = z
  leaf_only m cost (Some r) e (new x z) = absurd (x (to m r e))

  leaves_are : (c : List ℕ) → AreLeafCosts (flow_at flows) needed c (sum_by (leaf_cost flows reqs) c)
  leaves_are [] = refl
  leaves_are (m ∷ ms) = (leaf_cost flows reqs m, sum_by (leaf_cost flows reqs) ms, leaf_of m (need reqs m) refl, leaves_are ms, sum_by-cons (leaf_cost flows reqs) m ms)

  leaves_only : (c : List ℕ) (cost : ℕ) → AreLeafCosts (flow_at flows) needed c cost → cost ≡ sum_by (leaf_cost flows reqs) c
  leaves_only [] cost a = a
  leaves_only (m ∷ ms) cost a =
      omega (arith, leaf_only m a.0 (need reqs m) refl a.2, leaves_only ms a.1 a.3, sum_by-cons (leaf_cost flows reqs) m ms, a.4)

  pub cost_only : (c : List ℕ) (cost : ℕ) → IsCost (flow_at flows) needed c cost → cost ≡ cut_cost flows reqs c
  cost_only c cost a = grind (arith, leaves_only)

  -- The cut that is found is the cheapest.
  pub cheapest_is : (label : ℕ → ℕ) (r : ℕ) (row : List (List ℕ)) (c : List ℕ) → cheapest (cut_cost flows reqs) label r None row ≡ Some c → IsCheapest (flow_at flows) needed label r row c
  cheapest_is label r row c e = record {
    one = elim (cheapest_in (cut_cost flows reqs) label r row None c e) [ inl i ↦ i | inr q ↦ absurd (none-some c q) ];
    low = cheapest_low (cut_cost flows reqs) label r row None c (λ b q. absurd (none-some b q)) e;
    cost = cut_cost flows reqs c;
    is = record { leaves = sum_by (leaf_cost flows reqs) c; are = leaves_are c; is = refl };
    first = λ d other i l x. subst (λ v. IsCheaper c d (cut_cost flows reqs c) v) (sym (cost_only d other x))
        (cheapest_first (cut_cost flows reqs) label r row None c (λ b q. absurd (none-some b q)) e d (inl i) l);
  }
