-- What is found by a rule: a cut of the node that is low enough, wherever there is one, and the one that the rule's own words tell.
use Rattle.cover_pick.proofs.Common.{IsServing, IsServed, ◌≡◌, ℕ, ◌-◌, ◌+◌, ◌/◌, ◌<◌, ◌≤◌, List, length, Option, Some, None, refl, sym, ap, ◌∙◌, subst, inl, inr, ◌⊎◌, arith, none-some, cases_lt, Aig, first_and, node_count, IsAnd, In, IsOrdered, row_at, height, Rule, FewestLeaves, LeastCost, flow_at, IsNeededAbove, IsRuled, target, cut_cost, need, walk_by, met_at, roots_required, cover_of, AreBestPlaces, Chooses, depths_of, AreFlows, zero, suc, [], ◌∷◌, get_or-set_same, get_or-set_other, slice_set, get_or_past, length-set, cases_eq, cut_at, place_at, cut_of, cuts_from, cuts_of, found_for, ltb, ◌*◌, get_or, ltb-true, AreNormal, Lit, choose, lits_of, AreRoots, chosen, plan_of, IsLeastCover, IsPlanned, Bool, false, cond, same_Some, AtMost, IsPlanBy, and_depths, In-map, In-get_or, fun_ext}
use Rattle.cover_pick.specs.Ruled.{or_empty, found_in, choice_by, found_from, found_of, choice_of}
use Rattle.cover_pick.proofs.ChoiceLemmas.{best_is, best_in, best_low, best_found, cheapest_found, cheapest_in, cheapest_low, cheapest_is}
use Rattle.cover_pick.proofs.WalkLemmas.{walk_same, Walked, start_walked, required_walked, Met, met, needed_above, above_needed, schedule_is, template_within, template_cover, target_least, depth_le_required, need_in}
use Rattle.cover_pick.proofs.MappingLemmas.{cover_at}

pub record Found (rule : Rule) (label : ℕ → ℕ) (flows : List ℕ) (reqs : List (Option ℕ)) (row : List (List ℕ)) (r : ℕ) : Type 0 where
  pub cut : List ℕ
  pub is : found_in rule label flows reqs row r ≡ Some cut
  pub one : In row cut
  pub low : height label cut ≤ r

pub found_there : (rule : Rule) (label : ℕ → ℕ) (flows : List ℕ) (reqs : List (Option ℕ)) (row : List (List ℕ)) (r : ℕ) (b : List ℕ) → In row b → height label b ≤ r → Found rule label flows reqs row r
found_there FewestLeaves label flows reqs row r b i l =
    let f = best_found label r row None b i l in
    record {
      cut = f.0;
      is = f.1;
      one = elim (best_in label r row None f.0 f.1) [ inl j ↦ j | inr q ↦ absurd (none-some f.0 q) ];
      low = best_low label r row None f.0 (λ x q. absurd (none-some x q)) f.1;
    }
found_there LeastCost label flows reqs row r b i l =
    let f = cheapest_found (cut_cost flows reqs) label r row None b i l in
    record {
      cut = f.0;
      is = f.1;
      one = elim (cheapest_in (cut_cost flows reqs) label r row None f.0 f.1) [ inl j ↦ j | inr q ↦ absurd (none-some f.0 q) ];
      low = cheapest_low (cut_cost flows reqs) label r row None f.0 (λ x q. absurd (none-some x q)) f.1;
    }

-- what is found by its rule's own words, where what is needed is what has a required depth
pub ruled_is : (rule : Rule) (flows : List ℕ) (reqs : List (Option ℕ)) (needed : ℕ → Type 0) → ((m r : ℕ) → need reqs m ≡ Some r → needed m)
    → ((m : ℕ) → needed m → (flow_at flows m ≡ 0) ⊎ ((r : ℕ) × (need reqs m ≡ Some r))) → (label : ℕ → ℕ) (r : ℕ) (row : List (List ℕ)) (c : List ℕ) → (rule ≡ FewestLeaves → IsOrdered row)
    → found_in rule label flows reqs row r ≡ Some c → IsRuled rule (flow_at flows) needed label r row c
ruled_is FewestLeaves flows reqs needed to from label r row c up e = best_is label r row c (up refl) e
ruled_is LeastCost flows reqs needed to from label r row c up e = cheapest_is flows reqs needed to from label r row c e

module _ (rule : Rule) (g : Aig) (rows : List (List (List ℕ))) (label : ℕ → ℕ) (roots flows : List ℕ) where
  -- what is needed when the walk comes to a node
  abbrev pub state_of : ℕ → List (Option ℕ)
  state_of n = met_at (choice_by rule rows label flows) (first_and g) (length g.pairs) (roots_required g roots (target g label roots)) n

  pub found_at : IsServing rule g label rows → (n r : ℕ) → IsAnd g n → label n ≤ r → Found rule label flows (state_of n) (row_at rows n) r
  found_at serving n r and l =
      let m = serving.served.serving.low n and in
      found_there rule label flows (state_of n) (row_at rows n) r m.0 m.1 (omega arith)

  -- the choice is one of the cuts, low enough, wherever the label is
  pub choice_keeps : IsServing rule g label rows → Chooses g (row_at rows) label (choice_of rule g rows label roots flows)
  choice_keeps serving = record {
    cut = λ n r and l. let f = found_at serving n r and l in subst (λ o. In (row_at rows n) (or_empty o)) (sym f.is) f.one;
    low = λ n r and l. let f = found_at serving n r and l in subst (λ o. height label (or_empty o) ≤ r) (sym f.is) f.low;
  }

  module _ (inside : (l : ℕ) → In roots l → l / 2 < node_count g) (serving : IsServing rule g label rows) where
    pub walked : Walked g label (choice_of rule g rows label roots flows) roots (target g label roots) 0 (depths_of rule g rows label roots flows)
    walked = required_walked g serving.k roots (row_at rows) label (choice_of rule g rows label roots flows) inside serving.served.serving.cuts (choice_keeps serving)

    met_node : (n : ℕ) → IsAnd g n → (j : ℕ) → first_and g + j ≡ n → Met g label (choice_of rule g rows label roots flows) roots (target g label roots) j (state_of n) (depths_of rule g rows label roots flows)
    met_node n and j e =
        subst (λ i. Met g label (choice_of rule g rows label roots flows) roots (target g label roots) j (state_of i) (depths_of rule g rows label roots flows)) e
        (met g serving.k roots (row_at rows) label (choice_of rule g rows label roots flows) inside serving.served.serving.cuts (choice_keeps serving) (choice_by rule rows label flows) (target g label roots) (length g.pairs)
        (roots_required g roots (target g label roots)) (omega arith)
        (start_walked g serving.k roots (row_at rows) label (choice_of rule g rows label roots flows) inside serving.served.serving.cuts (choice_keeps serving)) (λ i r l. refl) j (omega arith))

    -- The choice of a needed node, by the rule's own words.
    pub choice_ruled : AreFlows g flows → (n r : ℕ) → IsAnd g n → label n ≤ r
        → IsRuled rule (flow_at flows) (IsNeededAbove roots (plan_of rule g rows label roots flows) n) label r (row_at rows n) (choice_of rule g rows label roots flows n r)
    choice_ruled fit n r and l =
        let choice : ℕ → ℕ → List ℕ = choice_of rule g rows label roots flows in
        let last : List (Option ℕ) = depths_of rule g rows label roots flows in
        let plan : ℕ → Option (List ℕ) = plan_of rule g rows label roots flows in
        let j : ℕ = n - first_and g in
        let here : first_and g + j ≡ n = omega (arith, and.0) in
        let at : Met g label choice roots (target g label roots) j (state_of n) last = met_node n and j here in
        let f = found_at serving n r and l in
        let to : (m s : ℕ) → need (state_of n) m ≡ Some s → IsNeededAbove roots plan n m =
        (λ m s e. subst (λ i. IsNeededAbove roots plan i m) here
        (needed_above g serving.k roots (row_at rows) label choice inside serving.served.serving.cuts (choice_keeps serving) (target g label roots) j (state_of n) last walked at m s e)) in
        let from : (m : ℕ) → IsNeededAbove roots plan n m → (flow_at flows m ≡ 0) ⊎ ((s : ℕ) × (need (state_of n) m ≡ Some s)) =
        (λ m x. elim (cases_lt m (first_and g)) [
          | inl low ↦ inl (fit.sources m low)
          | inr high ↦ elim (cases_lt m (node_count g)) [
            | inl b ↦ inr (above_needed g serving.k roots (row_at rows) label choice inside serving.served.serving.cuts (choice_keeps serving) (target g label roots) j (state_of n) last walked at m (high, b)
                (subst (λ i. IsNeededAbove roots plan i m) (sym here) x))
            | inr past ↦ inl (fit.past m past)
          ]
        ]) in
        subst (λ o. IsRuled rule (flow_at flows) (IsNeededAbove roots plan n) label r (row_at rows n) (or_empty o)) (sym f.is)
        (ruled_is rule flows (state_of n) (IsNeededAbove roots plan n) to from label r (row_at rows n) f.cut (λ e. serving.ordered e n and) f.is)

-- The places that the walk finds are those of the choices.
pub places_chosen : (rule : Rule) (g : Aig) (rows : List (List (List ℕ))) (label : ℕ → ℕ) (roots flows : List ℕ) (start last places : List (Option ℕ)) → start ≡ roots_required g roots (target g label roots)
    → last ≡ walk_by (choice_by rule rows label flows) (first_and g) (length g.pairs) start → AreBestPlaces g rows (found_from rule g rows label flows start) last (first_and g) places
    → AreBestPlaces g rows (found_of rule g rows label roots flows) (depths_of rule g rows label roots flows) (first_and g) places
places_chosen rule g rows label roots flows start last places from walk are = grind (arith, walk_same)

-- the cuts that places stand for
pub cuts_length : (rows : List (List (List ℕ))) (n : ℕ) (places : List (Option ℕ)) → length (cuts_from rows n places) ≡ length places
cuts_length rows n [] = refl
cuts_length rows n (p ∷ ps) = ap suc (cuts_length rows (n + 1) ps)

cut_from : (rows : List (List (List ℕ))) (n : ℕ) (places : List (Option ℕ)) (i m : ℕ) → n + i ≡ m → cut_at (cuts_from rows n places) i ≡ cut_of (row_at rows m) (place_at places i)
cut_from rows n [] i m e = refl
cut_from rows n (p ∷ ps) zero m e = ap (λ j. cut_of (row_at rows j) p) (let f : n ≡ m = omega arith in f)
cut_from rows n (p ∷ ps) (suc i) m e = cut_from rows (n + 1) ps i m (omega arith)

pub cut_is : (rows : List (List (List ℕ))) (places : List (Option ℕ)) (n : ℕ) → cut_at (cuts_of rows places) n ≡ cut_of (row_at rows n) (place_at places n)
cut_is rows places n = cut_from rows 0 places n n (omega arith)

-- what is read at a place is the node's cut
pub cut_at_place : (rows : List (List (List ℕ))) (places seen : List (Option ℕ)) (cuts : List (Option (List ℕ))) (n : ℕ) (o p : Option ℕ) → cuts_of rows places ≡ cuts → seen ≡ places → o ≡ place_at seen n → o ≡ p
    → cut_at cuts n ≡ cut_of (row_at rows n) p
cut_at_place rows places seen cuts n o p view same read is = grind (arith, cut_is)

-- the place of the next node below, where no required depth above it changes
pub places_next : (g : Aig) (rows : List (List (List ℕ))) (found : ℕ → ℕ → Option (List ℕ)) (depths next : List (Option ℕ)) (n m : ℕ) (places : List (Option ℕ)) (p : Option ℕ) → n + 1 ≡ m → n < node_count g
    → AreBestPlaces g rows found depths m places → ((i : ℕ) → n ≤ i → need next i ≡ need depths i) → cut_of (row_at rows n) p ≡ found_for (found n) (need depths n)
    → ((i : ℕ) → p ≡ Some i → i < length (row_at rows n)) → AreBestPlaces g rows found next n (slice_set places n p)
places_next g rows found depths next n m places p s l w above best inside = grind (arith, slice_set, get_or-set_same, get_or-set_other, length-set, cases_eq)

-- The chosen cuts: the rule in its own words, and that they are a cover of the least depth.

-- what the cover has at a source, and past the nodes
cover_source : (g : Aig) (choice : ℕ → ℕ → List ℕ) (reqs : List (Option ℕ)) (n : ℕ) → n < first_and g → cover_of g choice reqs n ≡ None
cover_source g choice reqs n l = grind arith

cover_past : (g : Aig) (choice : ℕ → ℕ → List ℕ) (reqs : List (Option ℕ)) (n : ℕ) → length reqs ≡ node_count g → node_count g ≤ n → cover_of g choice reqs n ≡ None
cover_past g choice reqs n e l = grind (arith, ltb, get_or_past)

-- the facts of a plan over rows that serve
module _ (rule : Rule) (g : Aig) (rows : List (List (List ℕ))) (label : ℕ → ℕ) (roots flows : List ℕ) (inside : (l : ℕ) → In roots l → l / 2 < node_count g) (serving : IsServing rule g label rows) where
  pub depths_size : length (depths_of rule g rows label roots flows) ≡ node_count g
  depths_size = (walked rule g rows label roots flows inside serving).size

  -- the cut that is found for a node's required depth is its choice
  best_chosen : (n : ℕ) (o : Option ℕ) → IsAnd g n → need (depths_of rule g rows label roots flows) n ≡ o → found_for (found_of rule g rows label roots flows n) o ≡ chosen (choice_of rule g rows label roots flows) n o
  best_chosen n None and e = refl
  best_chosen n (Some r) and e =
      let f = found_at rule g rows label roots flows serving n r and ((walked rule g rows label roots flows inside serving).low n r and e) in
      f.is ∙ ap (λ o. Some (or_empty o)) (sym f.is)

  -- The cuts at the best places are the plan.
  pub places_plan : (places : List (Option ℕ)) → AreBestPlaces g rows (found_of rule g rows label roots flows) (depths_of rule g rows label roots flows) (first_and g) places
      → (n : ℕ) → n < node_count g → cut_at (cuts_of rows places) n ≡ plan_of rule g rows label roots flows n
  places_plan places best n l = grind (arith, cut_is, cases_lt, cover_source, best_chosen, cover_at)

  plan_least : (k : ℕ) → IsServed g k label rows → IsLeastCover g k roots (plan_of rule g rows label roots flows) (target g label roots)
  plan_least k served =
      let choice : ℕ → ℕ → List ℕ = choice_of rule g rows label roots flows in
      let chooses : Chooses g (row_at rows) label choice = choice_keeps rule g rows label roots flows serving in
      let is_cover = template_cover g k roots (row_at rows) label choice inside served.serving.cuts chooses in
      let is_within = template_within g k roots (row_at rows) label choice inside served.serving.cuts chooses in
      record {
        is = is_cover;
        within = is_within;
        least = record { cover = plan_of rule g rows label roots flows; is = is_cover; within = is_within; least = target_least g k roots (row_at rows) label choice inside served.serving.cuts chooses served.heights };
      }

  -- what is planned is known of each cover that is the plan
  pub plan_all : AreFlows g flows → AreNormal (first_and g) g.pairs → (cover : ℕ → Option (List ℕ)) → ((n : ℕ) → cover n ≡ plan_of rule g rows label roots flows n) → IsPlanned rule g rows label roots flows cover
  plan_all fit normal cover same = subst (IsPlanned rule g rows label roots flows) (fun_ext (λ n. sym (same n))) (record {
    chosen = λ n. refl;
    schedule = schedule_is g serving.k roots (row_at rows) label (choice_of rule g rows label roots flows) inside serving.served.serving.cuts (choice_keeps rule g rows label roots flows serving) (target g label roots) (depths_of rule g rows label roots flows)
        (walked rule g rows label roots flows inside serving);
    best = λ n r and e. choice_ruled rule g rows label roots flows inside serving fit n r and ((walked rule g rows label roots flows inside serving).low n r and e);
    size = depths_size;
    timely = depth_le_required g serving.k roots (row_at rows) label (choice_of rule g rows label roots flows) inside serving.served.serving.cuts (choice_keeps rule g rows label roots flows serving) (target g label roots) (depths_of rule g rows label roots flows)
        (walked rule g rows label roots flows inside serving);
    least = plan_least;
  })

  -- all nodes' cuts are the plan, where those of the graph are
  pub cuts_all : (cuts : List (Option (List ℕ))) → length cuts ≡ node_count g → ((n : ℕ) → n < node_count g → cut_at cuts n ≡ plan_of rule g rows label roots flows n) → (n : ℕ) → cut_at cuts n ≡ plan_of rule g rows label roots flows n
  cuts_all cuts e below n = elim (cases_lt n (node_count g)) [
    | inl l ↦ below n l
    | inr l ↦ get_or_past cuts n None (omega arith) ∙ sym (cover_past g (choice_of rule g rows label roots flows) (depths_of rule g rows label roots flows) n depths_size l)
  ]

pub roots_inside : (g : Aig) (roots : List ℕ) → AreRoots g roots → (l : ℕ) → In roots l → l / 2 < node_count g
roots_inside g roots inside l i = let a : l < 2 * node_count g = inside l i in omega arith

pub root_there : (ls : List Lit) (i : ℕ) (d : Lit) → i < length ls → In (lits_of ls) ((get_or ls i d).0)
root_there ls i d h = In-map (λ (l : Lit). l.0) ls (get_or ls i d) (In-get_or ls i d h)

pub root_below : (g : Aig) (ls : List Lit) (i : ℕ) (d : Lit) → AreRoots g (lits_of ls) → i < length ls → (get_or ls i d).0 / 2 < node_count g
root_below g ls i d inside h = let a : (get_or ls i d).0 < 2 * node_count g = inside ((get_or ls i d).0) (root_there ls i d h) in omega arith

and_depth : (g : Aig) (reqs : List (Option ℕ)) (n : ℕ) → first_and g ≤ n → and_depths g reqs n ≡ need reqs n
and_depth g reqs n a = choose (λ o. o ≡ need reqs n) (ltb n (first_and g)) None (need reqs n) (λ t. absurd (let b : n < first_and g = ltb-true n (first_and g) t in omega arith)) (λ t. refl)

pub depth_from : (g : Aig) (reqs : List (Option ℕ)) (n r : ℕ) → and_depths g reqs n ≡ Some r → (first_and g ≤ n) × (need reqs n ≡ Some r)
depth_from g reqs n r e0 = grind arith

none_of : (choice : ℕ → ℕ → List ℕ) (n : ℕ) (b : Bool) (o : Option ℕ) → cond b None o ≡ None → cond b None (chosen choice n o) ≡ None
none_of choice n false (Some r) e = absurd (none-some r (sym e))
none_of choice n b o e = refl

module _ (rule : Rule) (g : Aig) (rows : List (List (List ℕ))) (label : ℕ → ℕ) (roots flows : List ℕ) (cover : ℕ → Option (List ℕ)) (p : IsPlanned rule g rows label roots flows cover) where
  pub node_of : (n r : ℕ) → and_depths g (depths_of rule g rows label roots flows) n ≡ Some r → IsAnd g n
  node_of n r e = grind (arith, depth_from, need_in)

  cut_there : (n r : ℕ) → first_and g ≤ n → need (depths_of rule g rows label roots flows) n ≡ Some r → cover n ≡ Some (choice_of rule g rows label roots flows n r)
  cut_there n r a e = p.chosen n ∙ cover_at g (choice_of rule g rows label roots flows) (depths_of rule g rows label roots flows) n (Some r) a e

  -- The walk's depths and cuts are the plan by its flows.
  pub plan_is : IsPlanBy rule g rows label roots (flow_at flows) (and_depths g (depths_of rule g rows label roots flows)) cover
  plan_is = record {
    schedule = record {
      nodes = node_of;
      low = λ n r e. p.schedule.low n r (node_of n r e) (depth_from g (depths_of rule g rows label roots flows) n r e).1;
      root = λ l i and. subst (λ o. AtMost o (target g label roots)) (sym (and_depth g (depths_of rule g rows label roots flows) (l / 2) and.0)) (p.schedule.root l i and);
      leaf = λ n r m c e at i and. grind (arith, depth_from, same_Some, cut_there, and_depth, node_of);
      whence = λ n r e. elim (p.schedule.whence n r (depth_from g (depths_of rule g rows label roots flows) n r e).1) [
        | inl f ↦ inl f
        | inr f ↦ inr (record {
          reader = f.reader;
          depth = f.depth;
          cut = choice_of rule g rows label roots flows f.reader f.depth;
          needed = and_depth g (depths_of rule g rows label roots flows) f.reader f.and.0 ∙ f.needed;
          chosen = cut_there f.reader f.depth f.and.0 f.needed;
          leaf = f.leaf;
          is = f.is;
        })
      ];
    };
    chosen = λ n r e. grind (arith, depth_from, cut_there, node_of);
    none = λ n e. p.chosen n ∙ none_of (choice_of rule g rows label roots flows) n (ltb n (first_and g)) (need (depths_of rule g rows label roots flows) n) e;
  }
