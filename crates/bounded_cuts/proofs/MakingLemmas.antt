-- The sets of the first n nodes and one set more are those of the first n + 1.
use Rattle.bounded_cuts.proofs.Common.{◌≡◌, ℕ, zero, suc, ◌+◌, ◌-◌, ◌*◌, ◌/◌, ◌<◌, ◌≤◌, max, cond, Bool, if◌then◌else◌, nat_lt, List, [], ◌∷◌, ◌++◌, length, refl, sym, ap, subst, ◌∙◌, inl, inr, arith, length-append, get_or_push, get_or_append_left, get_or_past, sum_by, sum_by-cons, cases_lt, cases_eq, lt-ltb, le-ltb, mul-suc, mul-zero, mul-le-mul_left, In, label_at, row_at, IsAnd, first_and, node_count, IsCut, places, Worth, flows_of, low_flows_of, IsWorth, AreWorths, MOST_CUTS, rules, Wanted, Scope, AreCandidates, cuts_within, flows_below, least_flow, node_flow, AreMade, AreSetsFor, CanMake, count_in, favoured_in, low_in, HasSet, IsTaken}
use Rattle.bounded_cuts.specs.declared.scope.Scope.TheVariants.{AnyHeight, LeastHeight}
use Rattle.bounded_cuts.proofs.GrowthLemmas.{AgreeBelow, candidates_agree, flows_agree, taken_as}
use Rattle.bounded_cuts.proofs.ServingLemmas.{rows_are_cuts, set_few}
use Rattle.bounded_cuts.proofs.WorthLemmas.{flows_pushed, low_flows_pushed, no_worths, worths_pushed}

-- the flow of a node below the AND nodes, and of one of them
pub source_flow : (n first flow : ℕ) → n < first → 0 ≡ (if nat_lt n first then 0 else flow)
source_flow n first flow l = ap (λ (b : Bool). cond b 0 flow) (sym (lt-ltb n first l))

pub and_flow : (n first flow low shared count : ℕ) → first ≤ n → flow ≡ low → shared ≡ count → flow / shared ≡ (if nat_lt n first then 0 else low / count)
and_flow n first flow low shared count l e es = ap (λ (x : ℕ). x / shared) e ∙ ap (λ (s : ℕ). low / s) es ∙ ap (λ (b : Bool). cond b 0 (low / count)) (sym (le-ltb n first l))

-- a row after the last one
module _ (rows : List (List (List ℕ))) (set : List (List ℕ)) (n : ℕ) (count : length rows ≡ n) where
  pub rows_before : AgreeBelow rows (rows ++ set ∷ []) n
  rows_before m l = get_or_append_left rows (set ∷ []) [] m (omega arith)

  pub row_new : row_at (rows ++ set ∷ []) n ≡ set
  row_new = get_or_push rows set [] n count

  rows_count : length (rows ++ set ∷ []) ≡ suc n
  rows_count = omega (arith, length-append rows (set ∷ []))

  row_past : (m : ℕ) → n < m → row_at (rows ++ set ∷ []) m ≡ []
  row_past m l = get_or_past (rows ++ set ∷ []) m [] (omega (arith, rows_count))

-- rows of at most p cuts each, of which the first ones are empty
sum_rows : (p : ℕ) (rows : List (List (List ℕ))) (first rest : ℕ) → length rows ≤ first + rest → ((m : ℕ) → length (row_at rows m) ≤ p) → ((m : ℕ) → m < first → row_at rows m ≡ []) → sum_by length rows ≤ p * rest
sum_rows p [] first rest l few none = omega arith
sum_rows p (r ∷ rows) zero zero l few none = absurd (omega arith)
sum_rows p (r ∷ rows) zero (suc rest) l few none =
    omega (arith, sum_rows p rows zero rest (omega arith) (λ m. few (suc m)) (λ m b. absurd (omega arith)), few zero, sum_by-cons (λ (c : List (List ℕ)). length c) r rows, mul-suc p rest)
sum_rows p (r ∷ rows) (suc first) rest l few none =
    omega (arith, sum_rows p rows first rest (omega arith) (λ m. few (suc m)) (λ m b. none (suc m) (omega arith)), ap length (none zero (omega arith)), sum_by-cons (λ (c : List (List ℕ)). length c) r rows)

module _ (w : Wanted) (n : ℕ) (rows : List (List (List ℕ))) (worths : List Worth) (can : CanMake w) (made : AreMade w n rows worths) where
  pub rows_cut : (m : ℕ) (c : List ℕ) → IsAnd w.graph.now m → m < n → In (row_at rows m) c → IsCut w.graph.now w.k m c
  rows_cut = rows_are_cuts w.graph.now can.normal w.k (label_at w.labels.now) (low_in w.lows.now) can.lows.cut (count_in w.counts.now) (favoured_in w.favoured.now) rows n made.each

  pub row_few : n ≤ node_count w.graph.now → (m : ℕ) → length (row_at rows m) ≤ places w.k
  row_few inside m = elim (cases_lt m n) [
    | inr past ↦ (let e : length (row_at rows m) ≡ 0 = ap length (get_or_past rows m [] (omega (arith, made.count))) in omega arith)
    | inl below ↦ elim (cases_lt m (first_and w.graph.now)) [
      | inl source ↦ (let e : length (row_at rows m) ≡ 0 = ap length (made.sources m source) in omega arith)
      | inr above ↦ (let has = made.each m (above, (let l : m < node_count w.graph.now = omega arith in l)) below in set_few _ _ _ _ _ _ _ _ has.2)
    ]
  ]

  -- the table has room for one set more
  pub room_for : (set : List (List ℕ)) → n < node_count w.graph.now → (n < first_and w.graph.now → set ≡ []) → length set ≤ places w.k → sum_by length rows + length set ≤ MOST_CUTS
  room_for set inside source few =
      let first = first_and w.graph.now in
      let p = places w.k in
      let s : sum_by length rows ≤ p * (n - first) = sum_rows p rows first (n - first) (omega (arith, made.count)) (row_few (omega arith)) made.sources in
      elim (cases_lt n first) [
        | inl l ↦ (let z : p * (n - first) ≡ 0 = ap (λ (x : ℕ). p * x) (omega arith) ∙ mul-zero p in
            let e : length set ≡ 0 = ap length (source l) in omega arith)
        | inr l ↦ (let a : p * suc (n - first) ≤ p * length w.graph.now.pairs = mul-le-mul_left p (omega arith) in
            let b : p * suc (n - first) ≡ p * (n - first) + p = mul-suc p (n - first) in
            let m : p * length w.graph.now.pairs ≤ MOST_CUTS = can.most in
            sum_le s few b a m)
      ]
    where
      sum_le : {a b c d e f m : ℕ} → a ≤ c → b ≤ d → e ≡ c + d → e ≤ f → f ≤ m → a + b ≤ m
      sum_le p q r t u = omega arith

  -- the set of node n with its flows and its worth
  module _ (set : List (List ℕ)) (flow low_flow : ℕ) (worth : Worth) (is_worth : IsWorth w.labels.now w.favoured.now n flow low_flow worth)
      (flow_is : flow ≡ (if nat_lt n (first_and w.graph.now) then 0 else least_flow (flows_of worths) set / max 1 (count_in w.counts.now n)))
      (low_flow_is : low_flow ≡ (if nat_lt n (first_and w.graph.now) then 0 else least_flow (low_flows_of worths) (cuts_within (label_at w.labels.now) (label_at w.labels.now n) set) / max 1 (count_in w.counts.now n)))
      (source : n < first_and w.graph.now → set ≡ [])
      (chosen : IsAnd w.graph.now n → (cs : List (List ℕ)) × AreCandidates w.graph.now w.k (label_at w.labels.now) (low_in w.lows.now n) rows n cs × IsTaken w.k (label_at w.labels.now) (label_at w.labels.now n) (flows_of worths) (low_flows_of worths) (favoured_in w.favoured.now) cs set) where
    same : AgreeBelow rows (rows ++ set ∷ []) n
    same = rows_before rows set n made.count

    at : row_at (rows ++ set ∷ []) n ≡ set
    at = row_new rows set n made.count

    -- flows over the rows with the new one
    agree : (scope : Scope) (m : ℕ) → m ≤ n → flows_below w.graph.now scope (label_at w.labels.now) rows (count_in w.counts.now) m ≡ flows_below w.graph.now scope (label_at w.labels.now) (rows ++ set ∷ []) (count_in w.counts.now) m
    agree scope m l = sym (flows_agree w.graph.now scope (label_at w.labels.now) rows (rows ++ set ∷ []) (count_in w.counts.now) m (λ j i. same j (omega arith)))

    -- a set that was taken over some flows, seen over the rows with the new one
    set_seen : (m : ℕ) (flows lows : List ℕ) (row : List (List ℕ)) → m ≤ n → flows ≡ flows_below w.graph.now AnyHeight (label_at w.labels.now) rows (count_in w.counts.now) m → lows ≡ flows_below w.graph.now LeastHeight (label_at w.labels.now) rows (count_in w.counts.now) m → row_at (rows ++ set ∷ []) m ≡ row
        → (cs : List (List ℕ)) × AreCandidates w.graph.now w.k (label_at w.labels.now) (low_in w.lows.now m) rows m cs × IsTaken w.k (label_at w.labels.now) (label_at w.labels.now m) flows lows (favoured_in w.favoured.now) cs row
        → HasSet w.graph.now w.k (label_at w.labels.now) (low_in w.lows.now) (count_in w.counts.now) (favoured_in w.favoured.now) (rows ++ set ∷ []) m
    set_seen m flows lows row l e el er has = (
      has.0,
      candidates_agree w.graph.now w.k (label_at w.labels.now) (low_in w.lows.now m) rows (rows ++ set ∷ []) m has.0 can.normal (λ j i. same j (omega arith)) has.1,
      taken_as w.k (label_at w.labels.now) (label_at w.labels.now m) flows lows _ _ (favoured_in w.favoured.now) has.0 row _ (e ∙ agree AnyHeight m l) (el ∙ agree LeastHeight m l) (sym er) has.2,
    )

    next : n + 1 ≡ suc n
    next = omega arith

    made_next : AreMade w (suc n) (rows ++ set ∷ []) (worths ++ worth ∷ [])
    made_next = record {
      count = omega (arith, length-append rows (set ∷ []), made.count);
      sources = λ m l. elim (cases_lt m n) [
        | inl b ↦ same m b ∙ made.sources m l
        | inr b ↦ elim (cases_eq m n) [
          | inl e ↦ ap (row_at (rows ++ set ∷ [])) e ∙ at ∙ source (omega arith)
          | inr d ↦ row_past rows set n made.count m (omega arith)
        ]
      ];
      flows_are = flows_pushed w.labels.now w.favoured.now n worths made.worths_are flow low_flow worth is_worth (worths ++ worth ∷ []) refl
          ∙ ap (λ (x : ℕ). flows_of worths ++ x ∷ []) (flow_is ∙ ap (λ (row : List (List ℕ)). if nat_lt n (first_and w.graph.now) then 0 else least_flow (flows_of worths) row / max 1 (count_in w.counts.now n)) (sym at))
          ∙ ap (λ (fs : List ℕ). fs ++ node_flow w.graph.now AnyHeight (label_at w.labels.now) (rows ++ set ∷ []) (count_in w.counts.now) fs n ∷ []) (made.flows_are ∙ agree AnyHeight n (omega arith));
      low_flows_are = low_flows_pushed w.labels.now w.favoured.now n worths made.worths_are flow low_flow worth is_worth (worths ++ worth ∷ []) refl
          ∙ ap (λ (x : ℕ). low_flows_of worths ++ x ∷ []) (low_flow_is ∙ ap (λ (row : List (List ℕ)). if nat_lt n (first_and w.graph.now) then 0 else least_flow (low_flows_of worths) (cuts_within (label_at w.labels.now) (label_at w.labels.now n) row) / max 1 (count_in w.counts.now n)) (sym at))
          ∙ ap (λ (fs : List ℕ). fs ++ node_flow w.graph.now LeastHeight (label_at w.labels.now) (rows ++ set ∷ []) (count_in w.counts.now) fs n ∷ []) (made.low_flows_are ∙ agree LeastHeight n (omega arith));
      worths_are = subst (λ (i : ℕ). AreWorths w.labels.now w.favoured.now i (worths ++ worth ∷ [])) next (worths_pushed w.labels.now w.favoured.now n worths made.worths_are flow low_flow worth is_worth (worths ++ worth ∷ []) refl);
      each = λ m and l. elim (cases_lt m n) [
        | inl b ↦ set_seen m _ _ (row_at rows m) (omega arith) refl refl (same m b) (made.each m and b)
        | inr b ↦ (let e : n ≡ m = omega arith in
            subst (HasSet w.graph.now w.k (label_at w.labels.now) (low_in w.lows.now) (count_in w.counts.now) (favoured_in w.favoured.now) (rows ++ set ∷ [])) e
            (set_seen n (flows_of worths) (low_flows_of worths) set (omega arith) made.flows_are made.low_flows_are at (chosen (subst (IsAnd w.graph.now) (sym e) and))))
      ];
    }

    -- said of what was pushed
    pub made_pushed : (more : List (List (List ℕ))) (more_worths : List Worth) → (more ≡ rows ++ set ∷ []) × (more_worths ≡ worths ++ worth ∷ []) → AreMade w (n + 1) more more_worths
    made_pushed more more_worths e = subst (λ (r : List (List (List ℕ))). AreMade w (n + 1) r more_worths) (sym e.0) (subst (AreMade w (n + 1) (rows ++ set ∷ [])) (sym e.1) (subst (λ (i : ℕ). AreMade w i (rows ++ set ∷ []) (worths ++ worth ∷ [])) (sym next) made_next))

-- the sets of all nodes
pub all_sets : (w : Wanted) (rows : List (List (List ℕ))) (worths : List Worth) → AreMade w (node_count w.graph.now) rows worths → AreSetsFor w rows
all_sets w rows worths made = record { count = made.count; sources = made.sources; each = λ m and. made.each m and and.1 }

-- before the first node
pub none_made : (w : Wanted) (rows : List (List (List ℕ))) (worths : List Worth) → rows ≡ [] → worths ≡ [] → AreMade w 0 rows worths
none_made w rows worths e ew = search (rules, no_worths)
