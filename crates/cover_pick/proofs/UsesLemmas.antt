-- The uses of nodes as they are counted, and covers that agree.
use Rattle.cover_pick.proofs.Common.{◌≡◌, ℕ, zero, suc, ◌+◌, ◌<◌, ◌≤◌, List, [], ◌∷◌, length, Option, Some, None, replicate, drop, get_or, refl, sym, ap, ◌∙◌, subst, inl, inr, arith, length-replicate, get_or-replicate, drop_more, sum_by-cons, cases_eq, eq-eqb, ne_eqb, choose_one, Aig, node_count, In, IsAscending, or_empty, times_in, times_leaf, uses_below, price, cost_below, count_at, count_one, count_each, AreLeaves, AreUsed, ◌-◌, ◌*◌, ◌/◌, eqb, cond, get_or-set_same, get_or-set_other, take, sum_by, length-set, take_all, get_or_past, sum_by_more, get_or_from_slice_get, cases_lt, choose, first_and, pair_of, Pair, times_read, fan_out, count_pair, AreCounted, rules, min, max, ltb, Bool, true, false, ◌++◌, div-le_self, length_push, get_or_append_left, get_or_push, drop_all, ltb-false, choose_both, row_at, height, MOST_FLOW, flow_at, cut_flow, least_flow, node_flow, flows_below, Scope, AnyHeight, LeastHeight, cuts_within, allowed_row, allowed_flow, AreCapped, AreFlows, fun_ext, AreNormal, slice_get, slice_get_within, uses, favoured_in, has_cut, cut_at}

abbrev pub one_if : ℕ → ℕ → ℕ
one_if n m = cond (eqb n m) 1 0

pub one_more : (counts : List ℕ) (n m : ℕ) → n < length counts → count_at (count_one counts n) m ≡ count_at counts m + one_if n m
one_more counts n m l = search (rules, cases_eq, one_if, get_or-set_same, eq-eqb, get_or-set_other, ne_eqb)

pub one_size : (counts : List ℕ) (n : ℕ) → length (count_one counts n) ≡ length counts
one_size counts n = length-set counts n (count_at counts n + 1)

pair_more : (counts : List ℕ) (p : Pair) (m : ℕ) → p.x.0 / 2 < length counts → p.y.0 / 2 < length counts → count_at (count_pair counts p) m ≡ count_at counts m + times_read m p
pair_more counts p m x y = grind (arith, one_size, one_if, one_more)

read_twice : (m : ℕ) (ps : List Pair) → sum_by (times_read m) ps ≤ 2 * length ps
read_twice m [] = omega arith
read_twice m (p ∷ ps) =
    let x : one_if (p.x.0 / 2) m ≤ 1 = choose (λ v. v ≤ 1) (eqb (p.x.0 / 2) m) 1 0 (λ _. omega arith) (λ _. omega arith) in
    let y : one_if (p.y.0 / 2) m ≤ 1 = choose (λ v. v ≤ 1) (eqb (p.y.0 / 2) m) 1 0 (λ _. omega arith) (λ _. omega arith) in
    omega (arith, sum_by-cons (times_read m) p ps, read_twice m ps)

take_short : (i : ℕ) (ps : List Pair) → length (take i ps) ≤ length ps
take_short (suc i) (p ∷ ps) = let r : length (take i ps) ≤ length ps = take_short i ps in omega arith
take_short i ps = omega arith

module _ (g : Aig) where
  pub counts_small : (n : ℕ) (counts : List ℕ) → AreCounted g n counts → (m : ℕ) → count_at counts m ≤ 2 * length g.pairs
  counts_small n counts a m = search (rules, cases_lt, read_twice, take_short, get_or_past)

  pub counted_none : AreCounted g (first_and g) (replicate (node_count g) 0)
  counted_none = search (rules, length-replicate, get_or-replicate)

  pub counted_next : (n : ℕ) (counts next : List ℕ) (p : Pair) → AreCounted g n counts → first_and g ≤ n → n < node_count g → pair_of g n ≡ Some p → p.x.0 / 2 < node_count g → p.y.0 / 2 < node_count g → next ≡ count_pair counts p
      → AreCounted g (n + 1) next
  counted_next n counts next p a low high at x y is =
      let size : length counts ≡ node_count g = a.size in
      let here : get_or g.pairs (n - first_and g) p ≡ p = get_or_from_slice_get g.pairs (n - first_and g) p p at in
      let place : n + 1 - first_and g ≡ n - first_and g + 1 = omega arith in
      subst (λ s. AreCounted g (n + 1) s) (sym is) (record {
        size = one_size (count_one counts (p.x.0 / 2)) (p.y.0 / 2) ∙ (one_size counts (p.x.0 / 2) ∙ size);
        each = λ m l.
            let more : count_at (count_pair counts p) m ≡ count_at counts m + times_read m p = pair_more counts p m (omega arith) (omega arith) in
            let before : count_at counts m ≡ sum_by (times_read m) (take (n - first_and g) g.pairs) = a.each m l in
            let sum : sum_by (times_read m) (take (n - first_and g + 1) g.pairs) ≡ sum_by (times_read m) (take (n - first_and g) g.pairs) + times_read m (get_or g.pairs (n - first_and g) p) =
            sum_by_more (times_read m) g.pairs (n - first_and g) p (omega arith) in
            let same : times_read m (get_or g.pairs (n - first_and g) p) ≡ times_read m p = ap (λ q. times_read m q) here in
            let moved : sum_by (times_read m) (take (n + 1 - first_and g) g.pairs) ≡ sum_by (times_read m) (take (n - first_and g + 1) g.pairs) = ap (λ i. sum_by (times_read m) (take i g.pairs)) place in
            let all : count_at (count_pair counts p) m ≡ sum_by (times_read m) (take (n + 1 - first_and g) g.pairs) = omega arith in all;
      })

  pub counted_all : (counts : List ℕ) → AreCounted g (node_count g) counts → (m : ℕ) → m < node_count g → count_at counts m ≡ fan_out g m
  counted_all counts a m l = a.each m l ∙ ap (λ ps. sum_by (times_read m) ps) (take_all (node_count g - first_and g) g.pairs (omega arith))

-- covers that agree use the same nodes as often, and cost the same
pub uses_same : (cover more : ℕ → Option (List ℕ)) (m n : ℕ) → ((i : ℕ) → cover i ≡ more i) → uses_below cover m n ≡ uses_below more m n
uses_same cover more m n e = ap (λ c. uses_below c m n) (fun_ext e)

pub cost_same : (cover more : ℕ → Option (List ℕ)) (n : ℕ) → ((i : ℕ) → cover i ≡ more i) → cost_below cover n ≡ cost_below more n
cost_same cover more n e = ap (λ c. cost_below c n) (fun_ext e)

-- the first of some leaves, and the others
pub times_cons : (m x : ℕ) (xs : List ℕ) → times_in m (x ∷ xs) ≡ one_if x m + times_in m xs
times_cons m x xs = sum_by-cons (λ l. one_if l m) x xs

pub times_head : (ms : List ℕ) (i : ℕ) → i < length ms → 1 ≤ times_in (get_or ms i 0) (drop i ms)
times_head ms i l =
    let all : times_in (get_or ms i 0) (drop i ms) ≡ one_if (get_or ms i 0) (get_or ms i 0) + times_in (get_or ms i 0) (drop (i + 1) ms) =
    ap (λ xs. times_in (get_or ms i 0) xs) (drop_more ms i 0 l) ∙ times_cons (get_or ms i 0) (get_or ms i 0) (drop (i + 1) ms) in
    let one : one_if (get_or ms i 0) (get_or ms i 0) ≡ 1 = rw (eq-eqb (get_or ms i 0) (get_or ms i 0) refl) refl in omega arith

pub each_more : (counts ms : List ℕ) (m : ℕ) → ((i : ℕ) → In ms i → i < length counts) → count_at (count_each counts ms) m ≡ count_at counts m + times_in m ms
each_more counts [] m inside = omega arith
each_more counts (x ∷ xs) m inside =
    let rest : count_at (count_each (count_one counts x) xs) m ≡ count_at (count_one counts x) m + times_in m xs = each_more (count_one counts x) xs m (λ i j. omega (arith, one_size counts x, inside i (inr j))) in
    let first : count_at (count_one counts x) m ≡ count_at counts m + one_if x m = one_more counts x m (inside x (inl refl)) in
    omega (arith, one_size counts x, times_cons m x xs)

pub each_size : (counts ms : List ℕ) → length (count_each counts ms) ≡ length counts
each_size counts [] = refl
each_size counts (x ∷ xs) = each_size (count_one counts x) xs ∙ one_size counts x

-- a cut names no leaf twice
times_none : (m : ℕ) (xs : List ℕ) → ((i : ℕ) → In xs i → m < i) → times_in m xs ≡ 0
times_none m [] above = refl
times_none m (x ∷ xs) above =
    let l : m < x = above x (inl refl) in
    let first : one_if x m ≡ 0 = rw (ne_eqb x m (λ e. omega arith)) refl in
    let rest : times_in m xs ≡ 0 = times_none m xs (λ i j. above i (inr j)) in
    let all : times_in m (x ∷ xs) ≡ one_if x m + times_in m xs = times_cons m x xs in omega arith

times_most : (m : ℕ) (xs : List ℕ) → IsAscending xs → times_in m xs ≤ 1
times_most m [] up = omega arith
times_most m (x ∷ xs) up =
    let all : times_in m (x ∷ xs) ≡ one_if x m + times_in m xs = times_cons m x xs in
    elim (cases_eq x m) [
      | inl e ↦ (
          let rest : times_in m xs ≡ 0 = times_none m xs (λ i j. subst (λ k. k < i) e (up.0 i j)) in
          let first : one_if x m ≤ 1 = choose_one (λ v. v ≤ 1) _ 1 0 (omega arith) (omega arith) in omega arith)
      | inr d ↦ (
          let first : one_if x m ≡ 0 = rw (ne_eqb x m d) refl in
          let rest : times_in m xs ≤ 1 = times_most m xs up.1 in omega arith)
    ]

module _ (g : Aig) (cover : ℕ → Option (List ℕ)) (leaves : AreLeaves g cover) where
  leaf_most : (m n : ℕ) (o : Option (List ℕ)) → cover n ≡ o → times_leaf m o ≤ 1
  leaf_most m n None e = omega arith
  leaf_most m n (Some c) e = times_most m c (leaves.ascending n c e)

  -- no node has more readers than there are nodes
  pub uses_most : (m n : ℕ) → uses_below cover m n ≤ n
  uses_most m zero = omega arith
  uses_most m (suc n) = let a : uses_below cover m n ≤ n = uses_most m n in let b : times_leaf m (cover n) ≤ 1 = leaf_most m n (cover n) refl in omega arith

  leaf_in : (n m : ℕ) (o : Option (List ℕ)) → cover n ≡ o → In (or_empty o) m → m < node_count g
  leaf_in n m None e i = absurd i
  leaf_in n m (Some c) e i = leaves.inside n m c e i

  pub leaf_inside : (n m : ℕ) → In (or_empty (cover n)) m → m < node_count g
  leaf_inside n m i = leaf_in n m (cover n) refl i

  times_of : (m : ℕ) (o : Option (List ℕ)) → times_in m (or_empty o) ≡ times_leaf m o
  times_of m None = refl
  times_of m (Some c) = refl

  pub used_room : (n m : ℕ) (counts : List ℕ) → AreUsed g cover n counts → m < node_count g → count_at counts m + times_in m (or_empty (cover n)) ≤ n + 1
  used_room n m counts u l =
      let a : count_at counts m ≡ uses_below cover m n = u.each m l in
      let b : uses_below cover m n ≤ n = uses_most m n in
      let c : times_in m (or_empty (cover n)) ≡ times_leaf m (cover n) = times_of m (cover n) in
      let d : times_leaf m (cover n) ≤ 1 = leaf_most m n (cover n) refl in omega arith

  pub used_next : (n : ℕ) (counts next : List ℕ) → AreUsed g cover n counts → next ≡ count_each counts (or_empty (cover n)) → AreUsed g cover (n + 1) next
  used_next n counts next u e =
      let size : length counts ≡ node_count g = u.size in
      subst (λ s. AreUsed g cover (n + 1) s) (sym e) (record {
        size = each_size counts (or_empty (cover n)) ∙ size;
        each = λ m l.
            let more : count_at (count_each counts (or_empty (cover n))) m ≡ count_at counts m + times_in m (or_empty (cover n)) = each_more counts (or_empty (cover n)) m (λ i j. let b : i < node_count g = leaf_inside n i j in omega arith) in
            let here : count_at counts m ≡ uses_below cover m n = u.each m l in
            let times : times_in m (or_empty (cover n)) ≡ times_leaf m (cover n) = times_of m (cover n) in
            let suc_is : n + 1 ≡ suc n = omega arith in
            let all : count_at (count_each counts (or_empty (cover n))) m ≡ uses_below cover m (suc n) = omega arith in
            all ∙ ap (λ k. uses_below cover m k) (sym suc_is);
      })

pub cost_next : (cover : ℕ → Option (List ℕ)) (n : ℕ) → cost_below cover (n + 1) ≡ cost_below cover n + price (cover n)
cost_next cover n = let f : n + 1 ≡ suc n = omega arith in ap (λ i. cost_below cover i) f

pub least_capped : (flows : List ℕ) (cs : List (List ℕ)) → least_flow flows cs ≤ MOST_FLOW
least_capped flows [] = omega arith
least_capped flows (c ∷ cs) = let a : least_flow flows cs ≤ MOST_FLOW = least_capped flows cs in omega arith

node_capped : (g : Aig) (scope : Scope) (label : ℕ → ℕ) (rows : List (List (List ℕ))) (fans : ℕ → ℕ) (flows : List ℕ) (n : ℕ) → node_flow g scope label rows fans flows n ≤ MOST_FLOW
node_capped g scope label rows fans flows n =
    choose (λ v. v ≤ MOST_FLOW) (ltb n (first_and g)) 0 (least_flow flows (allowed_row scope label (label n) (row_at rows n)) / max 1 (fans n)) (λ _. omega arith)
    (λ _. let a : least_flow flows (allowed_row scope label (label n) (row_at rows n)) ≤ MOST_FLOW = least_capped flows (allowed_row scope label (label n) (row_at rows n)) in
    let b : least_flow flows (allowed_row scope label (label n) (row_at rows n)) / max 1 (fans n) ≤ least_flow flows (allowed_row scope label (label n) (row_at rows n)) = div-le_self (least_flow flows (allowed_row scope label (label n) (row_at rows n))) (max 1 (fans n)) in omega arith)

pub capped_push : (flows : List ℕ) (flow : ℕ) → AreCapped flows → flow ≤ MOST_FLOW → AreCapped (flows ++ flow ∷ [])
capped_push flows flow a l m =
    elim (cases_lt m (length flows)) [
      | inl b ↦ subst (λ v. v ≤ MOST_FLOW) (sym (get_or_append_left flows (flow ∷ []) 0 m b)) (a m)
      | inr b ↦ elim (cases_lt (length flows) m) [
        | inl past ↦ (let long : length (flows ++ flow ∷ []) ≡ length flows + 1 = length_push flows flow in
            let zero_is : flow_at (flows ++ flow ∷ []) m ≡ 0 = get_or_past (flows ++ flow ∷ []) m 0 (omega arith) in omega arith)
        | inr here ↦ (let at : flow_at (flows ++ flow ∷ []) m ≡ flow = get_or_push flows flow 0 m (let e : length flows ≡ m = omega arith in e) in omega arith)
      ]
    ]

module _ (g : Aig) (scope : Scope) (label : ℕ → ℕ) (rows : List (List (List ℕ))) (fans : ℕ → ℕ) where
  flows_long : (k : ℕ) → length (flows_below g scope label rows fans k) ≡ k
  flows_long zero = refl
  flows_long (suc k) = length_push (flows_below g scope label rows fans k) (node_flow g scope label rows fans (flows_below g scope label rows fans k) k) ∙ (let e : length (flows_below g scope label rows fans k) ≡ k = flows_long k in let f : length (flows_below g scope label rows fans k) + 1 ≡ suc k = omega arith in f)

  pub flows_capped : (k : ℕ) → AreCapped (flows_below g scope label rows fans k)
  flows_capped zero m = omega arith
  flows_capped (suc k) m = capped_push (flows_below g scope label rows fans k) (node_flow g scope label rows fans (flows_below g scope label rows fans k) k) (flows_capped k) (node_capped g scope label rows fans (flows_below g scope label rows fans k) k) m

  -- the flow of a node is that over the flows below it
  pub flow_is : (k n : ℕ) → n < k → flow_at (flows_below g scope label rows fans k) n ≡ node_flow g scope label rows fans (flows_below g scope label rows fans n) n
  flow_is zero n l = absurd (omega arith)
  flow_is (suc k) n l =
      let below : List ℕ = flows_below g scope label rows fans k in
      let long : length below ≡ k = flows_long k in
      elim (cases_lt n k) [
        | inl b ↦ get_or_append_left below (node_flow g scope label rows fans below k ∷ []) 0 n (omega arith) ∙ flow_is k n b
        | inr b ↦ (let same : n ≡ k = omega arith in
            get_or_push below (node_flow g scope label rows fans below k) 0 n (let e : length below ≡ n = omega arith in e) ∙ ap (λ i. node_flow g scope label rows fans (flows_below g scope label rows fans i) i) (sym same))
      ]

  -- a source has no flow, nor has what is no node
  pub source_free : (k n : ℕ) → n < first_and g → flow_at (flows_below g scope label rows fans k) n ≡ 0
  source_free k n s =
      elim (cases_lt n k) [
        | inl l ↦ flow_is k n l ∙ choose (λ v. v ≡ 0) (ltb n (first_and g)) 0 (least_flow (flows_below g scope label rows fans n) (allowed_row scope label (label n) (row_at rows n)) / max 1 (fans n)) (λ _. refl)
            (λ t. absurd (let a : first_and g ≤ n = ltb-false n (first_and g) t in omega arith))
        | inr l ↦ get_or_past (flows_below g scope label rows fans k) n 0 (let e : length (flows_below g scope label rows fans k) ≡ k = flows_long k in omega arith)
      ]

pub node_same : (g : Aig) (scope : Scope) (label : ℕ → ℕ) (rows : List (List (List ℕ))) (fans more : ℕ → ℕ) (flows : List ℕ) (n : ℕ) → fans n ≡ more n → node_flow g scope label rows fans flows n ≡ node_flow g scope label rows more flows n
node_same g scope label rows fans more flows n e =
    choose_both (λ x y. x ≡ y) (ltb n (first_and g)) 0 (least_flow flows (allowed_row scope label (label n) (row_at rows n)) / max 1 (fans n)) 0 (least_flow flows (allowed_row scope label (label n) (row_at rows n)) / max 1 (more n)) refl (ap (λ i. least_flow flows (allowed_row scope label (label n) (row_at rows n)) / max 1 i) e)

pub flows_same : (g : Aig) (scope : Scope) (label : ℕ → ℕ) (rows : List (List (List ℕ))) (counts more : ℕ → ℕ) (k : ℕ) → ((n : ℕ) → n < k → counts n ≡ more n) → flows_below g scope label rows counts k ≡ flows_below g scope label rows more k
flows_same g scope label rows counts more zero e = refl
flows_same g scope label rows counts more (suc k) e =
    ap (λ fs. fs ++ node_flow g scope label rows counts fs k ∷ []) (flows_same g scope label rows counts more k (λ n l. e n (omega arith)))
    ∙ ap (λ x. flows_below g scope label rows more k ++ x ∷ []) (node_same g scope label rows counts more (flows_below g scope label rows more k) k (e k (omega arith)))

-- flows fit: they are capped, and only AND nodes have any
pub flows_fit : (g : Aig) (scope : Scope) (label : ℕ → ℕ) (rows : List (List (List ℕ))) (counts : ℕ → ℕ) → AreFlows g (flows_below g scope label rows counts (node_count g))
flows_fit g scope label rows counts = record {
  capped = flows_capped g scope label rows counts (node_count g);
  sources = source_free g scope label rows counts (node_count g);
  past = λ n l. get_or_past (flows_below g scope label rows counts (node_count g)) n 0 (omega (arith, flows_long g scope label rows counts (node_count g)));
}

pub no_flows_fit : (g : Aig) → AreFlows g []
no_flows_fit g = record { capped = λ m. omega arith; sources = λ m l. refl; past = λ m l. refl }

-- the least flow with one more cut, that is allowed or not
allowed_if : (flows : List ℕ) (b : Bool) (c : List ℕ) (cs : List (List ℕ)) → least_flow flows cs ≤ MOST_FLOW → least_flow flows (cond b cs (c ∷ cs)) ≡ min (cond b MOST_FLOW (cut_flow flows c)) (least_flow flows cs)
allowed_if flows true c cs l = omega (arith, l)
allowed_if flows false c cs l = refl

allowed_more : (scope : Scope) (label : ℕ → ℕ) (n : ℕ) (flows c : List ℕ) (cs : List (List ℕ)) → least_flow flows (allowed_row scope label (label n) (c ∷ cs)) ≡ min (allowed_flow scope label n flows c) (least_flow flows (allowed_row scope label (label n) cs))
allowed_more AnyHeight label n flows c cs = refl
allowed_more LeastHeight label n flows c cs = allowed_if flows (ltb (label n) (height label c)) c (cuts_within label (label n) cs) (least_capped flows (cuts_within label (label n) cs))

pub allowed_next : (scope : Scope) (label : ℕ → ℕ) (n : ℕ) (flows : List ℕ) (row : List (List ℕ)) (i least whole cost next : ℕ) → i < length row → min least (least_flow flows (allowed_row scope label (label n) (drop i row))) ≡ whole → cost ≡ allowed_flow scope label n flows (get_or row i []) → next ≡ min least cost
    → min next (least_flow flows (allowed_row scope label (label n) (drop (i + 1) row))) ≡ whole
allowed_next scope label n flows row i least whole cost next l e is low =
    let rest : least_flow flows (allowed_row scope label (label n) (drop i row)) ≡ min (allowed_flow scope label n flows (get_or row i [])) (least_flow flows (allowed_row scope label (label n) (drop (i + 1) row))) =
    ap (λ cs. least_flow flows (allowed_row scope label (label n) cs)) (drop_more row i [] l) ∙ allowed_more scope label n flows (get_or row i []) (drop (i + 1) row) in
    omega arith

allowed_none : (scope : Scope) (label : ℕ → ℕ) (n : ℕ) → allowed_row scope label (label n) [] ≡ []
allowed_none AnyHeight label n = refl
allowed_none LeastHeight label n = refl

pub allowed_end : (scope : Scope) (label : ℕ → ℕ) (n : ℕ) (flows : List ℕ) (row : List (List ℕ)) (i least whole : ℕ) → length row ≤ i → least ≤ MOST_FLOW → min least (least_flow flows (allowed_row scope label (label n) (drop i row))) ≡ whole → least ≡ whole
allowed_end scope label n flows row i least whole l capped e =
    let rest : least_flow flows (allowed_row scope label (label n) (drop i row)) ≡ MOST_FLOW =
    ap (λ cs. least_flow flows (allowed_row scope label (label n) cs)) (drop_all i row l) ∙ ap (λ cs. least_flow flows cs) (allowed_none scope label n) in
    omega arith

-- what is no node has no readers
read_none : (m : ℕ) (ps : List Pair) → ((i : ℕ) (p : Pair) → slice_get ps i ≡ Some p → (p.x.0 / 2 < m) × (p.y.0 / 2 < m)) → sum_by (times_read m) ps ≡ 0
read_none m [] below = refl
read_none m (p ∷ ps) below =
    let b = below 0 p refl in
    let x : one_if (p.x.0 / 2) m ≡ 0 = rw (ne_eqb (p.x.0 / 2) m (λ e. omega (arith, b.0))) refl in
    let y : one_if (p.y.0 / 2) m ≡ 0 = rw (ne_eqb (p.y.0 / 2) m (λ e. omega (arith, b.1))) refl in
    omega (arith, sum_by-cons (times_read m) p ps, read_none m ps (λ i q e. below (suc i) q e))

fan_out_past : (g : Aig) → AreNormal (first_and g) g.pairs → (m : ℕ) → node_count g ≤ m → fan_out g m ≡ 0
fan_out_past g normal m past = read_none m g.pairs (λ i p e.
    let n = normal.each i p e in
    let inside : i < length g.pairs = slice_get_within g.pairs i p e in
    let x : p.x.0 / 2 < p.y.0 / 2 = n.ordered in
    let y : p.y.0 / 2 < first_and g + i = n.below in
    (omega arith, omega arith))

-- counted fan-outs as a function
pub counts_are : (g : Aig) → AreNormal (first_and g) g.pairs → (counts : List ℕ) → AreCounted g (node_count g) counts → count_at counts ≡ fan_out g
counts_are g normal counts a = fun_ext (λ m. elim (cases_lt m (node_count g)) [
  | inl l ↦ counted_all g counts a m l
  | inr past ↦ get_or_past counts m 0 (omega (arith, a.size)) ∙ sym (fan_out_past g normal m past)
])

times_out : (m : ℕ) (xs : List ℕ) → ((i : ℕ) → In xs i → i < m) → times_in m xs ≡ 0
times_out m [] below = refl
times_out m (x ∷ xs) below =
    let l : x < m = below x (inl refl) in
    let first : one_if x m ≡ 0 = rw (ne_eqb x m (λ e. omega arith)) refl in
    omega (arith, times_cons m x xs, times_out m xs (λ i j. below i (inr j)))

module _ (g : Aig) (cover : ℕ → Option (List ℕ)) (leaves : AreLeaves g cover) where
  leaf_past : (m n : ℕ) (o : Option (List ℕ)) → node_count g ≤ m → cover n ≡ o → times_leaf m o ≡ 0
  leaf_past m n None past e = refl
  leaf_past m n (Some c) past e = times_out m c (λ i j. omega (arith, leaves.inside n i c e j))

  uses_past : (m n : ℕ) → node_count g ≤ m → uses_below cover m n ≡ 0
  uses_past m zero past = refl
  uses_past m (suc n) past = omega (arith, uses_past m n past, leaf_past m n (cover n) past refl)

  -- counted uses as a function
  pub used_are : (counts : List ℕ) → AreUsed g cover (node_count g) counts → count_at counts ≡ uses g cover
  used_are counts u = fun_ext (λ m. elim (cases_lt m (node_count g)) [
    | inl l ↦ u.each m l
    | inr past ↦ get_or_past counts m 0 (omega (arith, u.size)) ∙ sym (uses_past m (node_count g) past)
  ])

-- the nodes that have a cut as a function
pub needed_are : (g : Aig) (cuts : List (Option (List ℕ))) (needed : List Bool) → length cuts ≡ node_count g → length needed ≡ node_count g → ((m : ℕ) → m < node_count g → favoured_in needed m ≡ has_cut (cut_at cuts m)) → favoured_in needed ≡ (λ m. has_cut (cut_at cuts m))
needed_are g cuts needed long size each = fun_ext (λ m. elim (cases_lt m (node_count g)) [
  | inl l ↦ each m l
  | inr past ↦ get_or_past needed m false (omega arith) ∙ ap has_cut (sym (get_or_past cuts m None (omega arith)))
])
