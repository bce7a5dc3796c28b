-- What blocks a node: the ends do, and so does what a blocked search has met and not passed, which is no more than there are paths.
use Rattle.flow_label.proofs.Common.{◌≡◌, ℕ, zero, suc, cond, ltb, take, slice_get-get_or, ◌+◌, ◌<◌, ◌≤◌, Bool, true, false, List, [], ◌∷◌, ◌++◌, length, get_or, map, refl, sym, ap, ◌∙◌, subst, inl, inr, eqb, arith, length-append, eqb-true, eqb-false, cases_lt, cases_Bool, source_below, IsAnd, In, Within, IsAscending, Blocks, member, AreApart, joined_apart, apart_short, In-append, In-map, In-place, from_map, union, ascending_of, unmarked, IsLowCut, FlowNet, IsInner, IsUpper, IsEnd, IsNet, IsOpen, IsTight, IsLive, IsFanIn, AreReaders, AreEnds, IsChoice, HasChosen, IsLinked, IsHandedOn, AreMet, ArePassed, SiteValue, net_of, owner_in, AreLinks, IsBlocked, label_at, rules, append-nil, drop, not, not-true, length-map, length-filter_both, filter, filtered_apart, In-filter, in_filter, drop_get, drop_past, put, In-union, union_left, IsAscending-union}
use Rattle.std.proofs.lemmas.List.Elements.{filter_more}
use Rattle.flow_label.proofs.OnceLemmas.{ascending_apart}
use Rattle.flow_label.proofs.GraphLemmas.{blocks_by_live, fan_in_below, live_pos, live_leaf}
use Rattle.flow_label.proofs.LinkLemmas.{inner_pos}

-- numbers that have different images
pub mapped_apart : (f back : ℕ → ℕ) (us : List ℕ) → AreApart us → ((u : ℕ) → In us u → back (f u) ≡ u) → AreApart (map f us)
mapped_apart f back [] d is = tt
mapped_apart f back (u ∷ us) d is = grind (arith, from_map, mapped_apart f back us d.1 (λ v i. is v (inr i)))

module _ (net : FlowNet) (is : IsNet net) (readers : AreReaders net) (c : List ℕ) (by_ends : (u : ℕ) → IsEnd net u → Blocks net.graph c u) where
  upper_and : (v : ℕ) → IsUpper net v → IsAnd net.graph v
  upper_and v (inl e) = subst (λ x. IsAnd net.graph x) (sym e) is.and
  upper_and v (inr u) = search (rules, source_below)

  upper_below : (v : ℕ) → IsUpper net v → v ≤ net.node
  upper_below v (inl e) = omega arith
  upper_below v (inr u) = let b : v < net.node = (readers.met v u.0).below in omega arith

  -- what blocks all ends blocks all upper nodes
  upper_blocked : (b v : ℕ) → v < b → IsUpper net v → Blocks net.graph c v
  upper_blocked zero v l u = absurd (omega arith)
  upper_blocked (suc b) v l u =
      blocks_by_live net.graph net.label c v net.node is.normal is.known (upper_below v u) (upper_and v u)
      (λ x f live. let below : x < v = fan_in_below net.graph x v is.normal f in
      let met : 0 < net.reader x = readers.all x v u f live in
      elim (cases_lt (net.label x + 1) net.height) [
        | inl low ↦ by_ends x (record { met = met; low = low })
        | inr deep ↦ upper_blocked b x (omega arith) (inr (met, deep))
      ])

  -- and so the node
  pub node_blocked : Blocks net.graph c net.node
  node_blocked = upper_blocked (suc net.node) net.node (omega arith) (inl refl)

-- The ends are a low cut, where they are few.
pub ends_cut : (net : FlowNet) → IsNet net → AreReaders net → (k : ℕ) (ends : List ℕ) → AreEnds net ends → length (ascending_of ends) ≤ k → IsLowCut net.graph k net.node net.height net.label (ascending_of ends)
ends_cut net is readers k ends are few =
    let end_of : (m : ℕ) → In (union ends []) m → IsEnd net m = (λ m i. elim (In-union ends [] m i) [ inl j ↦ are.only m j | inr b ↦ absurd b ]) in
    record {
      cut = record {
        ascending = IsAscending-union ends [] tt;
        few = few;
        below = λ m i. let r = readers.met m (end_of m i).met in (r.below, live_leaf net.graph net.label m r.live);
        blocks = node_blocked net is readers (union ends []) (λ u e. member (union_left ends [] u (are.all u e)));
      };
      low = λ m i. (end_of m i).low;
    }

module _ (net : FlowNet) (is : IsNet net) (owner chosen : ℕ → ℕ) (count : ℕ) (k : IsLinked net 0 owner chosen count) (queue backs marks : List ℕ) (met : AreMet net owner queue backs)
    (ends : (u : ℕ) → IsEnd net u → In queue u) (handed : (u : ℕ) → In queue u → IsHandedOn net owner queue u) (passes : ArePassed net owner queue [] marks) (tight : IsTight net owner queue) (readers : AreReaders net) where
  -- does the node own it, or another one
  abbrev own : ℕ → Bool
  own u = eqb (owner u) net.node

  abbrev other : ℕ → Bool
  other u = not (own u)

  abbrev fresh : ℕ → Bool
  fresh u = eqb (get_or marks u 0) 0

  -- the inner nodes that the search passed
  abbrev passed : List ℕ
  passed = map owner (filter other queue)

  -- the nodes that were met, but not passed
  abbrev barrier : List ℕ
  barrier = ascending_of (unmarked marks queue)

  not_zero : (u : ℕ) → In queue u → u ≡ 0 → ⊥
  not_zero u i e = let p : 0 < u = live_pos net.graph net.label u (met.nodes u i).1.live in absurd (omega arith)

  not_own : (u : ℕ) → other u ≡ true → owner u ≡ net.node → ⊥
  not_own u o = eqb-false (owner u) net.node (not-true (own u) o)

  chose : (u : ℕ) → In queue u → (owner u ≡ net.node → ⊥) → HasChosen net chosen (owner u) u
  chose u i ne = elim (handed u i) [
    | inl e ↦ absurd (ne e)
    | inr h ↦ elim (k.owned u (not_zero u i) (inner_pos net (owner u) h.0)) [ inl e ↦ absurd (ne e.0) | inr c ↦ c ]
  ]

  passed_apart : AreApart passed
  passed_apart = mapped_apart owner chosen (filter other queue) (filtered_apart other queue met.once) (λ u i. let f = In-filter other queue u i in (chose u f.0 (not_own u f.1)).is)

  passed_handed : (a : ℕ) → In passed a → IsInner net a × ((m : ℕ) → IsChoice net a m → In queue m)
  passed_handed a i =
      let r = from_map owner (filter other queue) a i in
      elim (handed r.0 (In-filter other queue r.0 r.1).0) [ inl e ↦ absurd (not_own r.0 (In-filter other queue r.0 r.1).1 e) | inr h ↦ subst (λ x. IsInner net x × ((m : ℕ) → IsChoice net x m → In queue m)) (sym r.2) h ]

  -- live nodes that they read are open
  passed_open : (a m : ℕ) → In passed a → IsFanIn net.graph m a → IsLive net.graph net.label m → IsOpen net m
  passed_open a m i f live =
      let r = from_map owner (filter other queue) a i in
      tight.passed r.0 m (In-filter other queue r.0 r.1).0 (subst (λ x. IsInner net x) r.2 (passed_handed a i).0) (subst (λ x. IsFanIn net.graph m x) r.2 f) live

  passed_met : Within passed queue
  passed_met a i = (passed_handed a i).1 a (inl refl)

  -- a node is passed where it has a mark
  passed_mark : (a : ℕ) → In passed a → 0 < get_or marks a 0
  passed_mark a i =
      let r = from_map owner (filter other queue) a i in
      let p = In-place queue r.0 (In-filter other queue r.0 r.1).0 in
      elim (passes.all p.0 p.1) [
        | inl b ↦ absurd b
        | inr q ↦ elim q [
          | inl e ↦ absurd (not_own r.0 (In-filter other queue r.0 r.1).1 (sym (ap owner p.2) ∙ e))
          | inr m ↦ subst (λ x. 0 < get_or marks x 0) (ap owner p.2 ∙ sym r.2) m
        ]
      ]

  other_own : (u : ℕ) → (owner u ≡ net.node → ⊥) → other u ≡ true
  other_own u ne = elim (cases_Bool (own u)) [ inl t ↦ absurd (ne (eqb-true (owner u) net.node t)) | inr f ↦ ap not f ]

  mark_passed : (a : ℕ) → 0 < get_or marks a 0 → In passed a
  mark_passed a p =
      let r = passes.only a p in
      let ne : owner r.0 ≡ net.node → ⊥ = (λ e. let b : a < net.node = r.3 in let q : owner r.0 ≡ a = r.2 in absurd (omega arith)) in
      subst (λ x. In passed x) r.2 (In-map owner (filter other queue) r.0 (in_filter other queue r.0 r.1 (other_own r.0 ne)))

  barrier_in : (m : ℕ) → In barrier m → In queue m × (In passed m → ⊥)
  barrier_in m i = elim (In-union (unmarked marks queue) [] m i) [
    | inl j ↦ (let f = In-filter fresh queue m j in (f.0, (λ p. let z : get_or marks m 0 ≡ 0 = eqb-true (get_or marks m 0) 0 f.1 in let q : 0 < get_or marks m 0 = passed_mark m p in absurd (omega arith))))
    | inr b ↦ absurd b
  ]

  barrier_ascending : IsAscending barrier
  barrier_ascending = IsAscending-union (unmarked marks queue) [] tt

  -- there are no more of them than paths
  pub barrier_few : length barrier ≤ count
  barrier_few =
      let both : AreApart (barrier ++ passed) = joined_apart barrier passed (ascending_apart barrier barrier_ascending) passed_apart (λ m i j. (barrier_in m i).1 j) in
      let part : Within (barrier ++ passed) queue = (λ m i. elim (In-append barrier passed m i) [ inl j ↦ (barrier_in m j).0 | inr j ↦ passed_met m j ]) in
      let e : length (filter own queue) ≤ length k.ends = apart_short (filter own queue) k.ends (filtered_apart own queue met.once) (λ u i. let f = In-filter own queue u i in k.all_ends u (not_zero u f.0) (eqb-true (owner u) net.node f.1)) in
      omega (arith, length-filter_both own other (λ u. refl) queue, apart_short (barrier ++ passed) queue both part, length-append barrier passed, length-map (filter other queue) owner, k.count_ends)

  fresh_mark : (m : ℕ) → get_or marks m 0 ≡ 0 → fresh m ≡ true
  fresh_mark m z = elim (cases_Bool (fresh m)) [ inl t ↦ t | inr f ↦ absurd (eqb-false (get_or marks m 0) 0 f z) ]

  -- they block all that was met
  met_blocked : (b m : ℕ) → m < b → In queue m → Blocks net.graph barrier m
  met_blocked zero m l i = absurd (omega arith)
  met_blocked (suc b) m l i = elim (cases_lt 0 (get_or marks m 0)) [
    | inr f ↦ member (union_left (unmarked marks queue) [] m (in_filter fresh queue m i (fresh_mark m (omega arith))))
    | inl t ↦ (let p = passed_handed m (mark_passed m t) in
        blocks_by_live net.graph net.label barrier m net.node is.normal is.known (omega arith) p.0.and
        (λ x f live. let below : x < m = fan_in_below net.graph x m is.normal f in met_blocked b x (omega arith) (p.1 x (inr (f, passed_open m x (mark_passed m t) f live)))))
  ]

  -- So they are a low cut, where there are few paths.
  pub barrier_cut : (most : ℕ) → count ≤ most → IsLowCut net.graph most net.node net.height net.label barrier
  barrier_cut most few = record {
    cut = record {
      ascending = barrier_ascending;
      few = (let l : length barrier ≤ count = barrier_few in omega arith);
      below = λ m i. let q = met.nodes m (barrier_in m i).0 in (q.0, live_leaf net.graph net.label m q.1.live);
      blocks = node_blocked net is readers barrier (λ u e. met_blocked (suc u) u (omega arith) (ends u e));
    };
    low = λ m i. (met.nodes m (barrier_in m i).0).2;
  }

-- what a blocked search of a site has found
pub blocked_few : (site : SiteValue) (owners starts queue backs marks : List ℕ) → IsNet (net_of site) → AreReaders (net_of site) → AreLinks site owners starts → IsBlocked site owners queue backs marks → IsTight (net_of site) (owner_in site owners) queue → length (ascending_of (unmarked marks queue)) ≤ length starts
blocked_few site owners starts queue backs marks is readers links b tight =
    barrier_few (net_of site) is (owner_in site owners) links.chosen (length starts) links.routed.linked queue backs marks b.met (λ u e. b.ends u e (tight.ends u e)) b.handed b.passed_are tight readers

pub blocked_cut : (site : SiteValue) (owners starts queue backs marks : List ℕ) (k : ℕ) → IsNet (net_of site) → AreReaders (net_of site) → AreLinks site owners starts → IsBlocked site owners queue backs marks → IsTight (net_of site) (owner_in site owners) queue → length starts ≤ k
    → IsLowCut site.graph k site.node site.height (label_at site.labels) (ascending_of (unmarked marks queue))
blocked_cut site owners starts queue backs marks k is readers links b tight few =
    barrier_cut (net_of site) is (owner_in site owners) links.chosen (length starts) links.routed.linked queue backs marks b.met (λ u e. b.ends u e (tight.ends u e)) b.handed b.passed_are tight readers k few

-- a list is no shorter with more elements
put_longer : (x : ℕ) (ys : List ℕ) → length ys ≤ length (put x ys)
put_longer x [] = omega arith
put_longer x (y ∷ ys) = grind (arith, ltb, cond, eqb, put_longer x ys)

union_longer : (xs ys : List ℕ) → length ys ≤ length (union xs ys)
union_longer [] ys = omega arith
union_longer (x ∷ xs) ys = let a : length ys ≤ length (put x ys) = put_longer x ys in let b : length (put x ys) ≤ length (union xs (put x ys)) = union_longer xs (put x ys) in omega arith

-- one more node of a cut
pub cut_more : (nodes cut larger one : List ℕ) (i : ℕ) → i < length nodes → one ≡ get_or nodes i 0 ∷ [] → larger ≡ union one cut → union (drop i nodes) cut ≡ ascending_of nodes → union (drop (i + 1) nodes) larger ≡ ascending_of nodes
cut_more nodes cut larger one i l o u rest =
    ap (λ x. union (drop (i + 1) nodes) x) (u ∙ ap (λ x. union x cut) o) ∙ (ap (λ x. union x cut) (sym (drop_get nodes i (get_or nodes i 0) (slice_get-get_or nodes i 0 l))) ∙ rest)

-- with it the cut is too large
pub cut_over : (nodes cut one : List ℕ) (i k : ℕ) → i < length nodes → one ≡ get_or nodes i 0 ∷ [] → k < length (union one cut) → union (drop i nodes) cut ≡ ascending_of nodes → k < length (ascending_of nodes)
cut_over nodes cut one i k l o over rest =
    let e : union (drop (i + 1) nodes) (union one cut) ≡ ascending_of nodes = cut_more nodes cut (union one cut) one i l o refl rest in
    omega (arith, union_longer (drop (i + 1) nodes) (union one cut), ap length e)

-- all nodes are in the cut
pub cut_all : (nodes cut : List ℕ) (i : ℕ) → length nodes ≤ i → union (drop i nodes) cut ≡ ascending_of nodes → cut ≡ ascending_of nodes
cut_all nodes cut i l rest = ap (λ x. union x cut) (sym (drop_past nodes i l)) ∙ rest

-- one more node that has no mark, or has one
pub kept_more : (marks queue kept kept' : List ℕ) (i : ℕ) → i < length queue → get_or marks (get_or queue i 0) 0 ≡ 0 → kept ≡ unmarked marks (take i queue) → kept' ≡ kept ++ get_or queue i 0 ∷ [] → kept' ≡ unmarked marks (take (i + 1) queue)
kept_more marks queue kept kept' i l none was more =
    more ∙ (ap (λ x. x ++ get_or queue i 0 ∷ []) was ∙ sym (filter_more (λ u. eqb (get_or marks u 0) 0) queue i 0 l
    ∙ ap (λ z. filter (λ u. eqb (get_or marks u 0) 0) (take i queue) ++ cond (eqb z 0) (get_or queue i 0 ∷ []) []) none))

pub passed_more : (marks queue kept : List ℕ) (i : ℕ) → i < length queue → (get_or marks (get_or queue i 0) 0 ≡ 0 → ⊥) → kept ≡ unmarked marks (take i queue) → kept ≡ unmarked marks (take (i + 1) queue)
passed_more marks queue kept i l some was =
    let no : eqb (get_or marks (get_or queue i 0) 0) 0 ≡ false = elim (cases_Bool (eqb (get_or marks (get_or queue i 0) 0) 0)) [ inl t ↦ absurd (some (eqb-true (get_or marks (get_or queue i 0) 0) 0 t)) | inr f ↦ f ] in
    was ∙ sym (filter_more (λ u. eqb (get_or marks u 0) 0) queue i 0 l
    ∙ (ap (λ b. filter (λ u. eqb (get_or marks u 0) 0) (take i queue) ++ cond b (get_or queue i 0 ∷ []) []) no ∙ append-nil (unmarked marks (take i queue))))
