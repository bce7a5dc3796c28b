-- The search, step by step.
use Rattle.flow_label.proofs.Common.{◌≡◌, ℕ, ◌+◌, ◌-◌, ◌<◌, ◌≤◌, Bool, true, false, List, [], ◌∷◌, ◌++◌, length, get_or, set, refl, sym, ap, ◌∙◌, subst, inl, inr, ◌⊎◌, arith, length-append, get_or-set_other, get_or-set_same, length-set, cases_eq, cases_lt, get_or_push, get_or-append, node_count, In, In-append, In-get_or, In-left, In-right, In-push, IsOpen, IsFanIn, pushed_apart, FlowNet, IsLow, IsInner, IsEnd, IsNet, IsChoice, IsLinked, ComesFrom, IsHandedOn, AreMet, IsSearching, Extends, zeros, length-replicate, rules, false≢true}
use Rattle.flow_label.specs.Search.{HasMet, free, old, end, new}
use Rattle.flow_label.proofs.GraphLemmas.{fan_in_below, live_inside, live_pos}
use Rattle.flow_label.proofs.OnceLemmas.{once_few}
use Rattle.flow_label.proofs.StampLemmas.{zero_at}

-- all choices that were met are met still
handed_more : (net : FlowNet) (owner : ℕ → ℕ) (queue queue' : List ℕ) (u : ℕ) → ((x : ℕ) → In queue x → In queue' x) → IsHandedOn net owner queue u → IsHandedOn net owner queue' u
handed_more net owner queue queue' u part (inl e) = inl e
handed_more net owner queue queue' u part (inr h) = inr (h.0, (λ m c. part m (h.1 m c)))

-- what was met stays in its place
pub extends_same : (queue : List ℕ) → Extends queue queue
extends_same queue = record { kept = λ x i. i; same = λ j l. refl; longer = omega arith }

pub extends_push : (queue : List ℕ) (m : ℕ) → Extends queue (queue ++ m ∷ [])
extends_push queue m = record {
  kept = λ x i. In-left queue (m ∷ []) x i;
  same = λ j l. get_or-append queue (m ∷ []) 0 j l;
  longer = (let a : length (queue ++ m ∷ []) ≡ length queue + 1 = length-append queue (m ∷ []) in omega arith);
}

pub extends_twice : (a b c : List ℕ) → Extends a b → Extends b c → Extends a c
extends_twice a b c e f = search rules

-- a search meets no more nodes than there are
pub met_short : (net : FlowNet) (owner : ℕ → ℕ) (queue backs : List ℕ) → AreMet net owner queue backs → length queue ≤ net.node
met_short net owner queue backs s = once_few queue net.node s.once (λ m i. (s.nodes m i).0)

module _ (net : FlowNet) (owner : ℕ → ℕ) where
  -- places that are as before
  comes_same : (queue queue' : List ℕ) (back back' j : ℕ) → back' ≡ back → ((i : ℕ) → i ≤ j → get_or queue' i 0 ≡ get_or queue i 0) → ComesFrom net owner queue back j → ComesFrom net owner queue' back' j
  comes_same queue queue' back back' j e same c =
      subst (λ b. ComesFrom net owner queue' b j) (sym e) (record {
        end = λ z. subst (λ x. IsEnd net x) (sym (same j (omega arith))) (c.end z);
        earlier = c.earlier;
        inner = λ p. subst (λ x. IsInner net (owner x)) (sym (same (back - 1) (omega (arith, c.earlier)))) (c.inner p);
        choice = λ p. subst (λ x. IsChoice net (owner x) (get_or queue' j 0)) (sym (same (back - 1) (omega (arith, c.earlier)))) (subst (λ x. IsChoice net (owner (get_or queue (back - 1) 0)) x) (sym (same j (omega arith))) (c.choice p));
      })

  -- a choice of the owner of a place comes from there
  pub comes_choice : (queue : List ℕ) (place a m : ℕ) → place < length queue → owner (get_or queue place 0) ≡ a → IsInner net a → IsChoice net a m → ComesFrom net owner (queue ++ m ∷ []) (place + 1) (length queue)
  comes_choice queue place a m inside is inner choice =
      let before : get_or (queue ++ m ∷ []) (place + 1 - 1) 0 ≡ get_or queue place 0 = ap (λ i. get_or (queue ++ m ∷ []) i 0) (let q : place + 1 - 1 ≡ place = omega arith in q) ∙ get_or-append queue (m ∷ []) 0 place inside in
      let owns : owner (get_or (queue ++ m ∷ []) (place + 1 - 1) 0) ≡ a = ap owner before ∙ is in
      record {
        end = λ z. absurd (omega arith);
        earlier = omega arith;
        inner = λ p. subst (λ x. IsInner net x) (sym owns) inner;
        choice = λ p. subst (λ x. IsChoice net x (get_or (queue ++ m ∷ []) (length queue) 0)) (sym owns) (subst (λ x. IsChoice net a x) (sym (get_or_push queue m 0 (length queue) refl)) choice);
      }

  -- an end comes from nowhere
  pub comes_end : (queue : List ℕ) (m : ℕ) → IsEnd net m → ComesFrom net owner (queue ++ m ∷ []) 0 (length queue)
  comes_end queue m e = search (rules, get_or_push)

  -- one more node that was met
  met_push : (queue backs : List ℕ) (m back : ℕ) → AreMet net owner queue backs → (m < net.node) × IsOpen net m × IsLow net m → (In queue m → ⊥) → ComesFrom net owner (queue ++ m ∷ []) back (length queue) → AreMet net owner (queue ++ m ∷ []) (backs ++ back ∷ [])
  met_push queue backs m back k node fresh from =
      let len : length (queue ++ m ∷ []) ≡ length queue + 1 = length-append queue (m ∷ []) in
      let more : length (backs ++ back ∷ []) ≡ length backs + 1 = length-append backs (back ∷ []) in
      record {
        once = pushed_apart queue m k.once fresh;
        nodes = λ u i. elim (In-push queue m u i) [ inl j ↦ k.nodes u j | inr e ↦ subst (λ x. (x < net.node) × IsOpen net x × IsLow net x) (sym e) node ];
        count = omega arith;
        whence = λ j l. elim (cases_lt j (length queue)) [
          | inl o ↦ comes_same queue (queue ++ m ∷ []) (get_or backs j 0) (get_or (backs ++ back ∷ []) j 0) j (get_or-append backs (back ∷ []) 0 j (omega arith)) (λ i le. get_or-append queue (m ∷ []) 0 i (omega arith)) (k.whence j o)
          | inr n ↦ (let q : length queue ≡ j = omega arith in
              subst (λ b. ComesFrom net owner (queue ++ m ∷ []) b j) (sym (get_or_push backs back 0 j (omega arith))) (subst (λ i. ComesFrom net owner (queue ++ m ∷ []) back i) q from))
        ];
      }

  -- what meeting a node gives, where the search goes on
  pub record IsAfter (m : ℕ) (queue seen' queue' backs' passed open' : List ℕ) : Type 0 where
    pub searching : IsSearching net owner seen' queue' backs' passed open'
    pub there : IsOpen net m → In queue' m
    pub extends : Extends queue queue'

  -- what it gives where it ends the search
  pub record IsLast (queue queue' backs' : List ℕ) : Type 0 where
    pub met : AreMet net owner queue' backs'
    pub some : 0 < length queue'
    pub free : owner (get_or queue' (length queue' - 1) 0) ≡ 0
    pub extends : Extends queue queue'

  module _ (pre stack seen queue backs passed : List ℕ) (m back : ℕ) (k : IsSearching net owner seen queue backs passed (pre ++ stack))
      (node : IsOpen net m → (m < net.node) × IsOpen net m × IsLow net m) (from : IsOpen net m → ComesFrom net owner (queue ++ m ∷ []) back (length queue)) where
    fresh : get_or seen m 0 ≡ 0 → In queue m → ⊥
    fresh unseen i = let e : 0 < get_or seen m 0 = k.in_seen m i in absurd (omega arith)

    waits : (j : ℕ) → In (pre ++ stack) j → In (pre ++ (stack ++ length queue ∷ [])) j
    waits j i = elim (In-append pre stack j i) [ inl a ↦ In-left pre (stack ++ length queue ∷ []) j a | inr b ↦ In-right pre (stack ++ length queue ∷ []) j (In-left stack (length queue ∷ []) j b) ]

    waits_new : (j : ℕ) → length queue ≡ j → In (pre ++ (stack ++ length queue ∷ [])) j
    waits_new j e = In-right pre (stack ++ length queue ∷ []) j (In-right stack (length queue ∷ []) j (inl (sym e)))

    met_new : IsOpen net m → get_or seen m 0 ≡ 0 → 0 < owner m → IsSearching net owner (set seen m 1) (queue ++ m ∷ []) (backs ++ back ∷ []) passed (pre ++ (stack ++ length queue ∷ []))
    met_new live unseen some =
        let len : length (queue ++ m ∷ []) ≡ length queue + 1 = length-append queue (m ∷ []) in
        let room : m < length seen = (let l : m < node_count net.graph = live_inside net.graph net.label m live.live in let s : length seen ≡ node_count net.graph = k.size in omega arith) in
        let old_at : (j : ℕ) → j < length queue → get_or (queue ++ m ∷ []) j 0 ≡ get_or queue j 0 = (λ j l. get_or-append queue (m ∷ []) 0 j l) in
        record {
          met = met_push queue backs m back k.met (node live) (fresh unseen) (from live);
          owned = λ u i. elim (In-push queue m u i) [ inl j ↦ k.owned u j | inr e ↦ subst (λ x. 0 < owner x) (sym e) some ];
          inside = λ j i. elim (In-append pre (stack ++ length queue ∷ []) j i) [
            | inl a ↦ (let l : j < length queue = k.inside j (In-left pre stack j a) in omega arith)
            | inr b ↦ elim (In-push stack (length queue) j b) [ inl c ↦ (let l : j < length queue = k.inside j (In-right pre stack j c) in omega arith) | inr e ↦ omega arith ]
          ];
          handed = λ j l. elim (cases_lt j (length queue)) [
            | inl o ↦ elim (k.handed j o) [
              | inl i ↦ inl (waits j i)
              | inr h ↦ inr (subst (λ x. IsHandedOn net owner (queue ++ m ∷ []) x) (sym (old_at j o)) (handed_more net owner queue (queue ++ m ∷ []) (get_or queue j 0) (λ x i. In-left queue (m ∷ []) x i) h))
            ]
            | inr o ↦ inl (waits_new j (omega arith))
          ];
          passed_are = record {
            size = k.passed_are.size;
            only = λ x p. let r = k.passed_are.only x p in (r.0, In-left queue (m ∷ []) r.0 r.1, r.2, r.3);
            all = λ j l. elim (cases_lt j (length queue)) [
              | inl o ↦ elim (k.passed_are.all j o) [
                | inl i ↦ inl (waits j i)
                | inr h ↦ inr (subst (λ x. (owner x ≡ net.node) ⊎ (0 < get_or passed (owner x) 0)) (sym (old_at j o)) h)
              ]
              | inr o ↦ inl (waits_new j (omega arith))
            ];
          };
          size = length-set seen m 1 ∙ k.size;
          in_seen = λ x i. elim (cases_eq x m) [
            | inl e ↦ (let a : get_or (set seen m 1) x 0 ≡ 1 = ap (λ y. get_or (set seen m 1) y 0) e ∙ get_or-set_same seen m 1 0 room in omega arith)
            | inr ne ↦ elim (In-push queue m x i) [ inl j ↦ (let a : get_or (set seen m 1) x 0 ≡ get_or seen x 0 = get_or-set_other seen m x 1 0 ne in let b : 0 < get_or seen x 0 = k.in_seen x j in omega arith) | inr e ↦ absurd (ne e) ]
          ];
          seen_in = λ x e. elim (cases_eq x m) [ inl q ↦ In-right queue (m ∷ []) x (inl q) | inr ne ↦ In-left queue (m ∷ []) x (k.seen_in x (let a : get_or (set seen m 1) x 0 ≡ get_or seen x 0 = get_or-set_other seen m x 1 0 ne in omega arith)) ];
        }

    pub goes_on : (b : Bool) (seen' queue' backs' stack' : List ℕ) → HasMet net owner m back seen queue backs stack seen' queue' backs' stack' b → b ≡ false → IsAfter m queue seen' queue' backs' passed (pre ++ stack')
    goes_on b seen' queue' backs' stack' (free e never s q c t) f = rw (s, q, c, t) (record { searching = k; there = λ l. absurd (never l); extends = extends_same queue })
    goes_on b seen' queue' backs' stack' (old e was s q c t) f = rw (s, q, c, t) (record { searching = k; there = λ l. k.seen_in m was; extends = extends_same queue })
    goes_on b seen' queue' backs' stack' (end e live unseen none s q c t) f = absurd (false≢true (sym f ∙ e))
    goes_on b seen' queue' backs' stack' (new e live unseen some s q c t) f =
        rw (s, q, c, t) (record { searching = met_new live unseen some; there = λ l. In-right queue (m ∷ []) m (inl refl); extends = extends_push queue m })

    pub comes_last : (b : Bool) (seen' queue' backs' stack' : List ℕ) → HasMet net owner m back seen queue backs stack seen' queue' backs' stack' b → b ≡ true → IsLast queue queue' backs'
    comes_last b seen' queue' backs' stack' (free e never s q c t) f = absurd (false≢true (sym e ∙ f))
    comes_last b seen' queue' backs' stack' (old e was s q c t) f = absurd (false≢true (sym e ∙ f))
    comes_last b seen' queue' backs' stack' (new e live unseen some s q c t) f = absurd (false≢true (sym e ∙ f))
    comes_last b seen' queue' backs' stack' (end e live unseen none s q c t) f =
        let len : length (queue ++ m ∷ []) ≡ length queue + 1 = length-append queue (m ∷ []) in
        let at : get_or (queue ++ m ∷ []) (length (queue ++ m ∷ []) - 1) 0 ≡ m = get_or_push queue m 0 (length (queue ++ m ∷ []) - 1) (omega arith) in
        rw (q, c) (record { met = met_push queue backs m back k.met (node live) (fresh unseen) (from live); some = omega arith; free = ap owner at ∙ none; extends = extends_push queue m })

  -- each node that is met waits
  pub met_lengths : (m back : ℕ) (b : Bool) (seen queue backs stack seen' queue' backs' stack' : List ℕ) → HasMet net owner m back seen queue backs stack seen' queue' backs' stack' b → b ≡ false → length stack' + length queue ≡ length stack + length queue'
  met_lengths m back b seen queue backs stack seen' queue' backs' stack' (free e never s q c t) f = rw (q, t) refl
  met_lengths m back b seen queue backs stack seen' queue' backs' stack' (old e was s q c t) f = rw (q, t) refl
  met_lengths m back b seen queue backs stack seen' queue' backs' stack' (end e live unseen none s q c t) f = absurd (false≢true (sym f ∙ e))
  met_lengths m back b seen queue backs stack seen' queue' backs' stack' (new e live unseen some s q c t) f = grind (arith, length-append)

  pub met_size : (m back : ℕ) (b : Bool) (seen queue backs stack seen' queue' backs' stack' : List ℕ) → HasMet net owner m back seen queue backs stack seen' queue' backs' stack' b → length seen' ≡ length seen
  met_size m back b seen queue backs stack seen' queue' backs' stack' (free e never s q c t) = ap length s
  met_size m back b seen queue backs stack seen' queue' backs' stack' (old e was s q c t) = ap length s
  met_size m back b seen queue backs stack seen' queue' backs' stack' (end e live unseen none s q c t) = ap length s ∙ length-set seen m 1
  met_size m back b seen queue backs stack seen' queue' backs' stack' (new e live unseen some s q c t) = ap length s ∙ length-set seen m 1

  pub met_extends : (m back : ℕ) (b : Bool) (seen queue backs stack seen' queue' backs' stack' : List ℕ) → HasMet net owner m back seen queue backs stack seen' queue' backs' stack' b → Extends queue queue'
  met_extends m back b seen queue backs stack seen' queue' backs' stack' (free e never s q c t) = rw q (extends_same queue)
  met_extends m back b seen queue backs stack seen' queue' backs' stack' (old e was s q c t) = rw q (extends_same queue)
  met_extends m back b seen queue backs stack seen' queue' backs' stack' (end e live unseen none s q c t) = rw q (extends_push queue m)
  met_extends m back b seen queue backs stack seen' queue' backs' stack' (new e live unseen some s q c t) = rw q (extends_push queue m)

  -- the same open places in another order
  reopened : (seen queue backs passed open' open2 : List ℕ) → IsSearching net owner seen queue backs passed open' → ((j : ℕ) → In open' j → In open2 j) → ((j : ℕ) → In open2 j → In open' j) → IsSearching net owner seen queue backs passed open2
  reopened seen queue backs passed open' open2 k to from = search rules

  -- the place that waits last comes first
  pub popped : (seen queue backs passed waiting stack : List ℕ) (place : ℕ) → IsSearching net owner seen queue backs passed waiting → waiting ≡ stack ++ place ∷ [] → IsSearching net owner seen queue backs passed (place ∷ stack)
  popped seen queue backs passed waiting stack place k e =
      reopened seen queue backs passed (stack ++ place ∷ []) (place ∷ stack) (subst (λ x. IsSearching net owner seen queue backs passed x) e k)
      (λ j i. elim (In-push stack place j i) [ inl s ↦ inr s | inr q ↦ inl q ])
      (λ j i. elim i [ inl q ↦ In-right stack (place ∷ []) j (inl q) | inr s ↦ In-left stack (place ∷ []) j s ])

  -- the place of the first open node is handed on
  pub closed : (place : ℕ) (stack seen queue backs passed : List ℕ) → IsSearching net owner seen queue backs passed (place ∷ stack) → IsHandedOn net owner queue (get_or queue place 0)
      → (owner (get_or queue place 0) ≡ net.node) ⊎ (0 < get_or passed (owner (get_or queue place 0)) 0) → IsSearching net owner seen queue backs passed stack
  closed place stack seen queue backs passed k h p = record {
    met = k.met;
    owned = k.owned;
    inside = λ j i. k.inside j (inr i);
    handed = λ j l. elim (k.handed j l) [
      | inr done ↦ inr done
      | inl i ↦ elim i [ inl e ↦ inr (subst (λ x. IsHandedOn net owner queue (get_or queue x 0)) (sym e) h) | inr w ↦ inl w ]
    ];
    passed_are = record {
      size = k.passed_are.size;
      only = k.passed_are.only;
      all = λ j l. elim (k.passed_are.all j l) [
        | inr done ↦ inr done
        | inl i ↦ elim i [ inl e ↦ inr (subst (λ x. (owner (get_or queue x 0) ≡ net.node) ⊎ (0 < get_or passed (owner (get_or queue x 0)) 0)) (sym e) p) | inr w ↦ inl w ]
      ];
    };
    size = k.size;
    in_seen = k.in_seen;
    seen_in = k.seen_in;
  }

  -- the owner of an open place is marked
  pub marked : (place a : ℕ) (stack seen queue backs passed : List ℕ) → IsSearching net owner seen queue backs passed (place ∷ stack) → owner (get_or queue place 0) ≡ a → IsInner net a → IsSearching net owner seen queue backs (set passed a 1) (place ∷ stack)
  marked place a stack seen queue backs passed k is inner =
      let room : a < length passed = (let l : a < node_count net.graph = inner.and.1 in let s : length passed ≡ node_count net.graph = k.passed_are.size in omega arith) in
      record {
        met = k.met;
        owned = k.owned;
        inside = k.inside;
        handed = k.handed;
        passed_are = record {
          size = length-set passed a 1 ∙ k.passed_are.size;
          only = λ m p. elim (cases_eq m a) [
            | inl e ↦ (get_or queue place 0, In-get_or queue place 0 (k.inside place (inl refl)), is ∙ sym e, (let b : a < net.node = inner.below in omega arith))
            | inr ne ↦ k.passed_are.only m (let e : get_or (set passed a 1) m 0 ≡ get_or passed m 0 = get_or-set_other passed a m 1 0 ne in omega arith)
          ];
          all = λ j l. elim (k.passed_are.all j l) [
            | inl i ↦ inl i
            | inr r ↦ elim r [
              | inl e ↦ inr (inl e)
              | inr p ↦ inr (inr (elim (cases_eq (owner (get_or queue j 0)) a) [
                | inl e ↦ (let z : get_or (set passed a 1) (owner (get_or queue j 0)) 0 ≡ 1 = ap (λ x. get_or (set passed a 1) x 0) e ∙ (get_or-set_same passed a 1 0 room) in omega arith)
                | inr ne ↦ (let z : get_or (set passed a 1) (owner (get_or queue j 0)) 0 ≡ get_or passed (owner (get_or queue j 0)) 0 = get_or-set_other passed a (owner (get_or queue j 0)) 1 0 ne in omega arith)
              ]))
            ]
          ];
        };
        size = k.size;
        in_seen = k.in_seen;
        seen_in = k.seen_in;
      }

  -- the owner of an open place, where it is not the node, is an inner node
  pub owned_inner : (chosen : ℕ → ℕ) (count : ℕ) → IsLinked net 0 owner chosen count → (seen queue backs passed open' : List ℕ) (place : ℕ) → IsSearching net owner seen queue backs passed open' → place < length queue
      → (owner (get_or queue place 0) ≡ net.node → ⊥) → IsInner net (owner (get_or queue place 0))
  owned_inner chosen count links seen queue backs passed open' place k inside ne =
      let there : In queue (get_or queue place 0) = In-get_or queue place 0 inside in
      elim (links.owned (get_or queue place 0) (λ z. let l : 0 < get_or queue place 0 = live_pos net.graph net.label (get_or queue place 0) (k.met.nodes (get_or queue place 0) there).1.live in absurd (omega arith)) (k.owned (get_or queue place 0) there)) [
        | inl h ↦ absurd (ne h.0)
        | inr h ↦ h.inner
      ]

module _ (net : FlowNet) (owner : ℕ → ℕ) (is : IsNet net) (a : ℕ) (inner : IsInner net a) where
  -- what an inner node may choose can be met
  pub choice_node : (m : ℕ) → IsChoice net a m → IsOpen net m → (m < net.node) × IsOpen net m × IsLow net m
  choice_node m (inl e) l = ((let b : a < net.node = inner.below in omega arith), l, subst (λ x. IsLow net x) (sym e) inner.low)
  choice_node m (inr f) l =
      let c : m < a = fan_in_below net.graph m a is.normal f.0 in
      let r : net.label m ≤ net.label a = is.known.rising m a inner.below f.0 in
      let q : net.label a + 1 < net.height = inner.low in (omega arith, l, omega arith)

  pub own_node : IsOpen net a → (a < net.node) × IsOpen net a × IsLow net a
  own_node l = choice_node a (inl refl) l

  pub fan_in_node : (m : ℕ) → IsFanIn net.graph m a → IsOpen net m → (m < net.node) × IsOpen net m × IsLow net m
  fan_in_node m f l = choice_node m (inr (f, l)) l

-- an end can be met
pub end_node : (net : FlowNet) → IsNet net → (m : ℕ) → IsEnd net m → IsOpen net m → (m < net.node) × IsOpen net m × IsLow net m
end_node net is m e l = ((is.met m e.met).1, l, e.low)

-- a search that has met nothing
pub search_begun : (net : FlowNet) (owner : ℕ → ℕ) (a b : ℕ) → a ≡ node_count net.graph → b ≡ node_count net.graph → IsSearching net owner (zeros a) [] [] (zeros b) []
search_begun net owner a b e f = search (rules, length-replicate, zero_at)
