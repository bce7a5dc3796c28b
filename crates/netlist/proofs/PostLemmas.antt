-- A postorder, the last first, is an order: each node stands before those that it goes to, and none stands twice; and it is one.
use Rattle.netlist.proofs.Common.{◌≡◌, List, [], ◌∷◌, sym, subst, subst₂, inl, inr, ap, ◌∙◌, In, nodes_done, ◌⊎◌, ℕ, zero, suc, ◌<◌, reverse, Some, refl, arith, slice_get, none-some, same_Some, AreApart, Bool, true, false, cond, cond-true, cond-false, false_from_ne_true, PostsAll, nodes_from, step_stands, IsAfter, rules}
use Rattle.depth_first.specs.DepthFirst.{Posts, skips, posts, none, more}
use Rattle.depth_first.specs.Reach.{Reaches as ReachesOrIs, here, through}
use mathlib.Core.List.{reverse_aux}
use Rattle.netlist.proofs.NameLemmas.{same_first, same_rest, not_empty}

module _ {N : Type 0} (next : N → List N) where
  -- n leads to m by one step or more
  pub data Reaches : N → N → Type 0 where
    at_once : {n m : N} → In (next n) m → Reaches n m
    further : {n m : N} (k : N) → In (next n) k → Reaches k m → Reaches n m

  pub one_more : {n m : N} → Reaches n m → (k : N) → In (next m) k → Reaches n k
  one_more {n} {m} (at_once i) k j = further m i (at_once j)
  one_more (further q i r) k j = further q i (one_more r k j)

  -- in an order what a node leads to stands behind it, so none leads to itself
  reached_after : {k m : N} → Reaches k m → (ks : List N) → IsAfter next ks → ((n : N) → In (next k) n → In ks n) → In ks m
  reached_after {k} {m} (at_once j) ks after h = h m j
  reached_after (further q j r) ks after h = reached_after r ks after (λ n i. step_stands next ks q n after (h q j) i)

  pub acyclic : (order : List N) (n : N) → IsAfter next order → In order n → Reaches n n → ⊥
  acyclic [] n after i r = i
  acyclic (k ∷ ks) n after (inr i) r = acyclic ks n (after.1).1 i r
  acyclic (k ∷ ks) n after (inl e) r = (after.1).0 (reached_after (subst₂ Reaches e e r) ks (after.1).1 after.0)

  -- by a first step, and by any number of them
  first_step : {k m : N} → ReachesOrIs next k m → (n : N) → In (next n) k → Reaches n m
  first_step (here e) n i = at_once (subst (In (next n)) (sym e) i)
  first_step {k} (through j i' r) n i = further k i (first_step r k i')

  once : (done below : List N) (n : N) → (In done n → ⊥) → PostsAll next done (next n) below → IsAfter next below → In below n → ⊥
  once done below n new d after i = search (rules, nodes_from, acyclic, first_step)

  mutual
    node_after : {done result : List N} {n : N} → Posts next done n result → IsAfter next done → IsAfter next result
    node_after (skips j q) after = subst (IsAfter next) (sym q) after
    node_after {done} {n = n} (posts below new d q) after =
        let r = nodes_after d after in
        subst (IsAfter next) (sym q) (nodes_done next d, (once done below n new d r, r))

    pub nodes_after : {done ns result : List N} → PostsAll next done ns result → IsAfter next done → IsAfter next result
    nodes_after (none a q) after = subst (IsAfter next) (sym q) after
    nodes_after (more n rest below a p ps) after = nodes_after ps (node_after p after)

  -- what holds of the nodes visited, and of what those go to, holds of all done
  module _ (P : N → Type 0) (closed : (n m : N) → P n → In (next n) m → P m) where
    pub reached_only : {n m : N} → ReachesOrIs next n m → P n → P m
    reached_only (here e) p = subst P (sym e) p
    reached_only {n} (through k i r) p = reached_only r (closed n k p i)

    pub nodes_only : {done ns result : List N} → PostsAll next done ns result → ((n : N) → In ns n → P n) → ((m : N) → In done m → P m) → (m : N) → In result m → P m
    nodes_only d p h m i = elim (nodes_from next d m i) [ inl j ↦ h m j | inr l ↦ reached_only l.reaches (p l.start l.member) ]

  mutual
    node_once : {done : List N} {n : N} {result other : List N} → Posts next done n result → Posts next done n other → result ≡ other
    node_once (skips i q) (skips j r) = q ∙ sym r
    node_once (skips i q) (posts below new d r) = absurd (new i)
    node_once (posts below new d q) (skips j r) = absurd (new j)
    node_once {n = n} (posts below new d q) (posts under off e r) = q ∙ ap (λ l. n ∷ l) (nodes_once d e) ∙ sym r

    pub nodes_once : {done ns result other : List N} → PostsAll next done ns result → PostsAll next done ns other → result ≡ other
    nodes_once (none a q) (none b r) = q ∙ sym r
    nodes_once (none a q) (more m others under b d ds) = absurd (not_empty m others a b)
    nodes_once (more n rest below a p ps) (none b r) = absurd (not_empty n rest b a)
    nodes_once {done} {other = other} (more n rest below a p ps) (more m others under b d ds) =
        let first : m ≡ n = same_first m n others rest b a in
        let same : under ≡ below = sym (node_once p (subst (λ x. Posts next done x under) first d)) in
        nodes_once ps (subst₂ (λ (x y : List N). PostsAll next x y other) same (same_rest m n others rest b a) ds)

-- An order from its front: what each node reads stands among those before it.
abbrev pub IsForward : {N : Type 0} → (N → List N) → List N → List N → Type 0
IsForward reads before [] = Unit {0}
IsForward reads before (n ∷ ns) = ((m : _) → In (reads n) m → In before m) × IsForward reads (n ∷ before) ns

module _ {N : Type 0} (reads : N → List N) where
  behind : (ns before : List N) → IsAfter reads (reverse_aux ns before) → IsAfter reads before
  behind [] before after = after
  behind (n ∷ ns) before after = ((behind ns (n ∷ before) after).1).1

  -- an order with the last first, reversed
  forward : (ns before : List N) → IsAfter reads (reverse_aux ns before) → IsForward reads before ns
  forward [] before after = tt
  forward (n ∷ ns) before after = ((behind ns (n ∷ before) after).0, forward ns (n ∷ before) after)

  pub reversed_forward : (ns : List N) → IsAfter reads (reverse ns) → IsForward reads [] ns
  reversed_forward ns after = forward ns [] after

  -- nothing stands twice
  record IsNew (before ns : List N) : Type 0 where
    apart : AreApart ns
    new : (n : N) → In ns n → In before n → ⊥

  forward_new : (ns before : List N) → IsAfter reads (reverse_aux ns before) → IsNew before ns
  forward_new [] before after = record { apart = tt; new = λ n i j. absurd i }
  forward_new (n ∷ ns) before after = grind (arith, behind, forward_new ns (n ∷ before) after)

  pub reversed_apart : (ns : List N) → IsAfter reads (reverse ns) → AreApart ns
  reversed_apart ns after = (forward_new ns [] after).apart

  -- what a node reads stands at an earlier place
  record IsEarlier (ns : List N) (j : ℕ) (m : N) : Type 0 where
    place : ℕ
    earlier : place < j
    at : slice_get ns place ≡ Some m

  earlier_or : (before ns : List N) → IsForward reads before ns → (j : ℕ) (n m : N) → slice_get ns j ≡ Some n → In (reads n) m → In before m ⊎ IsEarlier ns j m
  earlier_or before [] order j n m e i = absurd (none-some n e)
  earlier_or before (k ∷ ns) order zero n m e i = inl (order.0 m (subst (λ x. In (reads x) m) (sym (same_Some k n e)) i))
  earlier_or before (k ∷ ns) order (suc j) n m e i = elim (earlier_or (k ∷ before) ns order.1 j n m e i) as (λ _. In before m ⊎ IsEarlier (k ∷ ns) (suc j) m) [
    | inl (inl s) ↦ inr (record { place = 0; earlier = omega arith; at = ap Some (sym s) })
    | inl (inr b) ↦ inl b
    | inr l ↦ (let h : l.place < j = l.earlier in inr (record { place = suc l.place; earlier = omega arith; at = l.at }))
  ]

  pub reads_earlier : (ns : List N) → IsForward reads [] ns → (j : ℕ) (n m : N) → slice_get ns j ≡ Some n → In (reads n) m → (place : ℕ) × (place < j) × (slice_get ns place ≡ Some m)
  reads_earlier ns order j n m e i = elim (earlier_or [] ns order j n m e i) [ inl b ↦ absurd b | inr l ↦ (l.place, l.earlier, l.at) ]

-- Values along an order, in which each node stands behind those that it reads: each node has the value that its rule gives, and no others do.

-- the values along an order, the last first, where a node's rule is given the values so far
abbrev pub evaluated : {N : Type 0} → (N → N → Bool) → (N → (N → Bool) → Bool) → List N → N → Bool
evaluated same rule [] m = false
evaluated same rule (n ∷ ns) m = cond (same m n) (rule n (evaluated same rule ns)) (evaluated same rule ns m)

module _ {N : Type 0} (same : N → N → Bool) (same-is : (m n : N) → same m n ≡ true → m ≡ n) (same-refl : (n : N) → same n n ≡ true)
    (reads : N → List N) (rule : N → (N → Bool) → Bool)
    (local : (n : N) (v w : N → Bool) → ((m : N) → In (reads n) m → v m ≡ w m) → rule n v ≡ rule n w) where
  at_head : (n : N) (ns : List N) → evaluated same rule (n ∷ ns) n ≡ rule n (evaluated same rule ns)
  at_head n ns = cond-true (same n n) (rule n (evaluated same rule ns)) (evaluated same rule ns n) (same-refl n)

  behind_head : (n : N) (ns : List N) (m : N) → (In ns n → ⊥) → In ns m → evaluated same rule (n ∷ ns) m ≡ evaluated same rule ns m
  behind_head n ns m off i = grind arith

  -- each node has the value that its rule gives
  pub evaluated-rule : (ns : List N) (m : N) → IsAfter reads ns → In ns m → evaluated same rule ns m ≡ rule m (evaluated same rule ns)
  evaluated-rule [] m after i = absurd i
  evaluated-rule (n ∷ ns) m after (inl e) = grind arith
  evaluated-rule (n ∷ ns) m after (inr i) = grind (arith, behind_head, evaluated, step_stands, evaluated-rule ns m (after.1).1 i)

  -- two maps that give each node the value of its rule agree
  pub rules_agree : (ns : List N) (v w : N → Bool) → IsAfter reads ns → ((n : N) → In ns n → v n ≡ rule n v) → ((n : N) → In ns n → w n ≡ rule n w)
      → (m : N) → In ns m → v m ≡ w m
  rules_agree [] v w after a b m i = absurd i
  rules_agree (n ∷ ns) v w after a b m (inr i) = rules_agree ns v w (after.1).1 (λ k j. a k (inr j)) (λ k j. b k (inr j)) m i
  rules_agree (n ∷ ns) v w after a b m (inl e) = subst (λ x. v x ≡ w x) (sym e)
      (a n (inl refl) ∙ local n v w (λ k j. rules_agree ns v w (after.1).1 (λ q r. a q (inr r)) (λ q r. b q (inr r)) k (after.0 k j)) ∙ sym (b n (inl refl)))
