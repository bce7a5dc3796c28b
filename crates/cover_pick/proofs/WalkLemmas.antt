-- The walk of required depths: what it keeps, and that its cuts are a cover of the least depth.
use Rattle.cover_pick.proofs.Common.{◌≡◌, ℕ, zero, suc, ◌+◌, ◌-◌, ◌/◌, ◌<◌, ◌≤◌, min, ltb, List, [], ◌∷◌, length, Option, Some, None, IsSome, refl, sym, ap, ◌∙◌, subst, inl, inr, ◌⊎◌, arith, get_or-set_same, get_or-set_other, replicate, length-replicate, get_or-replicate, get_or_past, length-set, same_Some, none-some, cases_lt, cases_eq, ltb-true, ltb-false, Aig, first_and, node_count, IsAnd, Regular, source_below, In, IsCut, IsCover, HasDepth, source, free, table, RootsWithin, greatest, height, choose, source_level, root_level, target, need, least_of, require, require_each, visit, walk, require_root, require_roots, roots_required, required, chosen, cover_of, AtMost, FromRoot, Chooses, IsWalked, rules, ◌%◌, IsSource, walk_by, met_at, AreLeastHeights}
use Rattle.cut_sets.proofs.HeightLemmas.{greatest_le, greatest_in}
use Rattle.cut_sets.proofs.LeastHeightLemmas.{label_le_depth}
use Rattle.cover_pick.specs.Sharing.{IsNeededAbove, root, leaf}

pub level_complemented : (g : Aig) (l : ℕ) → IsSource g Regular (l / 2) → l % 2 ≡ 1 → source_level g l ≡ 1
level_complemented g l s e = grind arith

pub level_within : (g : Aig) (l d : ℕ) → (IsSource g Regular (l / 2) → l % 2 ≡ 1 → 1 ≤ d) → source_level g l ≤ d
level_within g l d h = grind arith

-- a required depth comes from a node that was taken, one of `first` or above
pub record FromAbove (g : Aig) (choice : ℕ → ℕ → List ℕ) (reqs : ℕ → Option ℕ) (first n r : ℕ) : Type 0 where
  pub reader : ℕ
  pub depth : ℕ
  pub above : first ≤ reader
  pub and : IsAnd g reader
  pub needed : reqs reader ≡ Some depth
  pub leaf : In (choice reader depth) n
  pub is : r ≡ depth - 1

-- the walk with k nodes still to be taken
pub record Walked (g : Aig) (label : ℕ → ℕ) (choice : ℕ → ℕ → List ℕ) (roots : List ℕ) (t k : ℕ) (reqs : List (Option ℕ)) : Type 0 where
  pub size : length reqs ≡ node_count g
  pub low : (n r : ℕ) → IsAnd g n → need reqs n ≡ Some r → label n ≤ r
  pub tops : (l : ℕ) → In roots l → IsAnd g (l / 2) → AtMost (need reqs (l / 2)) t
  pub leaves : (n r m : ℕ) → IsAnd g n → first_and g + k ≤ n → need reqs n ≡ Some r → In (choice n r) m → AtMost (need reqs m) (r - 1)
  pub whence : (n r : ℕ) → need reqs n ≡ Some r → FromRoot roots t n r ⊎ FromAbove g choice (need reqs) (first_and g + k) n r

need_same : (reqs : List (Option ℕ)) (m r : ℕ) → m < length reqs → need (require reqs m r) m ≡ least_of (need reqs m) r
need_same reqs m r l = rw get_or-set_same refl

need_other : (reqs : List (Option ℕ)) (n m r : ℕ) → (n ≡ m → ⊥) → need (require reqs m r) n ≡ need reqs n
need_other reqs n m r d = rw get_or-set_other refl

least_old : (o : Option ℕ) (r d : ℕ) → AtMost o d → AtMost (least_of o r) d
least_old None r d h = absurd (none-some h.by h.is)
least_old (Some s) r d h = let e : s ≡ h.by = same_Some s h.by h.is in let l : h.by ≤ d = h.le in record { by = min s r; is = refl; le = omega arith }

least_new : (o : Option ℕ) (r : ℕ) → AtMost (least_of o r) r
least_new None r = record { by = r; is = refl; le = omega arith }
least_new (Some s) r = record { by = min s r; is = refl; le = omega arith }

least_from : (o : Option ℕ) (r s : ℕ) → least_of o r ≡ Some s → (o ≡ Some s) ⊎ (s ≡ r)
least_from None r s h = inr (sym (same_Some r s h))
least_from (Some q) r s h = grind arith

require_old : (reqs : List (Option ℕ)) (m r n d : ℕ) → m < length reqs → AtMost (need reqs n) d → AtMost (need (require reqs m r) n) d
require_old reqs m r n d l h = search (rules, cases_eq, need_same, least_old, need_other)

require_new : (reqs : List (Option ℕ)) (m r : ℕ) → m < length reqs → AtMost (need (require reqs m r) m) r
require_new reqs m r l = subst (λ o. AtMost o r) (sym (need_same reqs m r l)) (least_new (need reqs m) r)

require_from : (reqs : List (Option ℕ)) (m r n s : ℕ) → m < length reqs → need (require reqs m r) n ≡ Some s → (need reqs n ≡ Some s) ⊎ ((n ≡ m) × (s ≡ r))
require_from reqs m r n s l h = search (rules, cases_eq, least_from, need_same, need_other)

size_require : (reqs : List (Option ℕ)) (m r : ℕ) → length (require reqs m r) ≡ length reqs
size_require reqs m r = length-set reqs m (least_of (need reqs m) r)

each_size : (ms : List ℕ) (reqs : List (Option ℕ)) (r : ℕ) → length (require_each reqs ms r) ≡ length reqs
each_size [] reqs r = refl
each_size (m ∷ ms) reqs r = each_size ms (require reqs m r) r ∙ size_require reqs m r

each_old : (ms : List ℕ) (reqs : List (Option ℕ)) (r n d : ℕ) → ((m : ℕ) → In ms m → m < length reqs) → AtMost (need reqs n) d → AtMost (need (require_each reqs ms r) n) d
each_old [] reqs r n d l h = h
each_old (m ∷ ms) reqs r n d l h = grind (arith, size_require, require_old, each_old ms (require reqs m r) r n d (λ i j. rw (size_require reqs m r) (l i (inr j))) (require_old reqs m r n d (l m (inl refl)) h))

each_new : (ms : List ℕ) (reqs : List (Option ℕ)) (r n : ℕ) → ((m : ℕ) → In ms m → m < length reqs) → In ms n → AtMost (need (require_each reqs ms r) n) r
each_new [] reqs r n l i = elim i [ ]
each_new (m ∷ ms) reqs r n l (inl e) =
    each_old ms (require reqs m r) r n r (λ i j. rw (size_require reqs m r) (l i (inr j))) (subst (λ i. AtMost (need (require reqs m r) i) r) (sym e) (require_new reqs m r (l m (inl refl))))
each_new (m ∷ ms) reqs r n l (inr i) = each_new ms (require reqs m r) r n (λ i j. rw (size_require reqs m r) (l i (inr j))) i

each_from : (ms : List ℕ) (reqs : List (Option ℕ)) (r n s : ℕ) → ((m : ℕ) → In ms m → m < length reqs) → need (require_each reqs ms r) n ≡ Some s → (need reqs n ≡ Some s) ⊎ (In ms n × (s ≡ r))
each_from [] reqs r n s l h = inl h
each_from (m ∷ ms) reqs r n s l h = search (rules, size_require, require_from, each_from ms (require reqs m r) r n s (λ i j. rw (size_require reqs m r) (l i (inr j))) h)

pub each_other : (ms : List ℕ) (reqs : List (Option ℕ)) (r n : ℕ) → (In ms n → ⊥) → need (require_each reqs ms r) n ≡ need reqs n
each_other [] reqs r n o = refl
each_other (m ∷ ms) reqs r n o = each_other ms (require reqs m r) r n (λ i. o (inr i)) ∙ need_other reqs n m r (λ e. o (inl e))

-- a node that is needed lies in the list
pub need_in : (reqs : List (Option ℕ)) (n s : ℕ) → need reqs n ≡ Some s → n < length reqs
need_in reqs n s h = elim (cases_lt n (length reqs)) [ inl l ↦ l | inr l ↦ absurd (none-some s (sym (get_or_past reqs n None l) ∙ h)) ]

height_in : (label : ℕ → ℕ) (c : List ℕ) (m : ℕ) → In c m → 1 + label m ≤ height label c
height_in label [] m i = elim i [ ]
height_in label (x ∷ xs) m i = let a : label m ≤ greatest label (x ∷ xs) = greatest_in label (x ∷ xs) m i in omega arith

root_size : (first t : ℕ) (reqs : List (Option ℕ)) (l : ℕ) → length (require_root first t reqs l) ≡ length reqs
root_size first t reqs l = choose (λ s. length s ≡ length reqs) (ltb (l / 2) first) reqs (require reqs (l / 2) t) (λ _. refl) (λ _. size_require reqs (l / 2) t)

roots_size : (first t : ℕ) (ls : List ℕ) (reqs : List (Option ℕ)) → length (require_roots first t reqs ls) ≡ length reqs
roots_size first t [] reqs = refl
roots_size first t (l ∷ ls) reqs = roots_size first t ls (require_root first t reqs l) ∙ root_size first t reqs l

roots_old : (first t : ℕ) (ls : List ℕ) (reqs : List (Option ℕ)) (n d : ℕ) → ((l : ℕ) → In ls l → l / 2 < length reqs) → AtMost (need reqs n) d → AtMost (need (require_roots first t reqs ls) n) d
roots_old first t [] reqs n d r h = h
roots_old first t (l ∷ ls) reqs n d r h = grind (arith, root_size, ltb, require_old, roots_old first t ls (require_root first t reqs l) n d (λ i j. rw (root_size first t reqs l) (r i (inr j))) (choose (λ s. AtMost (need s n) d) (ltb (l / 2) first) reqs (require reqs (l / 2) t) (λ _. h) (λ _. require_old reqs (l / 2) t n d (r l (inl refl)) h)))

roots_new : (first t : ℕ) (ls : List ℕ) (reqs : List (Option ℕ)) (l : ℕ) → ((l : ℕ) → In ls l → l / 2 < length reqs) → In ls l → first ≤ l / 2 → AtMost (need (require_roots first t reqs ls) (l / 2)) t
roots_new first t [] reqs l r i a = elim i [ ]
roots_new first t (x ∷ ls) reqs l r (inl e) a = grind (arith, roots_old, root_size, ltb, ltb-true, require_new)
roots_new first t (x ∷ ls) reqs l r (inr i) a = roots_new first t ls (require_root first t reqs x) l (λ i j. rw (root_size first t reqs x) (r i (inr j))) i a

roots_from : (first t : ℕ) (ls : List ℕ) (reqs : List (Option ℕ)) (n s : ℕ) → ((l : ℕ) → In ls l → l / 2 < length reqs) → need (require_roots first t reqs ls) n ≡ Some s → (need reqs n ≡ Some s) ⊎ ((first ≤ n) × FromRoot ls t n s)
roots_from first t [] reqs n s r h = inl h
roots_from first t (l ∷ ls) reqs n s r h = search (rules, root_size, ltb, require_from, ltb-false, roots_from first t ls (require_root first t reqs l) n s (λ i j. rw (root_size first t reqs l) (r i (inr j))) h)

no_depth : Option ℕ
no_depth = None

need_none : (c n : ℕ) → need (replicate c None) n ≡ None
unfolding no_depth
need_none c n = elim (cases_lt n c) [ inl l ↦ get_or-replicate c n None None l | inr l ↦ get_or_past (replicate c None) n None (rw (length-replicate c no_depth) l) ]

pub HasDepth-more : (g : Aig) (cover : ℕ → Option (List ℕ)) {n d : ℕ} (e : ℕ) → HasDepth g cover n d → d ≤ e → HasDepth g cover n e
HasDepth-more g cover e (source l) le = source l
HasDepth-more g cover e (free at) le = free at
HasDepth-more g cover zero (table c at sub) le = absurd (omega arith)
HasDepth-more g cover (suc e) (table c at sub) le = table c at (λ m i. HasDepth-more g cover e (sub m i) (omega arith))

module _ (g : Aig) (k : ℕ) (roots : List ℕ) (cuts : ℕ → List (List ℕ)) (label : ℕ → ℕ) (choice : ℕ → ℕ → List ℕ)
    (inside : (l : ℕ) → In roots l → l / 2 < node_count g)
    (are_cuts : (n : ℕ) (c : List ℕ) → IsAnd g n → In (cuts n) c → IsCut g k n c) (chooses : Chooses g cuts label choice) where
  choice_cut : (n r : ℕ) → IsAnd g n → label n ≤ r → IsCut g k n (choice n r)
  choice_cut n r and l = are_cuts n (choice n r) and (chooses.cut n r and l)

  pub leaf_below : (n r m : ℕ) → IsAnd g n → label n ≤ r → In (choice n r) m → m < n
  leaf_below n r m and l i = ((choice_cut n r and l).below m i).0

  leaf_low : (n r m : ℕ) → IsAnd g n → label n ≤ r → In (choice n r) m → 1 + label m ≤ r
  leaf_low n r m and l i = let a : 1 + label m ≤ height label (choice n r) = height_in label (choice n r) m i in let b : height label (choice n r) ≤ r = chooses.low n r and l in omega arith

  pub visit_walked : (t j : ℕ) (reqs : List (Option ℕ)) (o : Option ℕ) → j < length g.pairs → Walked g label choice roots t (suc j) reqs → need reqs (first_and g + j) ≡ o
      → Walked g label choice roots t j (visit choice (first_and g + j) o reqs)
  visit_walked t j reqs None below w e = search (rules, cases_eq, none-some)
  visit_walked t j reqs (Some r) below w e =
      let top = first_and g + j in
      let and : IsAnd g top = (omega arith, omega arith) in
      let low : label top ≤ r = w.low top r and e in
      let range : (m : ℕ) → In (choice top r) m → m < length reqs = (λ m i. let b : m < top = leaf_below top r m and low i in omega arith) in
      let not_in : (n : ℕ) → top ≤ n → In (choice top r) n → ⊥ = (λ n a i. let b : n < top = leaf_below top r n and low i in omega arith) in
      record {
        size = each_size (choice top r) reqs (r - 1) ∙ w.size;
        low = λ n q a h. elim (each_from (choice top r) reqs (r - 1) n q range h) [
          | inl old ↦ w.low n q a old
          | inr b ↦ (let c : 1 + label n ≤ r = leaf_low top r n and low b.0 in let d : q ≡ r - 1 = b.1 in omega arith)
        ];
        tops = λ l i a. each_old (choice top r) reqs (r - 1) (l / 2) t range (w.tops l i a);
        leaves = λ n q m a above h i. grind (arith, each_other, cases_eq, same_Some, each_new, each_old);
        whence = λ n q h. elim (each_from (choice top r) reqs (r - 1) n q range h) [
          | inl old ↦ elim (w.whence n q old) [
            | inl f ↦ inl f
            | inr f ↦ (let a : first_and g + suc j ≤ f.reader = f.above in
                inr (record {
                  reader = f.reader;
                  depth = f.depth;
                  above = omega arith;
                  and = f.and;
                  needed = each_other (choice top r) reqs (r - 1) f.reader (not_in f.reader (omega arith)) ∙ f.needed;
                  leaf = f.leaf;
                  is = f.is;
                }))
          ]
          | inr b ↦ inr (record { reader = top; depth = r; above = omega arith; and = and; needed = each_other (choice top r) reqs (r - 1) top (not_in top (omega arith)) ∙ e; leaf = b.0; is = b.1 })
        ];
      }

  pub walk_walked : (t j : ℕ) (reqs : List (Option ℕ)) → j ≤ length g.pairs → Walked g label choice roots t j reqs → Walked g label choice roots t 0 (walk choice (first_and g) j reqs)
  walk_walked t zero reqs l w = w
  walk_walked t (suc j) reqs l w = grind (arith, visit_walked, walk_walked t j (visit choice (first_and g + j) (need reqs (first_and g + j)) reqs) (omega arith) (visit_walked t j reqs (need reqs (first_and g + j)) (omega arith) w refl))

  root_low : (l : ℕ) → In roots l → root_level g label l ≤ target g label roots
  root_low l i = greatest_in (root_level g label) roots l i

  root_node : (l : ℕ) → In roots l → first_and g ≤ l / 2 → label (l / 2) ≤ target g label roots
  root_node l i a = grind (arith, ltb, ltb-true, root_low)

  root_source : (l : ℕ) → In roots l → l / 2 < first_and g → source_level g l ≤ target g label roots
  root_source l i a = grind (arith, ltb, ltb-false, root_low)

  pub start_walked : Walked g label choice roots (target g label roots) (length g.pairs) (roots_required g roots (target g label roots))
  unfolding no_depth
  start_walked =
      let t = target g label roots in
      let none : List (Option ℕ) = replicate (node_count g) None in
      let s : length none ≡ node_count g = length-replicate (node_count g) no_depth in
      let range : (l : ℕ) → In roots l → l / 2 < length none = (λ l i. rw s (inside l i)) in
      let from : (n r : ℕ) → need (require_roots (first_and g) t none roots) n ≡ Some r → (first_and g ≤ n) × FromRoot roots t n r =
      (λ n r h. elim (roots_from (first_and g) t roots none n r range h) [ inl a ↦ absurd (none-some r (sym (need_none (node_count g) n) ∙ a)) | inr a ↦ a ]) in
      record {
        size = roots_size (first_and g) t roots none ∙ s;
        low = λ n r and h. let f = from n r h in
            let a : label (f.1.root / 2) ≤ t = root_node f.1.root f.1.is_root (rw f.1.node f.0) in
            let b : label (f.1.root / 2) ≡ label n = ap label f.1.node in omega arith;
        tops = λ l i and. roots_new (first_and g) t roots none l range i and.0;
        leaves = λ n r m and above h i. absurd (omega arith);
        whence = λ n r h. inl (from n r h).1;
      }

  pub required_walked : Walked g label choice roots (target g label roots) 0 (required g choice roots (target g label roots))
  required_walked = walk_walked (target g label roots) (length g.pairs) (roots_required g roots (target g label roots)) (omega arith) start_walked

  -- the rule in its own words
  pub schedule_is : (t : ℕ) (reqs : List (Option ℕ)) → Walked g label choice roots t 0 reqs → IsWalked g label choice roots t (need reqs)
  schedule_is t reqs w = search rules

  module _ (t : ℕ) (reqs : List (Option ℕ)) (w : Walked g label choice roots t 0 reqs) where
    pub cover_is : (n r : ℕ) → IsAnd g n → need reqs n ≡ Some r → cover_of g choice reqs n ≡ Some (choice n r)
    cover_is n r and e =
        choose (λ o. o ≡ Some (choice n r)) (ltb n (first_and g)) None (chosen choice n (need reqs n))
        (λ b. absurd (let c : n < first_and g = ltb-true n (first_and g) b in omega arith)) (λ b. subst (λ o. chosen choice n o ≡ Some (choice n r)) (sym e) refl)

    depth_cut : (n r : ℕ) (c : List ℕ) → cover_of g choice reqs n ≡ Some c → height label c ≤ r → ((m : ℕ) → In c m → HasDepth g (cover_of g choice reqs) m (r - 1)) → HasDepth g (cover_of g choice reqs) n r
    depth_cut n r [] at low sub = free at
    depth_cut n zero (x ∷ xs) at low sub = absurd (omega arith)
    depth_cut n (suc r) (x ∷ xs) at low sub = table (x ∷ xs) at (λ m i. HasDepth-more g (cover_of g choice reqs) r (sub m i) (omega arith))

    -- a needed node has a depth of at most its required depth
    depth_needed : (f n r : ℕ) → n < f → IsAnd g n → need reqs n ≡ Some r → HasDepth g (cover_of g choice reqs) n r
    depth_needed zero n r l and e = absurd (omega arith)
    depth_needed (suc f) n r l and e =
        let low : label n ≤ r = w.low n r and e in
        depth_cut n r (choice n r) (cover_is n r and e) (chooses.low n r and low)
        (λ m i. elim (cases_lt m (first_and g)) [
          | inl s ↦ source s
          | inr a ↦ (
              let b : m < n = leaf_below n r m and low i in
              let and_m : IsAnd g m = (a, omega arith) in
              let q = w.leaves n r m and (omega arith) e i in
              HasDepth-more g (cover_of g choice reqs) (r - 1) (depth_needed f m q.by (omega arith) and_m q.is) q.le)
        ])

    pub depth_le_required : (n r : ℕ) → IsAnd g n → need reqs n ≡ Some r → HasDepth g (cover_of g choice reqs) n r
    depth_le_required n r and e = depth_needed (suc n) n r (omega arith) and e

    chosen_at : (n : ℕ) (c : List ℕ) (o : Option ℕ) → first_and g ≤ n → need reqs n ≡ o → chosen choice n o ≡ Some c → (r : ℕ) × IsAnd g n × (need reqs n ≡ Some r) × (c ≡ choice n r)
    chosen_at n c None a e h = absurd (none-some c h)
    chosen_at n c (Some r) a e h =
        let s : length reqs ≡ node_count g = w.size in
        let l : n < length reqs = need_in reqs n r e in
        (r, (a, omega arith), e, sym (same_Some (choice n r) c h))

    pub cover_at : (n : ℕ) (c : List ℕ) → cover_of g choice reqs n ≡ Some c → (r : ℕ) × IsAnd g n × (need reqs n ≡ Some r) × (c ≡ choice n r)
    cover_at n c h0 =
        choose (λ o. o ≡ Some c → (r : ℕ) × IsAnd g n × (need reqs n ≡ Some r) × (c ≡ choice n r)) (ltb n (first_and g)) None (chosen choice n (need reqs n))
        (λ b h. absurd (none-some c h)) (λ b h. chosen_at n c (need reqs n) (ltb-false n (first_and g) b) refl h) h0

    has_cover : (n d : ℕ) → IsAnd g n → AtMost (need reqs n) d → IsSome (cover_of g choice reqs n)
    has_cover n d and q = subst (λ o. IsSome o) (sym (cover_is n q.by and q.is)) refl

    pub is_cover : IsCover g k roots (cover_of g choice reqs)
    is_cover = record {
      cuts = λ n c h. let q = cover_at n c h in (q.1, subst (λ x. IsCut g k n x) (sym q.3) (choice_cut n q.0 q.1 (w.low n q.0 q.1 q.2)));
      roots_in = λ l i and. has_cover (l / 2) t and (w.tops l i and);
      leaves_in = λ n m c h i and. let q = cover_at n c h in has_cover m (q.0 - 1) and (w.leaves n q.0 m q.1 (omega arith) q.2 (subst (λ x. In x m) q.3 i));
    }

    pub tops_within : ((l : ℕ) → In roots l → l / 2 < first_and g → source_level g l ≤ t) → RootsWithin g (cover_of g choice reqs) roots t
    tops_within at = record {
      complemented = λ l i s e. let a : source_level g l ≡ 1 = level_complemented g l s e in let b : source_level g l ≤ t = at l i (source_below g Regular (l / 2) s) in omega arith;
      nodes = λ l i and. let q = w.tops l i and in HasDepth-more g (cover_of g choice reqs) t (depth_le_required (l / 2) q.by and q.is) q.le;
    }

  -- The depth of the template is at most the target,
  pub template_within : RootsWithin g (cover_of g choice (required g choice roots (target g label roots))) roots (target g label roots)
  template_within = tops_within (target g label roots) (required g choice roots (target g label roots)) required_walked root_source

  pub template_cover : IsCover g k roots (cover_of g choice (required g choice roots (target g label roots)))
  template_cover = is_cover (target g label roots) (required g choice roots (target g label roots)) required_walked

  -- and the target at most the depth of any cover.
  pub target_least : AreLeastHeights g k label → (cover : ℕ → Option (List ℕ)) (d : ℕ) → IsCover g k roots cover → RootsWithin g cover roots d → target g label roots ≤ d
  target_least are cover d is within = grind (arith, greatest_le, ltb, level_within, ltb-false, label_le_depth g k label are roots cover is)

-- a node is taken in the same way by two choices that are the same there
pub visit_same : (choice other : ℕ → ℕ → List ℕ) (n : ℕ) (o : Option ℕ) (reqs : List (Option ℕ)) → ((r : ℕ) → choice n r ≡ other n r) → visit choice n o reqs ≡ visit other n o reqs
visit_same choice other n None reqs e = refl
visit_same choice other n (Some r) reqs e = ap (λ c. require_each reqs c (r - 1)) (e r)

module _ (by : List (Option ℕ) → ℕ → ℕ → List ℕ) (first : ℕ) where
  -- a choice that is what is found at each of the nodes that are left
  abbrev pub Agrees : (ℕ → ℕ → List ℕ) → ℕ → List (Option ℕ) → Type 0
  Agrees choice k reqs = (j r : ℕ) → j < k → choice (first + j) r ≡ by (met_at by first k reqs (first + j)) (first + j) r

  -- what is needed at the last of the nodes that are left, and at the others
  pub met_here : (k : ℕ) (reqs : List (Option ℕ)) → met_at by first (suc k) reqs (first + k) ≡ reqs
  met_here k reqs = grind arith

  pub met_next : (k j : ℕ) (reqs : List (Option ℕ)) → j < k → met_at by first (suc k) reqs (first + j) ≡ met_at by first k (visit (by reqs) (first + k) (need reqs (first + k)) reqs) (first + j)
  met_next k j reqs l = grind arith

  pub agrees_next : (choice : ℕ → ℕ → List ℕ) (k : ℕ) (reqs : List (Option ℕ)) → Agrees choice (suc k) reqs → Agrees choice k (visit (by reqs) (first + k) (need reqs (first + k)) reqs)
  agrees_next choice k reqs a j r l = a j r (omega arith) ∙ ap (λ s. by s (first + j) r) (met_next k j reqs l)

  pub step_same : (choice : ℕ → ℕ → List ℕ) (k : ℕ) (reqs : List (Option ℕ)) → Agrees choice (suc k) reqs
      → visit choice (first + k) (need reqs (first + k)) reqs ≡ visit (by reqs) (first + k) (need reqs (first + k)) reqs
  step_same choice k reqs a = visit_same choice (by reqs) (first + k) (need reqs (first + k)) reqs (λ r. a k r (omega arith) ∙ ap (λ s. by s (first + k) r) (met_here k reqs))

  pub walk_same : (choice : ℕ → ℕ → List ℕ) (k : ℕ) (reqs : List (Option ℕ)) → Agrees choice k reqs → walk choice first k reqs ≡ walk_by by first k reqs
  walk_same choice zero reqs a = refl
  walk_same choice (suc k) reqs a = grind (arith, step_same, agrees_next, walk_same choice k (visit (by reqs) (first + k) (need reqs (first + k)) reqs) (agrees_next choice k reqs a))

pub walk_step : (by : List (Option ℕ) → ℕ → ℕ → List ℕ) (first m j n : ℕ) (reqs next : List (Option ℕ)) → m ≡ suc j → n ≡ first + j → next ≡ visit (by reqs) n (need reqs n) reqs → walk_by by first j next ≡ walk_by by first m reqs
walk_step by first m j n reqs next e f h = rw (h, f, e) refl

-- what is needed at that node, and at those below it
pub met_now : (by : List (Option ℕ) → ℕ → ℕ → List ℕ) (first m j n : ℕ) (reqs : List (Option ℕ)) → m ≡ suc j → n ≡ first + j → met_at by first m reqs n ≡ reqs
met_now by first m j n reqs e f = rw (f, e) (met_here by first j reqs)

pub met_later : (by : List (Option ℕ) → ℕ → ℕ → List ℕ) (first m j n i : ℕ) (reqs next : List (Option ℕ)) → m ≡ suc j → n ≡ first + j → next ≡ visit (by reqs) n (need reqs n) reqs → i < j
    → met_at by first j next (first + i) ≡ met_at by first m reqs (first + i)
met_later by first m j n i reqs next e f h l = rw (h, f, e) (sym (met_next by first j i reqs l))

-- When the walk comes to a node, required depths are there exactly of what is needed from above it.
-- the walk when it comes to a node: that node and all above it have their last required depths
pub record Met (g : Aig) (label : ℕ → ℕ) (choice : ℕ → ℕ → List ℕ) (roots : List ℕ) (t j : ℕ) (reqs last : List (Option ℕ)) : Type 0 where
  pub walked : Walked g label choice roots t (suc j) reqs
  pub kept : (i : ℕ) → first_and g + j ≤ i → need last i ≡ need reqs i

module _ (g : Aig) (k : ℕ) (roots : List ℕ) (cuts : ℕ → List (List ℕ)) (label : ℕ → ℕ) (choice : ℕ → ℕ → List ℕ)
    (inside : (l : ℕ) → In roots l → l / 2 < node_count g)
    (are_cuts : (n : ℕ) (c : List ℕ) → IsAnd g n → In (cuts n) c → IsCut g k n c) (chooses : Chooses g cuts label choice) where
  -- a node that is taken, and all above it, keep their required depths
  visit_above : (t j : ℕ) (reqs : List (Option ℕ)) (o : Option ℕ) → j < length g.pairs → Walked g label choice roots t (suc j) reqs → need reqs (first_and g + j) ≡ o
      → (i : ℕ) → first_and g + j ≤ i → need (visit choice (first_and g + j) o reqs) i ≡ need reqs i
  visit_above t j reqs None b w e i l = refl
  visit_above t j reqs (Some r) b w e i l = grind (arith, each_other, leaf_below)

  walk_above : (t j : ℕ) (reqs : List (Option ℕ)) → j ≤ length g.pairs → Walked g label choice roots t j reqs → (i : ℕ) → first_and g + j ≤ i → need (walk choice (first_and g) j reqs) i ≡ need reqs i
  walk_above t zero reqs b w i l = refl
  walk_above t (suc j) reqs b w i l =
      walk_above t j (visit choice (first_and g + j) (need reqs (first_and g + j)) reqs) (omega arith)
      (visit_walked g k roots cuts label choice inside are_cuts chooses t j reqs (need reqs (first_and g + j)) (omega arith) w refl) i (omega arith)
      ∙ visit_above t j reqs (need reqs (first_and g + j)) (omega arith) w refl i (omega arith)

  module _ (by : List (Option ℕ) → ℕ → ℕ → List ℕ) where
    pub met : (t m : ℕ) (reqs : List (Option ℕ)) → m ≤ length g.pairs → Walked g label choice roots t m reqs → Agrees by (first_and g) choice m reqs
        → (j : ℕ) → j < m → Met g label choice roots t j (met_at by (first_and g) m reqs (first_and g + j)) (walk choice (first_and g) m reqs)
    met t zero reqs b w a j l = absurd (omega arith)
    met t (suc m) reqs b w a j l =
        let next : List (Option ℕ) = visit choice (first_and g + m) (need reqs (first_and g + m)) reqs in
        let by_next : List (Option ℕ) = visit (by reqs) (first_and g + m) (need reqs (first_and g + m)) reqs in
        let same : next ≡ by_next = step_same by (first_and g) choice m reqs a in
        let w_next : Walked g label choice roots t m next = visit_walked g k roots cuts label choice inside are_cuts chooses t m reqs (need reqs (first_and g + m)) (omega arith) w refl in
        elim (cases_eq j m) [
          | inl e ↦ subst (λ i. Met g label choice roots t i (met_at by (first_and g) (suc m) reqs (first_and g + i)) (walk choice (first_and g) m next)) (sym e)
              (subst (λ s. Met g label choice roots t m s (walk choice (first_and g) m next)) (sym (met_here by (first_and g) m reqs)) (record {
                walked = w;
                kept = λ i c. walk_above t m next (omega arith) w_next i c ∙ visit_above t m reqs (need reqs (first_and g + m)) (omega arith) w refl i c;
              }))
          | inr d ↦ subst (λ s. Met g label choice roots t j s (walk choice (first_and g) m next)) (sym (met_next by (first_and g) m j reqs (omega arith)))
              (subst (λ s. Met g label choice roots t j (met_at by (first_and g) m by_next (first_and g + j)) (walk choice (first_and g) m s)) (sym same)
              (met t m by_next (omega arith) (subst (λ s. Walked g label choice roots t m s) same w_next) (agrees_next by (first_and g) choice m reqs a) j (omega arith)))
        ]

  -- what is needed from above a node, by the required depths when the walk comes to it
  module _ (t j : ℕ) (reqs last : List (Option ℕ)) (end : Walked g label choice roots t 0 last) (at : Met g label choice roots t j reqs last) where
    pub needed_above : (m r : ℕ) → need reqs m ≡ Some r → IsNeededAbove roots (cover_of g choice last) (first_and g + j) m
    needed_above m r e = elim (at.walked.whence m r e) [
      | inl f ↦ root f.root f.is_root f.node
      | inr f ↦ (
          let a : first_and g + suc j ≤ f.reader = f.above in
          leaf f.reader (choice f.reader f.depth) (omega arith) (cover_is g k roots cuts label choice inside are_cuts chooses t last end f.reader f.depth f.and (at.kept f.reader (omega arith) ∙ f.needed)) f.leaf)
    ]

    pub above_needed : (m : ℕ) → IsAnd g m → IsNeededAbove roots (cover_of g choice last) (first_and g + j) m → (r : ℕ) × (need reqs m ≡ Some r)
    above_needed m and (root l i e) = let q = at.walked.tops l i (subst (λ n. IsAnd g n) (sym e) and) in (q.by, subst (λ n. need reqs n ≡ Some q.by) e q.is)
    above_needed m and (leaf reader c above cover i) =
        let q = cover_at g k roots cuts label choice inside are_cuts chooses t last end reader c cover in
        let p = at.walked.leaves reader q.0 m q.1 (omega arith) (sym (at.kept reader (omega arith)) ∙ q.2) (subst (λ x. In x m) q.3 i) in
        (p.by, p.is)
