-- Each candidate of a node is a cut of it, and one is as low as its label, if that is so of the sets below it.
use Rattle.bounded_cuts.proofs.Common.{◌≡◌, ℕ, ◌/◌, ◌<◌, ◌≤◌, nat_lt, List, [], ◌∷◌, length, refl, sym, subst, inl, inr, arith, choose, ltb-false, In, In-append, In-push, In-pushed, IsAscending, height, row_at, Aig, AreNormal, IsNormal, IsAnd, IsNode, first_and, node_normal, Blocks, member, fan_ins, CanBeLeaf, IsCut, Blocks-within, AreLeastHeights, Pair, rules, union, In-union, union_left, union_right, IsAscending-union, AreCandidates, HandsOn, WithLow, free, missing, node, one_union, source, there, unions, unions_with}

-- a list that blocks a fan-in m, and whose members may be leaves of a cut of n
record IsPart (g : Aig) (n m : ℕ) (c : List ℕ) : Type 0 where
  ascending : IsAscending c
  below : (j : ℕ) → In c j → (j < n) × CanBeLeaf g j
  blocks : Blocks g c m

own_part : (g : Aig) (n m : ℕ) (c : List ℕ) → m < n → CanBeLeaf g m → c ≡ m ∷ [] → IsPart g n m c
own_part g n m c l leaf e = subst (IsPart g n m) (sym e) (record {
  ascending = ((λ j i. absurd i), tt);
  below = λ j i. elim i [ inl q ↦ subst (λ (z : ℕ). (z < n) × CanBeLeaf g z) (sym q) (l, leaf) | inr a ↦ absurd a ];
  blocks = member (inl refl);
})

none_part : (g : Aig) (n m : ℕ) (c : List ℕ) → Blocks g [] m → c ≡ [] → IsPart g n m c
none_part g n m c b e = subst (IsPart g n m) (sym e) (record { ascending = tt; below = λ j i. absurd i; blocks = b })

cut_part : (g : Aig) (k n m : ℕ) (c : List ℕ) → m < n → IsCut g k m c → IsPart g n m c
cut_part g k n m c l cut = search rules

-- what a fan-in hands on
front_part : (g : Aig) (k : ℕ) (rows : List (List (List ℕ))) (n m : ℕ) (front : List (List ℕ)) → ((c : List ℕ) → IsAnd g m → In (row_at rows m) c → IsCut g k m c) → m < n → HandsOn g rows m front → (c : List ℕ) → In front c → IsPart g n m c
front_part g k rows n m front cuts l (free b is) c i = elim (subst (λ (f : List (List ℕ)). In f c) is i) [ inl e ↦ none_part g n m c b e | inr a ↦ absurd a ]
front_part g k rows n m front cuts l (source s is) c i = elim (subst (λ (f : List (List ℕ)). In f c) is i) [ inl e ↦ own_part g n m c l (inl s) e | inr a ↦ absurd a ]
front_part g k rows n m front cuts l (node a live is) c i = elim (subst (λ (f : List (List ℕ)). In f c) is i) [ inl e ↦ own_part g n m c l (inr a) e | inr j ↦ cut_part g k n m c l (cuts c a j) ]

-- a union of one list of each
record IsUnionOf (k : ℕ) (xs ys : List (List ℕ)) (c : List ℕ) : Type 0 where
  left : List ℕ
  right : List ℕ
  left_in : In xs left
  right_in : In ys right
  is : c ≡ union left right
  few : length (union left right) ≤ k

one_from : (k : ℕ) (a d c : List ℕ) → In (one_union k a d) c → (c ≡ union a d) × (length (union a d) ≤ k)
one_from k a d c = grind arith

with_from : (k : ℕ) (a : List ℕ) (xs ds : List (List ℕ)) (c : List ℕ) → In xs a → In (unions_with k a ds) c → IsUnionOf k xs ds c
with_from k a xs [] c x i = absurd i
with_from k a xs (d ∷ ds) c x i = elim (In-append (one_union k a d) (unions_with k a ds) c i) [
  | inl j ↦ (let one = one_from k a d c j in record { left = a; right = d; left_in = x; right_in = inl refl; is = one.0; few = one.1 })
  | inr j ↦ (let r = with_from k a xs ds c x j in record { left = r.left; right = r.right; left_in = r.left_in; right_in = inr r.right_in; is = r.is; few = r.few })
]

unions_from : (k : ℕ) (cs ds : List (List ℕ)) (c : List ℕ) → In (unions k cs ds) c → IsUnionOf k cs ds c
unions_from k [] ds c i = absurd i
unions_from k (a ∷ cs) ds c i = elim (In-append (unions_with k a ds) (unions k cs ds) c i) [
  | inl j ↦ with_from k a (a ∷ cs) ds c (inl refl) j
  | inr j ↦ (let r = unions_from k cs ds c j in record { left = r.left; right = r.right; left_in = inr r.left_in; right_in = r.right_in; is = r.is; few = r.few })
]

union_cut : (g : Aig) (k n : ℕ) (p : Pair) (a b : List ℕ) → IsNode g p n → IsPart g n (p.x.0 / 2) a → IsPart g n (p.y.0 / 2) b → length (union a b) ≤ k → IsCut g k n (union a b)
union_cut g k n p a b is x y few = record {
  ascending = IsAscending-union a b y.ascending;
  few = few;
  below = λ m i. elim (In-union a b m i) [ inl j ↦ x.below m j | inr j ↦ y.below m j ];
  blocks = fan_ins p is (Blocks-within g a (union a b) (union_left a b) x.blocks) (Blocks-within g b (union a b) (union_right a b) y.blocks);
}

-- the unions of what the fan-ins hand on
module _ (g : Aig) (k : ℕ) (rows : List (List (List ℕ))) (n : ℕ) (p : Pair) (xs ys : List (List ℕ)) (normal : AreNormal (first_and g) g.pairs) (below : (m : ℕ) (c : List ℕ) → IsAnd g m → m < n → In (row_at rows m) c → IsCut g k m c) (is_node : IsNode g p n) (x_front : HandsOn g rows (p.x.0 / 2) xs) (y_front : HandsOn g rows (p.y.0 / 2) ys) where
  fan_ins_below : (p.x.0 / 2 < n) × (p.y.0 / 2 < n)
  fan_ins_below =
      let is : IsNormal n p = node_normal g n p normal is_node in
      let y : p.y.0 / 2 < n = is.below in
      let o : p.x.0 / 2 < p.y.0 / 2 = is.ordered in
      (omega arith, y)

  x_part : (c : List ℕ) → In xs c → IsPart g n (p.x.0 / 2) c
  x_part = front_part g k rows n (p.x.0 / 2) xs (λ d a j. below (p.x.0 / 2) d a fan_ins_below.0 j) fan_ins_below.0 x_front

  y_part : (c : List ℕ) → In ys c → IsPart g n (p.y.0 / 2) c
  y_part = front_part g k rows n (p.y.0 / 2) ys (λ d a j. below (p.y.0 / 2) d a fan_ins_below.1 j) fan_ins_below.1 y_front

  pub x_below : (c : List ℕ) → In xs c → (m : ℕ) → In c m → m < n
  x_below c i m j = ((x_part c i).below m j).0

  pub y_below : (c : List ℕ) → In ys c → (m : ℕ) → In c m → m < n
  y_below c i m j = ((y_part c i).below m j).0

  pub unions_cut : (c : List ℕ) → In (unions k xs ys) c → IsCut g k n c
  unions_cut c i =
      let u = unions_from k xs ys c i in
      subst (IsCut g k n) (sym u.is) (union_cut g k n p u.left u.right is_node (x_part u.left u.left_in) (y_part u.right u.right_in) u.few)

module _ (g : Aig) (k : ℕ) (label : ℕ → ℕ) (low : List ℕ) (rows : List (List (List ℕ))) (n : ℕ) (cs : List (List ℕ)) (normal : AreNormal (first_and g) g.pairs) (below : (m : ℕ) (c : List ℕ) → IsAnd g m → m < n → In (row_at rows m) c → IsCut g k m c) (low_cut : IsCut g k n low) (are : AreCandidates g k label low rows n cs) where
  its_unions : (c : List ℕ) → In (unions k are.xs are.ys) c → IsCut g k n c
  its_unions = unions_cut g k rows n are.pair are.xs are.ys normal below are.is are.x_front are.y_front

  pub candidate_cut : (c : List ℕ) → In cs c → IsCut g k n c
  candidate_cut c i = by_case are.are
    where
      by_case : WithLow label (label n) low (unions k are.xs are.ys) cs → IsCut g k n c
      by_case (there h e) = its_unions c (subst (λ (l : List (List ℕ)). In l c) e i)
      by_case (missing h e) = elim (In-push (unions k are.xs are.ys) low c (subst (λ (l : List (List ℕ)). In l c) e i)) [ inl j ↦ its_unions c j | inr q ↦ subst (IsCut g k n) (sym q) low_cut ]

  pub low_candidate : IsAnd g n → AreLeastHeights g k label → height label low ≡ label n → (c : List ℕ) × In cs c × (height label c ≡ label n)
  low_candidate and least is_low = by_case are.are
    where
      by_case : WithLow label (label n) low (unions k are.xs are.ys) cs → (c : List ℕ) × In cs c × (height label c ≡ label n)
      by_case (there h e) = (
        h.0,
        subst (λ (l : List (List ℕ)). In l h.0) (sym e) h.1,
        (let a : height label h.0 ≤ label n = h.2 in let b : label n ≤ height label h.0 = least.least n h.0 and (its_unions h.0 h.1) in omega arith),
      )
      by_case (missing h e) = (low, subst (λ (l : List (List ℕ)). In l low) (sym e) (In-pushed (unions k are.xs are.ys) low), is_low)
