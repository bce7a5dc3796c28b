-- The least unions of the sets of two fan-ins are the minimal cuts of the node.
use Rattle.cut_enum.proofs.Common.{◌≡◌, ℕ, suc, ◌/◌, ◌<◌, ◌≤◌, true, false, List, [], ◌∷◌, length, refl, sym, ◌∙◌, subst, inl, inr, ◌⊎◌, arith, Aig, first_and, IsAnd, IsNormal, AreNormal, Regular, Parameter, Pair, In, Within, IsAscending, AreApart, union, merged, starts_empty, with_own, IsSource, IsNode, Blocks, member, constant, parameter, fan_ins, CanBeLeaf, IsCut, IsMinimal, AreMinimal, Covers, Blocks-within, regular_blocked, contains_one, length_within, same_within, false≢true, choose, rules, union_left, union_right, In-union, IsAscending-union, union_within}
use Rattle.aig_core.proofs.NodeLemmas.{source_below, same_pair}
use Rattle.cut_enum.proofs.LevelLemmas.{IsRising, IsRising-ordered, first_least}
use Rattle.cut_enum.proofs.LeastLemmas.{IsLeast, IsLeast-merged, merged_covers, merged_only, IsUnionOf}

-- The sets from which a node's readers make theirs: each blocks the node, and each list that blocks it has one within.
pub record IsFront (g : Aig) (k m : ℕ) (cs : List (List ℕ)) : Type 0 where
  pub ascending : (c : List ℕ) → In cs c → IsAscending c
  pub leaves : (c : List ℕ) (l : ℕ) → In cs c → In c l → (l ≤ m) × CanBeLeaf g l
  pub blocks : (c : List ℕ) → In cs c → Blocks g c m
  pub contains : (c : List ℕ) → IsAscending c → length c ≤ k → Blocks g c m → Covers cs c
  pub rising : IsRising cs
  pub apart : (c d : List ℕ) → In cs c → In cs d → Within c d → c ≡ d

module _ (g : Aig) (k n : ℕ) (p : Pair) (xs ys : List (List ℕ)) (node : IsNode g p n) (normal : IsNormal n p)
    (x : IsFront g k (p.x.0 / 2) xs) (y : IsFront g k (p.y.0 / 2) ys) where
  -- a list that blocks the node and doesn't have it contains a merged set
  blocked_cases : (c : List ℕ) → IsAscending c → length c ≤ k → Blocks g c n → In c n ⊎ Covers (merged k xs ys) c
  blocked_cases c up few (member i) = inl i
  blocked_cases c up few (constant e) = absurd (let a : first_and g ≤ n = node.above in omega arith)
  blocked_cases c up few (parameter s) = absurd (let a : first_and g ≤ n = node.above in let b : n < first_and g = source_below g Parameter n s in omega arith)
  blocked_cases c up few (fan_ins q is bx by) =
      let e : q ≡ p = same_pair g q p n is node in
      let a : Covers xs c = x.contains c up few (subst (λ (r : Pair). Blocks g c (r.x.0 / 2)) e bx) in
      let b : Covers ys c = y.contains c up few (subst (λ (r : Pair). Blocks g c (r.y.0 / 2)) e by) in
      let w : Within (union b.by a.by) c = union_within b.by a.by c b.part a.part in
      let short : length (union b.by a.by) ≤ length c = length_within c (union b.by a.by) up (IsAscending-union b.by a.by (x.ascending a.by a.in')) w in
      let m : Covers (merged k xs ys) (union b.by a.by) = merged_covers xs ys x.ascending y.ascending x.rising y.rising k a.by b.by a.in' b.in' (omega arith) in
      inr (record { by = m.by; in' = m.in'; part = λ l i. w l (m.part l i) })

  leaf_below : (l : ℕ) (left right : List ℕ) → In xs left → In ys right → In right l ⊎ In left l → (l < n) × CanBeLeaf g l
  leaf_below l left right i j (inl h) = let o : p.y.0 / 2 < n = normal.below in let b : l ≤ p.y.0 / 2 = (y.leaves right l j h).0 in (omega arith, (y.leaves right l j h).1)
  leaf_below l left right i j (inr h) = let o : p.y.0 / 2 < n = normal.below in let q : p.x.0 / 2 < p.y.0 / 2 = normal.ordered in let b : l ≤ p.x.0 / 2 = (x.leaves left l i h).0 in (omega arith, (x.leaves left l i h).1)

  least_of : IsLeast (suc k) (merged k xs ys)
  least_of = IsLeast-merged xs ys x.ascending y.ascending k

  union_cut : (c : List ℕ) → IsUnionOf xs ys c → length c ≤ k → IsCut g k n c
  union_cut c u few = rw u.is (record {
    ascending = IsAscending-union u.right u.left (x.ascending u.left u.in_left);
    few = rw u.is at few;
    below = λ l i. leaf_below l u.left u.right u.in_left u.in_right (In-union u.right u.left l i);
    blocks = fan_ins p node (Blocks-within g u.left (union u.right u.left) (union_right u.right u.left) (x.blocks u.left u.in_left))
        (Blocks-within g u.right (union u.right u.left) (union_left u.right u.left) (y.blocks u.right u.in_right));
  })

  merged_cut : (c : List ℕ) → In (merged k xs ys) c → IsCut g k n c
  merged_cut c i = let l : length c < suc k = least_of.short c i in union_cut c (merged_only xs ys x.ascending y.ascending k c i) (omega arith)

  -- no cut has the node itself
  covered : (c : List ℕ) → IsCut g k n c → Covers (merged k xs ys) c
  covered c cut = elim (blocked_cases c cut.ascending cut.few cut.blocks) [ inl i ↦ absurd (let l : n < n = (cut.below n i).0 in omega arith) | inr r ↦ r ]

  least_cut : (c : List ℕ) → In (merged k xs ys) c → (d : List ℕ) → IsCut g k n d → Within d c → d ≡ c
  least_cut c i d cut w =
      let r : Covers (merged k xs ys) d = covered d cut in
      same_within d c cut.ascending (least_of.ascending c i) w (λ l j. r.part l (subst (λ s. In s l) (sym (least_of.apart r.by c r.in' i (λ l j. w l (r.part l j)))) j))

  minimal_in : (c : List ℕ) → IsMinimal g k n c → In (merged k xs ys) c
  minimal_in c m =
      let r : Covers (merged k xs ys) c = covered c m.cut in
      subst (λ s. In (merged k xs ys) s) (m.least r.by (merged_cut r.by r.in') r.part) r.in'

  -- Merging the two fan-ins' lists, and dropping what contains another, gives exactly the minimal cuts.
  pub AreMinimal-merged : AreMinimal g k n (merged k xs ys)
  AreMinimal-merged = record {
    only = λ c i. record { cut = merged_cut c i; least = least_cut c i };
    all = minimal_in;
    ordered = least_of.ordered;
  }

front_leaves : (g : Aig) (k n : ℕ) (cs : List (List ℕ)) → IsAnd g n → AreMinimal g k n cs → (c : List ℕ) (l : ℕ) → In ((n ∷ []) ∷ cs) c → In c l → (l ≤ n) × CanBeLeaf g l
front_leaves g k n cs and m c l (inl e) h = elim (let i : In (n ∷ []) l = subst (λ s. In s l) e h in i) [ inl q ↦ (omega arith, subst (λ s. CanBeLeaf g s) (sym q) (inr and)) | inr j ↦ absurd j ]
front_leaves g k n cs and m c l (inr i) h = let b : l < n = ((m.only c i).cut.below l h).0 in (omega arith, ((m.only c i).cut.below l h).1)

-- the one set of a list
only_one : (n : ℕ) (c : List ℕ) → In ((n ∷ []) ∷ []) c → c ≡ n ∷ []
only_one n c (inl e) = e
only_one n c (inr i) = absurd i

front_apart : (g : Aig) (k n : ℕ) (cs : List (List ℕ)) → AreMinimal g k n cs → ((c : List ℕ) → In cs c → 1 ≤ length c) → (c d : List ℕ) → In ((n ∷ []) ∷ cs) c → In ((n ∷ []) ∷ cs) d → Within c d → c ≡ d
front_apart g k n cs m some c d (inl p) (inl q) w = p ∙ sym q
front_apart g k n cs m some c d (inl p) (inr j) w =
    let i : In d n = w n (subst (λ s. In s n) (sym p) (inl refl)) in let b : n < n = ((m.only d j).cut.below n i).0 in absurd (omega arith)
front_apart g k n cs m some [] d (inr i) (inl q) w = absurd (let l : 1 ≤ 0 = some [] i in omega arith)
front_apart g k n cs m some (l ∷ ls) d (inr i) (inl q) w =
    let j : In (n ∷ []) l = subst (λ s. In s l) q (w l (inl refl)) in elim j [ inl e ↦ absurd (omega (arith, ((m.only (l ∷ ls) i).cut.below l (inl refl)).0)) | inr h ↦ absurd h ]
front_apart g k n cs m some c d (inr i) (inr j) w = (m.only d j).least c (m.only c i).cut w

-- the front of an AND node without the empty cut: itself, and its cuts
own_front : (g : Aig) (k n : ℕ) (cs : List (List ℕ)) → AreNormal (first_and g) g.pairs → IsAnd g n → AreMinimal g k n cs → ((c : List ℕ) → In cs c → 1 ≤ length c) → IsFront g k n ((n ∷ []) ∷ cs)
own_front g k n cs normal and m some = record {
  ascending = λ c i. elim i [ inl e ↦ subst IsAscending (sym e) ((λ l j. absurd j), tt) | inr j ↦ (m.only c j).cut.ascending ];
  leaves = λ c l i h. front_leaves g k n cs and m c l i h;
  blocks = λ c i. elim i [ inl e ↦ subst (λ s. Blocks g s n) (sym e) (member (inl refl)) | inr j ↦ (m.only c j).cut.blocks ];
  contains = λ c up few b. elim ((contains_one g normal k n cs and m).each c up few b) [
    | inl i ↦ record { by = n ∷ []; in' = inl refl; part = λ l j. elim j [ inl e ↦ subst (λ s. In c s) (sym e) i | inr j ↦ absurd j ] }
    | inr r ↦ record { by = r.by; in' = inr r.in'; part = r.part }
  ];
  rising = ((λ c i. some c i), IsRising-ordered cs m.ordered);
  apart = front_apart g k n cs m some;
}

-- the front of an AND node with the empty cut: its cuts
free_front : (g : Aig) (k n : ℕ) (cs : List (List ℕ)) → AreMinimal g k n cs → In cs [] → IsFront g k n cs
free_front g k n cs m i = record {
  ascending = λ c j. (m.only c j).cut.ascending;
  leaves = λ c l j h. (let b : l < n = ((m.only c j).cut.below l h).0 in (omega arith, ((m.only c j).cut.below l h).1));
  blocks = λ c j. (m.only c j).cut.blocks;
  contains = λ c up few _. record { by = []; in' = i; part = λ l j. absurd j };
  rising = IsRising-ordered cs m.ordered;
  apart = λ c d h j w. (m.only d j).least c (m.only c h).cut w;
}

some_leaves : (cs : List (List ℕ)) → IsRising cs → starts_empty cs ≡ false → (c : List ℕ) → In cs c → 1 ≤ length c
some_leaves [] r e c i = absurd i
some_leaves ([] ∷ cs) r e c i = absurd (false≢true (sym e))
some_leaves ((l ∷ ls) ∷ cs) r e c i = let h : length (l ∷ ls) ≤ length c = first_least (l ∷ ls) cs c r i in omega arith

first_empty : (cs : List (List ℕ)) → starts_empty cs ≡ true → In cs []
first_empty ([] ∷ cs) e = inl refl
first_empty cs e = absurd (false≢true e)

pub IsFront-node : (g : Aig) (k n : ℕ) (cs : List (List ℕ)) → AreNormal (first_and g) g.pairs → IsAnd g n → AreMinimal g k n cs → IsFront g k n (with_own n cs)
IsFront-node g k n cs normal and m =
    choose (λ s. IsFront g k n s) (starts_empty cs) cs ((n ∷ []) ∷ cs) (λ t. free_front g k n cs m (first_empty cs t))
    (λ f. own_front g k n cs normal and m (some_leaves cs (IsRising-ordered cs m.ordered) f))

-- the front of the constant and of a parameter: the empty set
pub IsFront-free : (g : Aig) (k n : ℕ) → Blocks g [] n → IsFront g k n ([] ∷ [])
IsFront-free g k n b = search rules

regular_leaves : (g : Aig) (n : ℕ) → IsSource g Regular n → (c : List ℕ) (l : ℕ) → In ((n ∷ []) ∷ []) c → In c l → (l ≤ n) × CanBeLeaf g l
regular_leaves g n s c l (inl e) h = elim (let i : In (n ∷ []) l = subst (λ s. In s l) e h in i) [ inl q ↦ (omega arith, subst (λ m. CanBeLeaf g m) (sym q) (inl s)) | inr j ↦ absurd j ]
regular_leaves g n s c l (inr i) h = absurd i

-- the front of a regular source: the source
pub IsFront-regular : (g : Aig) (k n : ℕ) → IsSource g Regular n → IsFront g k n ((n ∷ []) ∷ [])
IsFront-regular g k n s = record {
  ascending = λ c i. elim i [ inl e ↦ subst IsAscending (sym e) ((λ l j. absurd j), tt) | inr j ↦ absurd j ];
  leaves = λ c l i h. regular_leaves g n s c l i h;
  blocks = λ c i. elim i [ inl e ↦ subst (λ s. Blocks g s n) (sym e) (member (inl refl)) | inr j ↦ absurd j ];
  contains = λ c up few b. record { by = n ∷ []; in' = inl refl; part = λ l j. elim j [ inl e ↦ subst (λ s. In c s) (sym e) (regular_blocked g c s b) | inr j ↦ absurd j ] };
  rising = ((λ c i. absurd i), tt);
  apart = λ c d i j w. only_one n c i ∙ sym (only_one n d j);
}

-- none of a front is within another
pub AreApart-front : (g : Aig) (k m : ℕ) (cs : List (List ℕ)) → IsFront g k m cs → AreApart cs
AreApart-front g k m cs f = record { ascending = f.ascending; apart = f.apart }
