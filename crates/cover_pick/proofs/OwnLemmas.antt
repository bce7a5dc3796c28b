-- LUTs have exactly one work, whatever nodes are counted once: their own and their shared nodes exist, and are the only ones.
use Rattle.cover_pick.proofs.Common.{◌≡◌, ℕ, zero, suc, ◌+◌, ◌*◌, ◌/◌, ◌^◌, ◌<◌, Bool, List, [], ◌∷◌, length, refl, sym, ap, ◌∙◌, subst, inl, inr, ◌⊎◌, arith, cases_Bool, cases_eq, false≢true, Aig, first_and, node_count, AreNormal, In, IsDescending, Lut, IsCone, IsInner, Path, here, left, right, AreOwn, IsOwnWork, AreShared, IsWork, mark_of, once_in, in_or}
use Rattle.cover_pick.proofs.WorkLemmas.{cone_of, cone_is}
use Rattle.cover_pick.proofs.DistinctLemmas.{length_descending}

-- a way down, and another one from where it ends
pub path_on : (g : Aig) (c : List ℕ) {k m n : ℕ} → Path g c k m → Path g c m n → Path g c k n
path_on g c {k} w (here t e) = subst (λ i. Path g c k i) (sym e) w
path_on g c w (left p t e q) = left p t e (path_on g c w q)
path_on g c w (right p t e q) = right p t e (path_on g c w q)

-- its end is an AND node that is no leaf
pub end_inner : (g : Aig) (c : List ℕ) {m n : ℕ} → Path g c m n → IsInner g c m
end_inner g c (here t e) = subst (λ i. IsInner g c i) e t
end_inner g c (left p t e q) = end_inner g c q
end_inner g c (right p t e q) = end_inner g c q

-- it is one without leaves too
pub no_leaves_path : (g : Aig) (c : List ℕ) {m n : ℕ} → Path g c m n → Path g [] m n
no_leaves_path g c (here t e) = here (record { and = t.and; apart = λ i. i }) e
no_leaves_path g c (left p t e q) = left p (record { and = t.and; apart = λ i. i }) e (no_leaves_path g c q)
no_leaves_path g c (right p t e q) = right p (record { and = t.and; apart = λ i. i }) e (no_leaves_path g c q)

pub marked_or_not : (once : List Bool) (n : ℕ) → once_in once n ⊎ (once_in once n → ⊥)
marked_or_not once n = elim (cases_Bool (mark_of once n)) [ inl t ↦ inl t | inr f ↦ inr (λ t. false≢true (sym f ∙ t)) ]

-- the members of a list for which a decided property holds
record Sifted (Q : ℕ → Type 0) (xs : List ℕ) : Type 0 where
  pub nodes : List ℕ
  pub descending : IsDescending nodes
  pub only : (m : ℕ) → In nodes m → In xs m × Q m
  pub all : (m : ℕ) → In xs m → Q m → In nodes m

sift : (Q : ℕ → Type 0) → ((m : ℕ) → Q m ⊎ (Q m → ⊥)) → (xs : List ℕ) → IsDescending xs → Sifted Q xs
sift Q d [] o = record { nodes = []; descending = tt; only = λ m i. absurd i; all = λ m i q. i }
sift Q d (x ∷ xs) o =
    let r : Sifted Q xs = sift Q d xs o.1 in
    elim (d x) [
      | inl q ↦ record {
        nodes = x ∷ r.nodes;
        descending = ((λ m i. o.0 m (r.only m i).0), r.descending);
        only = λ m i. elim i [ inl e ↦ (inl e, subst Q (sym e) q) | inr j ↦ (let k = r.only m j in (inr k.0, k.1)) ];
        all = λ m i h. elim i [ inl e ↦ inl e | inr j ↦ inr (r.all m j h) ];
      }
      | inr bar ↦ record {
        nodes = r.nodes;
        descending = r.descending;
        only = λ m i. let k = r.only m i in (inr k.0, k.1);
        all = λ m i h. elim i [ inl e ↦ absurd (bar (subst Q e h)) | inr j ↦ r.all m j h ];
      }
    ]

-- all numbers below a bound
abbrev down : ℕ → List ℕ
down zero = []
down (suc n) = n ∷ down n

down_below : (n m : ℕ) → In (down n) m → m < n
down_below zero m i = absurd i
down_below (suc n) m (inl e) = omega arith
down_below (suc n) m (inr i) = omega (arith, down_below n m i)

down_all : (n m : ℕ) → m < n → In (down n) m
down_all zero m l = absurd (omega arith)
down_all (suc n) m l = elim (cases_eq m n) [ inl e ↦ inl e | inr d ↦ inr (down_all n m (omega arith)) ]

IsDescending-numbers : (n : ℕ) → IsDescending (down n)
IsDescending-numbers zero = tt
IsDescending-numbers (suc n) = (down_below n, IsDescending-numbers n)

module _ (g : Aig) (normal : AreNormal (first_and g) g.pairs) where
  -- a node of the cone of some LUT
  abbrev InCones : List Lut → ℕ → Type 0
  InCones ts m = (t : Lut) × In ts t × Path g t.leaves m (t.lit.0 / 2)

  in_cones : (ts : List Lut) → ((t : Lut) → In ts t → t.lit.0 < 2 * node_count g) → (m : ℕ) → InCones ts m ⊎ (InCones ts m → ⊥)
  in_cones [] inside m = inr (λ r. r.1)
  in_cones (t ∷ ts) inside m =
      let cone : IsCone g t.leaves (t.lit.0 / 2) (cone_of g t.leaves (t.lit.0 / 2)) = cone_is g t.leaves (t.lit.0 / 2) normal (omega (arith, inside t (inl refl))) in
      elim (in_or (cone_of g t.leaves (t.lit.0 / 2)) m) [
        | inl i ↦ inl (t, inl refl, cone.only m i)
        | inr off ↦ elim (in_cones ts (λ u j. inside u (inr j)) m) [
          | inl r ↦ inl (r.0, inr r.1, r.2)
          | inr bar ↦ inr (λ r. elim r.1 [ inl e ↦ off (cone.all m (subst (λ (u : Lut). Path g u.leaves m (u.lit.0 / 2)) e r.2)) | inr j ↦ bar (r.0, j, r.2) ])
        ]
      ]

  module _ (once : ℕ → Type 0) (decided : (n : ℕ) → once n ⊎ (once n → ⊥)) where
    pub own_there : (c : List ℕ) (n : ℕ) → n < node_count g → (nodes : List ℕ) × AreOwn g once c n nodes
    own_there c n inside =
        let cone : IsCone g c n (cone_of g c n) = cone_is g c n normal inside in
        let s : Sifted (λ m. once m → ⊥) (cone_of g c n) = sift (λ m. once m → ⊥) (λ m. elim (decided m) [ inl o ↦ inr (λ bar. bar o) | inr bar ↦ inl bar ]) (cone_of g c n) cone.descending in
        (s.nodes, record { descending = s.descending; only = λ m i. cone.only m (s.only m i).0; apart = λ m i. (s.only m i).1; all = λ m p bar. s.all m (cone.all m p) bar })

    pub works_there : (ts : List Lut) → ((t : Lut) → In ts t → t.lit.0 < 2 * node_count g) → (own : ℕ) × IsOwnWork g once ts own
    works_there [] inside = (0, refl)
    works_there (t ∷ ts) inside =
        let b : t.lit.0 < 2 * node_count g = inside t (inl refl) in
        let own = own_there t.leaves (t.lit.0 / 2) (omega arith) in
        let rest = works_there ts (λ u j. inside u (inr j)) in
        let first : ℕ = 2 ^ length t.leaves * (1 + length own.0) in
        (first + rest.0, (first, rest.0, record { nodes = own.0; are = own.1; work_is = refl }, rest.1, refl))

    pub shared_there : (ts : List Lut) → ((t : Lut) → In ts t → t.lit.0 < 2 * node_count g) → (nodes : List ℕ) × AreShared g once ts nodes
    shared_there ts inside =
        let s : Sifted (λ m. once m × InCones ts m) (down (node_count g)) = sift (λ m. once m × InCones ts m) both (down (node_count g)) (IsDescending-numbers (node_count g)) in
        (s.nodes, record { descending = s.descending; only = λ m i. let r = (s.only m i).1 in (r.0, r.1.0, r.1.1, r.1.2); all = λ m t i p o. s.all m (down_all (node_count g) m (end_inner g t.leaves p).and.1) (o, (t, i, p)) })
      where
        both : (m : ℕ) → (once m × InCones ts m) ⊎ (once m × InCones ts m → ⊥)
        both m = elim (decided m) [
          | inr bar ↦ inr (λ r. bar r.0)
          | inl o ↦ elim (in_cones ts inside m) [ inl r ↦ inl (o, r) | inr bar ↦ inr (λ r. bar r.1) ]
        ]

    pub work_there : (ts : List Lut) → ((t : Lut) → In ts t → t.lit.0 < 2 * node_count g) → (work : ℕ) × IsWork g once ts work
    work_there ts inside =
        let own = works_there ts inside in
        let shared = shared_there ts inside in
        (own.0 + length shared.0, record { own = own.0; is_own = own.1; shared = shared.0; are_shared = shared.1; work_is = refl })

-- and LUTs have one work
module _ (g : Aig) (once : ℕ → Type 0) where
  own_once : (ts : List Lut) (v w : ℕ) → IsOwnWork g once ts v → IsOwnWork g once ts w → v ≡ w
  own_once [] v w a b = a ∙ sym b
  own_once (t ∷ ts) v w a b =
      let same : length a.2.nodes ≡ length b.2.nodes =
      length_descending a.2.nodes b.2.nodes a.2.are.descending b.2.are.descending (λ m i. b.2.are.all m (a.2.are.only m i) (a.2.are.apart m i)) (λ m i. a.2.are.all m (b.2.are.only m i) (b.2.are.apart m i)) in
      let first : a.0 ≡ b.0 = a.2.work_is ∙ (ap (λ n. 2 ^ length t.leaves * (1 + n)) same ∙ sym b.2.work_is) in
      omega (arith, own_once ts a.1 b.1 a.3 b.3, a.4, b.4)

  shared_once : (ts : List Lut) (xs ys : List ℕ) → AreShared g once ts xs → AreShared g once ts ys → (m : ℕ) → In xs m → In ys m
  shared_once ts xs ys a b m i = let r = a.only m i in b.all m r.1 r.2 r.3 r.0

  pub work_once : (ts : List Lut) (v w : ℕ) → IsWork g once ts v → IsWork g once ts w → v ≡ w
  work_once ts v w a b =
      let same : length a.shared ≡ length b.shared = length_descending a.shared b.shared a.are_shared.descending b.are_shared.descending (shared_once ts a.shared b.shared a.are_shared b.are_shared) (shared_once ts b.shared a.shared b.are_shared a.are_shared) in
      omega (arith, own_once ts a.own b.own a.is_own b.is_own, a.work_is, b.work_is)

-- the same for nodes that are the same
module _ (g : Aig) (P Q : ℕ → Type 0) (to : (n : ℕ) → P n → Q n) (from : (n : ℕ) → Q n → P n) where
  own_by : (ts : List Lut) (w : ℕ) → IsOwnWork g P ts w → IsOwnWork g Q ts w
  own_by [] w is = is
  own_by (t ∷ ts) w is = (
    is.0,
    is.1,
    record {
      nodes = is.2.nodes;
      are = record { descending = is.2.are.descending; only = is.2.are.only; apart = λ m i q. is.2.are.apart m i (from m q); all = λ m p bar. is.2.are.all m p (λ x. bar (to m x)) };
      work_is = is.2.work_is;
    },
    own_by ts is.1 is.3,
    is.4,
  )

  pub work_by : (ts : List Lut) (w : ℕ) → IsWork g P ts w → IsWork g Q ts w
  work_by ts w is = record {
    own = is.own;
    is_own = own_by ts is.own is.is_own;
    shared = is.shared;
    are_shared = record {
      descending = is.are_shared.descending;
      only = λ m i. let r = is.are_shared.only m i in (to m r.0, r.1, r.2, r.3);
      all = λ m t i p q. is.are_shared.all m t i p (from m q);
    };
    work_is = is.work_is;
  }

-- where no node is counted once, the own nodes are the cone, and none are shared
pub cone_own : (g : Aig) (c : List ℕ) (n : ℕ) (cone : List ℕ) → IsCone g c n cone → AreOwn g (λ m. ⊥) c n cone
cone_own g c n cone is = record { descending = is.descending; only = is.only; apart = λ m i o. o; all = λ m p bar. is.all m p }

pub none_shared : (g : Aig) (ts : List Lut) → AreShared g (λ m. ⊥) ts []
none_shared g ts = record { descending = tt; only = λ m i. absurd i; all = λ m t i p o. absurd o }
