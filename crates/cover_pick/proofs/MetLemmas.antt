-- The pass down from the last AND node counts each node at or below those that were met once.
use Rattle.cover_pick.proofs.Common.{◌≡◌, ℕ, ◌+◌, ◌-◌, ◌/◌, ◌<◌, ◌≤◌, Bool, true, false, List, [], ◌∷◌, ◌++◌, length, refl, sym, ap, ◌∙◌, subst, inl, inr, arith, slice_set, length-set, length-append, slice_get_within, cases_eq, false≢true, Aig, first_and, node_count, IsAnd, IsNode, IsNormal, AreNormal, node_normal, pair_of, Pair, Option, In, In-left, In-push, In-pushed, IsDescending, IsInner, Path, here, left, right, mark_of, IsBelowMet, HasBelowMet, with_fan_ins, same_pair}
use Rattle.list_laws.proofs.Places.{at_within}
use Rattle.cover_pick.proofs.MarkLemmas.{mark_here, mark_stays, mark_from}
use Rattle.cover_pick.proofs.OwnLemmas.{path_on, end_inner}

-- the nodes from n on are counted, and the fan-ins of those of them that are met are met
pub record AreCountedFrom (g : Aig) (before met : List Bool) (n count : ℕ) : Type 0 where
  pub size : length met ≡ node_count g
  pub kept : (m : ℕ) → mark_of before m ≡ true → mark_of met m ≡ true
  pub only : (m : ℕ) → IsAnd g m → mark_of met m ≡ true → IsBelowMet g before m
  pub closed : (m : ℕ) (p : Pair) → n ≤ m → mark_of met m ≡ true → IsNode g p m → (mark_of met (p.x.0 / 2) ≡ true) × (mark_of met (p.y.0 / 2) ≡ true)
  pub nodes : List ℕ
  pub descending : IsDescending nodes
  pub above : (m : ℕ) → In nodes m → n ≤ m
  pub and : (m : ℕ) → In nodes m → IsAnd g m
  pub is_met : (m : ℕ) → In nodes m → mark_of met m ≡ true
  pub all : (m : ℕ) → n ≤ m → IsAnd g m → mark_of met m ≡ true → In nodes m
  pub count_is : count ≡ length nodes
  pub few : count + n ≤ node_count g

node_and : (g : Aig) (p : Pair) (n : ℕ) → IsNode g p n → IsAnd g n
node_and g p n is = (is.above, omega (arith, is.above, slice_get_within g.pairs (n - first_and g) p is.is))

inner_of : (g : Aig) (n : ℕ) → IsAnd g n → IsInner g [] n
inner_of g n and = record { and = and; apart = λ i. i }

pub count_start : (g : Aig) (met : List Bool) (n : ℕ) → length met ≡ node_count g → n ≡ node_count g → AreCountedFrom g met met n 0
count_start g met n e here_n = record {
  size = e;
  kept = λ m h. h;
  only = λ m and h. record { top = m; is_met = h; path = here (inner_of g m and) refl };
  closed = λ m p l h is. absurd (let b : m < node_count g = (node_and g p m is).1 in omega arith);
  nodes = [];
  descending = tt;
  above = λ m i. absurd i;
  and = λ m i. absurd i;
  is_met = λ m i. absurd i;
  all = λ m l and h. absurd (omega (arith, and.1));
  count_is = refl;
  few = omega arith;
}

-- a node that isn't met
pub count_skip : (g : Aig) (before met : List Bool) (n k count : ℕ) → k ≡ n + 1 → mark_of met n ≡ false → AreCountedFrom g before met k count → AreCountedFrom g before met n count
count_skip g before met n k count e off a = record {
  size = a.size;
  kept = a.kept;
  only = a.only;
  closed = λ m p l h is. a.closed m p (other m l h) h is;
  nodes = a.nodes;
  descending = a.descending;
  above = λ m i. let b : k ≤ m = a.above m i in omega arith;
  and = a.and;
  is_met = a.is_met;
  all = λ m l and h. a.all m (other m l h) and h;
  count_is = a.count_is;
  few = let b : count + k ≤ node_count g = a.few in omega arith;
}
  where
    other : (m : ℕ) → n ≤ m → mark_of met m ≡ true → k ≤ m
    other m l h = elim (cases_eq m n) [ inl q ↦ absurd (false≢true (sym off ∙ ap (mark_of met) (sym q) ∙ h)) | inr d ↦ omega arith ]

IsDescending-push : (xs : List ℕ) (n : ℕ) → IsDescending xs → ((m : ℕ) → In xs m → n < m) → IsDescending (xs ++ n ∷ [])
IsDescending-push [] n d b = ((λ m i. absurd i), tt)
IsDescending-push (x ∷ xs) n d b =
    ((λ m i. elim (In-push xs n m i) [ inl j ↦ d.0 m j | inr e ↦ subst (λ k. k < x) (sym e) (b x (inl refl)) ]), IsDescending-push xs n d.1 (λ m i. b m (inr i)))

-- a node that is met, whose fan-ins are met then
count_step : (g : Aig) (before met new : List Bool) (n k count : ℕ) (p : Pair) → k ≡ n + 1 → IsNode g p n → IsNormal n p → mark_of met n ≡ true → new ≡ slice_set (slice_set met (p.x.0 / 2) true) (p.y.0 / 2) true → AreCountedFrom g before met k count
    → AreCountedFrom g before new n (count + 1)
count_step g before met new n k count p e is normal on same a = subst (λ (ms : List Bool). AreCountedFrom g before ms n (count + 1)) (sym same) (record {
  size = length-set mid y true ∙ length-set met x true ∙ a.size;
  kept = λ m h. stay m (a.kept m h);
  only = λ m an h. elim (mark_from mid y m h) [
    | inl q ↦ subst (λ i. IsBelowMet g before i) (sym q) (under y (λ an_y. right p (inner_of g n and) is (here (inner_of g y an_y) refl)) (subst (λ i. IsAnd g i) q an))
    | inr h1 ↦ elim (mark_from met x m h1) [
      | inl q ↦ subst (λ i. IsBelowMet g before i) (sym q) (under x (λ an_x. left p (inner_of g n and) is (here (inner_of g x an_x) refl)) (subst (λ i. IsAnd g i) q an))
      | inr h2 ↦ a.only m an h2
    ]
  ];
  closed = λ m q l h at. elim (cases_eq m n) [
    | inl eq ↦ (let pair_is : p ≡ q = same_pair g p q n is (subst (λ i. IsNode g q i) eq at) in subst (λ (r : Pair). (mark_of end (r.x.0 / 2) ≡ true) × (mark_of end (r.y.0 / 2) ≡ true)) pair_is (x_on, y_on))
    | inr d ↦ (let both = a.closed m q (omega arith) (was m (omega arith) h) at in (stay (q.x.0 / 2) both.0, stay (q.y.0 / 2) both.1))
  ];
  nodes = a.nodes ++ n ∷ [];
  descending = IsDescending-push a.nodes n a.descending (λ m i. let b : k ≤ m = a.above m i in omega arith);
  above = λ m i. elim (In-push a.nodes n m i) [ inl j ↦ (let b : k ≤ m = a.above m j in omega arith) | inr q ↦ omega arith ];
  and = λ m i. elim (In-push a.nodes n m i) [ inl j ↦ a.and m j | inr q ↦ subst (λ i. IsAnd g i) (sym q) and ];
  is_met = λ m i. elim (In-push a.nodes n m i) [ inl j ↦ stay m (a.is_met m j) | inr q ↦ subst (λ i. mark_of end i ≡ true) (sym q) (stay n on) ];
  all = λ m l an h. elim (cases_eq m n) [
    | inl q ↦ subst (λ i. In (a.nodes ++ n ∷ []) i) (sym q) (In-pushed a.nodes n)
    | inr d ↦ In-left a.nodes (n ∷ []) m (a.all m (omega arith) an (was m (omega arith) h))
  ];
  count_is = omega (arith, a.count_is, length-append a.nodes (n ∷ []));
  few = omega (arith, a.few);
})
  where
    x : ℕ
    x = p.x.0 / 2

    y : ℕ
    y = p.y.0 / 2

    mid : List Bool
    mid = slice_set met x true

    end : List Bool
    end = slice_set mid y true

    and : IsAnd g n
    and = node_and g p n is

    x_below : x < n
    x_below = omega (arith, normal.ordered, normal.below)

    y_below : y < n
    y_below = normal.below

    stay : (m : ℕ) → mark_of met m ≡ true → mark_of end m ≡ true
    stay m h = mark_stays mid y m (mark_stays met x m h)

    x_on : mark_of end x ≡ true
    x_on = mark_stays mid y x (mark_here met x true (omega (arith, x_below, and.1, a.size)))

    y_on : mark_of end y ≡ true
    y_on = mark_here mid y true (omega (arith, y_below, and.1, a.size, length-set met x true))

    was : (m : ℕ) → n < m → mark_of end m ≡ true → mark_of met m ≡ true
    was m l h = elim (mark_from mid y m h) [ inl q ↦ absurd (omega (arith, y_below)) | inr h1 ↦ elim (mark_from met x m h1) [ inl q ↦ absurd (omega (arith, x_below)) | inr h2 ↦ h2 ] ]

    under : (m : ℕ) → (IsAnd g m → Path g [] m n) → IsAnd g m → IsBelowMet g before m
    under m way an = let b = a.only n and on in record { top = b.top; is_met = b.is_met; path = path_on g [] (way an) b.path }

pub count_next : (g : Aig) (before met new : List Bool) (n k count : ℕ) → AreNormal (first_and g) g.pairs → k ≡ n + 1 → IsAnd g n → mark_of met n ≡ true → new ≡ with_fan_ins (pair_of g n) met → AreCountedFrom g before met k count → AreCountedFrom g before new n (count + 1)
count_next g before met new n k count normal e and on same a =
    let at = at_within g.pairs (n - first_and g) (omega (arith, and.0, and.1)) in
    let is : IsNode g at.0 n = record { above = and.0; is = at.1 } in
    count_step g before met new n k count at.0 e is (node_normal g n at.0 normal is) on (same ∙ ap (λ (o : Option Pair). with_fan_ins o met) at.1) a

met_path : (g : Aig) (before met : List Bool) (n count : ℕ) → n ≡ first_and g → AreCountedFrom g before met n count → {m k : ℕ} → Path g [] m k → mark_of met k ≡ true → mark_of met m ≡ true
met_path g before met n count e a (here t q) h = subst (λ i. mark_of met i ≡ true) q h
met_path g before met n count e a {m} {k} (left p t is w) h = met_path g before met n count e a w (a.closed k p (omega (arith, t.and.0)) h is).0
met_path g before met n count e a {m} {k} (right p t is w) h = met_path g before met n count e a w (a.closed k p (omega (arith, t.and.0)) h is).1

pub count_end : (g : Aig) (before met : List Bool) (n count : ℕ) → n ≡ first_and g → AreCountedFrom g before met n count → HasBelowMet g before count
count_end g before met n count e a = record {
  nodes = a.nodes;
  are = record {
    descending = a.descending;
    only = λ m i. a.only m (a.and m i) (a.is_met m i);
    all = λ m b. let and : IsAnd g m = (end_inner g [] b.path).and in a.all m (omega (arith, and.0)) and (met_path g before met n count e a b.path (a.kept b.top b.is_met));
  };
  is = a.count_is;
}
