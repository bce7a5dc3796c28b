-- The place of a set in a list in order, and the halves in which it is looked for.
use Rattle.cut_enum.proofs.Common.{◌≡◌, ℕ, zero, suc, ◌+◌, ◌<◌, ◌≤◌, true, false, List, [], ◌∷◌, ◌++◌, length, get_or, map, take, drop, refl, sym, ap, ◌∙◌, subst, inl, inr, arith, length-append, length-drop, get_or_append_left, get_or_push, get_or-map, take-map, drop-map, map-append, take-append-drop, length-take-le, In, listed, AreListed, insert, false≢true, both_ways, cases_Bool, cases_lt, In-get_or, In-left, In-right, In-append, map_agree, before, IsOrdered, place, IsPlaceOf, IsAround, before_trans, before-same, get_or_read, length-map, rules}
use Rattle.cut_enum.proofs.LevelLemmas.{place_at, IsOrdered-place}

-- of two sets not both are before the other
not_both : (c d : List ℕ) → before c d ≡ true → before d c ≡ true → ⊥
not_both c d h k = false≢true (sym (before-same c) ∙ before_trans c d c h k)

not_same : (c d : List ℕ) → before c d ≡ true → c ≡ d → ⊥
not_same c d h e = false≢true (sym (before-same d) ∙ subst (λ m. before m d ≡ true) e h)

IsPlaceOf-tail : (c d : List ℕ) (ds : List (List ℕ)) (i : ℕ) → IsPlaceOf c (d ∷ ds) (suc i) → IsPlaceOf c ds i
IsPlaceOf-tail c d ds i p = record {
  within = (let w : suc i ≤ length (d ∷ ds) = p.within in omega arith);
  below = λ k l. p.below (suc k) (omega arith);
  above = λ k l m. p.above (suc k) (omega arith) (omega arith);
}

-- a set that doesn't stand at its place is put there
pub place-insert : (c : List ℕ) (ds : List (List ℕ)) (i : ℕ) → IsPlaceOf c ds i → (i < length ds → before c (get_or ds i []) ≡ true) → insert ds i c ≡ place c ds
place-insert c [] zero p here = refl
place-insert c [] (suc i) p here = absurd (let w : suc i ≤ 0 = p.within in omega arith)
place-insert c (d ∷ ds) zero p here = grind arith
place-insert c (d ∷ ds) (suc i) p here =
    let b : before d c ≡ true = p.below 0 (omega arith) in
    grind (arith, place_at, not_both, not_same, place-insert c ds i (IsPlaceOf-tail c d ds i p) (λ l. here (omega arith)))

-- and one that stands there already changes nothing
pub place-there : (c : List ℕ) (ds : List (List ℕ)) (i : ℕ) → IsPlaceOf c ds i → i < length ds → before c (get_or ds i []) ≡ false → place c ds ≡ ds
place-there c [] i p l n = absurd (omega arith)
place-there c (d ∷ ds) zero p l n =
    place_at (λ s. s ≡ d ∷ ds) c d ds (λ t. absurd (both_ways (before c d) n t)) (λ t. absurd (both_ways (before d c) (p.above 0 (omega arith) (omega arith)) t)) (λ q. refl)
place-there c (d ∷ ds) (suc i) p l n =
    let b : before d c ≡ true = p.below 0 (omega arith) in
    grind (arith, place_at, not_both, not_same, place-there c ds i (IsPlaceOf-tail c d ds i p) (omega arith) n)

-- of an ordered list each is before those after it
ordered_at : (cs : List (List ℕ)) → IsOrdered cs → (j k : ℕ) → j < k → k < length cs → before (get_or cs j []) (get_or cs k []) ≡ true
ordered_at (c ∷ cs) o zero (suc k) l m = o.0 (get_or cs k []) (In-get_or cs k [] (omega arith))
ordered_at (c ∷ cs) o (suc j) (suc k) l m = ordered_at cs o.1 j k (omega arith) (omega arith)
ordered_at cs o j k l m = absurd (omega arith)

below_middle : (c : List ℕ) (cs : List (List ℕ)) → IsOrdered cs → (m k : ℕ) → m < length cs → before (get_or cs m []) c ≡ true → k ≤ m → before (get_or cs k []) c ≡ true
below_middle c cs o m k l t h = elim (cases_lt k m) [
  | inl a ↦ before_trans (get_or cs k []) (get_or cs m []) c (ordered_at cs o k m a l) t
  | inr a ↦ (let e : k ≡ m = omega arith in subst (λ j. before (get_or cs j []) c ≡ true) (sym e) t)
]

above_middle : (c : List ℕ) (cs : List (List ℕ)) → IsOrdered cs → (m k : ℕ) → before (get_or cs m []) c ≡ false → m ≤ k → k < length cs → before (get_or cs k []) c ≡ false
above_middle c cs o m k f h l = search (rules, cases_Bool, both_ways, below_middle)

-- the upper half of a range has the place, or the lower one
pub upper_half : (c : List ℕ) (cs : List (List ℕ)) (low high m : ℕ) → IsOrdered cs → IsAround c cs low high → m < high → before (get_or cs m []) c ≡ true → IsAround c cs (m + 1) high
upper_half c cs low high m o a l t = search (rules, below_middle)

pub lower_half : (c : List ℕ) (cs : List (List ℕ)) (low high m : ℕ) → IsOrdered cs → IsAround c cs low high → low ≤ m → m < high → before (get_or cs m []) c ≡ false → IsAround c cs low m
lower_half c cs low high m o a h l f = search (rules, above_middle)

-- A set that comes last, and the number of its place among the others.
listed_insert : (cuts : List (List ℕ)) (places : List ℕ) (c : List ℕ) (at last : ℕ) → AreListed cuts places → last ≡ length cuts → listed (cuts ++ c ∷ []) (insert places at last) ≡ insert (listed cuts places) at c
listed_insert cuts places c at last are e =
    let f = λ (i : ℕ). get_or (cuts ++ c ∷ []) i [] in
    let old : map f places ≡ listed cuts places = map_agree f (λ i. get_or cuts i []) places (λ n i. get_or_append_left cuts (c ∷ []) [] n (are.within n i)) in
    let new : f last ≡ c = get_or_push cuts c [] last (sym e) in
    grind (arith, map-append, take-map, drop-map)

listed_within : (cuts : List (List ℕ)) (places : List ℕ) (c : List ℕ) (at last : ℕ) → AreListed cuts places → last ≡ length cuts → (n : ℕ) → In (insert places at last) n → n < length (cuts ++ c ∷ [])
listed_within cuts places c at last are e n i =
    let long : length (cuts ++ c ∷ []) ≡ length cuts + 1 = length-append cuts (c ∷ []) in
    let whole : take at places ++ drop at places ≡ places = take-append-drop at places in
    elim (In-append (take at places) (last ∷ drop at places) n i) [
      | inl j ↦ (let l : n < length cuts = are.within n (subst (λ s. In s n) whole (In-left (take at places) (drop at places) n j)) in omega arith)
      | inr (inl q) ↦ omega arith
      | inr (inr j) ↦ (let l : n < length cuts = are.within n (subst (λ s. In s n) whole (In-right (take at places) (drop at places) n j)) in omega arith)
    ]

-- with a set at its place, the places of all are in order
AreListed-place : (cuts : List (List ℕ)) (places : List ℕ) (c : List ℕ) (at last : ℕ) → AreListed cuts places → last ≡ length cuts → at ≤ length places → insert (listed cuts places) at c ≡ place c (listed cuts places)
    → AreListed (cuts ++ c ∷ []) (insert places at last)
AreListed-place cuts places c at last are e l free = record {
  ordered = subst (λ s. IsOrdered s) (sym (listed_insert cuts places c at last are e ∙ free)) (IsOrdered-place c (listed cuts places) are.ordered);
  within = listed_within cuts places c at last are e;
  all = grind (arith, length-append, length-take-le, length-drop);
}

-- the set at a place
listed_at : (cuts : List (List ℕ)) (places : List ℕ) (at : ℕ) → at < length places → get_or (listed cuts places) at [] ≡ get_or cuts (get_or places at 0) []
listed_at cuts places at l = get_or-map (λ i. get_or cuts i []) places at 0 [] l

place_within : (cuts : List (List ℕ)) (places : List ℕ) (at d : ℕ) → AreListed cuts places → at < length places → get_or places at d < length cuts
place_within cuts places at d are l = are.within (get_or places at d) (In-get_or places at d l)

pub cut_there : (cuts level : List (List ℕ)) (places : List ℕ) (at r : ℕ) → listed cuts places ≡ level → AreListed cuts places → at < length level → r ≡ get_or places at r
    → (r < length cuts) × ((c : List ℕ) → c ≡ get_or cuts r c → c ≡ get_or level at [])
cut_there cuts level places at r view are l e = grind (arith, length-map, get_or_read, place_within, listed_at)

-- a set that was put at its place, and its number at the place's
pub put_there : (cuts level new : List (List ℕ)) (places next : List ℕ) (c : List ℕ) (at last : ℕ) → listed cuts places ≡ level → AreListed cuts places → last ≡ length cuts → new ≡ cuts ++ c ∷ [] → next ≡ insert places at last → at ≤ length level
    → insert level at c ≡ place c level → AreListed new next × (listed new next ≡ place c level)
put_there cuts level new places next c at last view are e p q w there =
    let n : at ≤ length places = omega (arith, length-map places (λ (i : ℕ). get_or cuts i []), ap length view) in
    let free : insert (listed cuts places) at c ≡ place c (listed cuts places) = subst (λ (s : List (List ℕ)). insert s at c ≡ place c s) (sym view) there in
    rw (p, q) (AreListed-place cuts places c at last are e n free, listed_insert cuts places c at last are e ∙ free ∙ ap (λ (s : List (List ℕ)). place c s) view)
