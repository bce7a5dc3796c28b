-- Rows of cuts in a few lists: reading a cut, and putting one more cut or row at the end.
use Rattle.cut_sets.proofs.Common.{◌≡◌, ℕ, suc, ◌+◌, ◌-◌, ◌*◌, ◌<◌, ◌≤◌, List, [], ◌∷◌, ◌++◌, length, get_or, map, take, drop, slice_range, sum_by, refl, sym, ap, ◌∙◌, subst, inl, inr, arith, cases_lt, length-append, length-map, length-drop, length-take-le, get_or-take, get_or-drop, get_or-map, map-append, take_all, sum_by_push, In, In-append, In-get_or, signature_of, parts_from, parts_of, RisesTo, StartsTo, IsShort, AreFlatCuts, AreFlatRows, MOST_LEAVES, MOST_CUTS, rules}
use Rattle.cut_sets.proofs.SpanLemmas.{rises_le, parts_of-count, parts_of-at, parts_of-past, parts_of-push, starts_push, starts-bounds}

slice_length : {A : Type 0} (items : List A) (a b : ℕ) → b ≤ length items → length (slice_range items a b) ≡ b - a
slice_length items a b l = length-take-le (b - a) (drop a items) (omega (arith, length-drop a items))

-- cuts of few leaves have few leaves together
few_from : (most start : ℕ) (ends items : List ℕ) → RisesTo (length items) start ends → ((c : List ℕ) → In (parts_from start ends items) c → length c ≤ most)
    → length items ≤ start + most * length (parts_from start ends items)
few_from most start [] items r few = let e : start ≡ length items = r in omega arith
few_from most start (e ∷ ends) items r few =
    let l : e ≤ length items = rises_le (length items) e ends r.1 in
    let m : most * suc (length (parts_from e ends items)) ≡ most + most * length (parts_from e ends items) = omega arith in
    omega (arith, slice_length items start e l, few (slice_range items start e) (inl refl), few_from most e ends items r.1 (λ c i. few c (inr i)))

pub few_leaves : (leaves starts signatures : List ℕ) → AreFlatCuts leaves starts signatures → length leaves ≤ MOST_LEAVES * length (parts_of starts leaves)
few_leaves leaves [] signatures flat = absurd flat.starts_to
few_leaves leaves (s ∷ ends) signatures flat = let z : s ≡ 0 = flat.first in let h : length leaves ≤ s + MOST_LEAVES * length (parts_from s ends leaves) = few_from MOST_LEAVES s ends leaves flat.starts_to (λ c i. (flat.short c i).few) in omega arith

-- one more cut
pub pushed_parts : (leaves starts signatures cut : List ℕ) (b : ℕ) → AreFlatCuts leaves starts signatures → b ≡ length (leaves ++ cut)
    → parts_of (starts ++ b ∷ []) (leaves ++ cut) ≡ parts_of starts leaves ++ cut ∷ []
pushed_parts leaves starts signatures cut b flat e = parts_of-push starts leaves cut b flat.starts_to (e ∙ length-append leaves cut)

first_push : (starts : List ℕ) (last b : ℕ) → StartsTo last starts → get_or starts 0 0 ≡ 0 → get_or (starts ++ b ∷ []) 0 0 ≡ 0
first_push [] last b s e = absurd s
first_push (x ∷ xs) last b s e = e

pub flat_push : (leaves starts signatures cut : List ℕ) (b s : ℕ) → AreFlatCuts leaves starts signatures → IsShort cut → b ≡ length (leaves ++ cut) → s ≡ signature_of cut
    → AreFlatCuts (leaves ++ cut) (starts ++ b ∷ []) (signatures ++ s ∷ [])
flat_push leaves starts signatures cut b s flat short e f =
    let p : parts_of (starts ++ b ∷ []) (leaves ++ cut) ≡ parts_of starts leaves ++ cut ∷ [] = pushed_parts leaves starts signatures cut b flat e in
    record {
      first = first_push starts (length leaves) b flat.starts_to flat.first;
      starts_to = subst (λ n. StartsTo n (starts ++ b ∷ [])) e (starts_push (length leaves) starts b flat.starts_to (omega (arith, length-append leaves cut)));
      short = λ c i. elim (In-append (parts_of starts leaves) (cut ∷ []) c (subst (λ (t : List (List ℕ)). In t c) p i)) [
        | inl j ↦ flat.short c j
        | inr j ↦ elim j [ inl q ↦ subst IsShort (sym q) short | inr z ↦ absurd z ]
      ];
      signed = ap (λ t. signatures ++ t ∷ []) f ∙ ap (λ t. t ++ signature_of cut ∷ []) flat.signed ∙ sym (map-append signature_of (parts_of starts leaves) (cut ∷ [])) ∙ ap (λ (t : List (List ℕ)). map signature_of t) (sym p);
    }

-- where a cut is among all leaves: from its start on, up to the next one's
pub record IsSpan (leaves starts signatures : List ℕ) (place : ℕ) : Type 0 where
  pub ordered : get_or starts place 0 ≤ get_or starts (place + 1) 0
  pub inside : get_or starts (place + 1) 0 ≤ length leaves
  pub few : get_or starts (place + 1) 0 - get_or starts place 0 ≤ MOST_LEAVES
  pub long : get_or starts (place + 1) 0 - get_or starts place 0 ≤ length (take (length leaves - get_or starts place 0) (drop (get_or starts place 0) leaves))
  pub leaves_are : take (get_or starts (place + 1) 0 - get_or starts place 0) (take (length leaves - get_or starts place 0) (drop (get_or starts place 0) leaves)) ≡ get_or (parts_of starts leaves) place []
  pub short : IsShort (get_or (parts_of starts leaves) place [])
  pub signature_in : place < length signatures
  pub signature_is : get_or signatures place 0 ≡ signature_of (get_or (parts_of starts leaves) place [])

pub span_at : (leaves starts signatures : List ℕ) (place : ℕ) → AreFlatCuts leaves starts signatures → place + 1 < length starts → IsSpan leaves starts signatures place
span_at leaves starts signatures place flat l =
    let bounds = starts-bounds (length leaves) starts place flat.starts_to l in
    let end : get_or starts (place + 1) 0 ≤ length leaves = bounds.1 in
    let at : get_or (parts_of starts leaves) place [] ≡ slice_range leaves (get_or starts place 0) (get_or starts (place + 1) 0) = parts_of-at starts leaves place l in
    let count : length (parts_of starts leaves) + 1 ≡ length starts = parts_of-count (length leaves) starts leaves flat.starts_to in
    let many : length signatures ≡ length (parts_of starts leaves) = ap length flat.signed ∙ length-map (parts_of starts leaves) signature_of in
    let inside : place < length (parts_of starts leaves) = omega arith in
    let short : IsShort (get_or (parts_of starts leaves) place []) = flat.short (get_or (parts_of starts leaves) place []) (In-get_or (parts_of starts leaves) place [] inside) in
    let size : length (get_or (parts_of starts leaves) place []) ≡ get_or starts (place + 1) 0 - get_or starts place 0 = ap length at ∙ slice_length leaves (get_or starts place 0) (get_or starts (place + 1) 0) end in
    let rest : length (drop (get_or starts place 0) leaves) ≡ length leaves - get_or starts place 0 = length-drop (get_or starts place 0) leaves in
    let all : take (length leaves - get_or starts place 0) (drop (get_or starts place 0) leaves) ≡ drop (get_or starts place 0) leaves = take_all (length leaves - get_or starts place 0) (drop (get_or starts place 0) leaves) (omega arith) in
    record {
      ordered = bounds.0;
      inside = end;
      few = omega (arith, short.few);
      long = omega (arith, ap length all);
      leaves_are = ap (λ t. take (get_or starts (place + 1) 0 - get_or starts place 0) t) all ∙ sym at;
      short = short;
      signature_in = omega arith;
      signature_is = ap (λ t. get_or t place 0) flat.signed ∙ get_or-map signature_of (parts_of starts leaves) place [] 0 inside;
    }

-- one more row
pub row_push : (leaves starts signatures rows : List ℕ) (leaves' starts' signatures' : List ℕ) (cuts : List (List ℕ)) (b : ℕ) → AreFlatRows leaves starts signatures rows → AreFlatCuts leaves' starts' signatures'
    → parts_of starts' leaves' ≡ parts_of starts leaves ++ cuts → b ≡ length signatures' → length (parts_of starts leaves) + length cuts ≤ MOST_CUTS → AreFlatRows leaves' starts' signatures' (rows ++ b ∷ [])
row_push leaves starts signatures rows leaves' starts' signatures' cuts b flat new p e most = grind (arith, length-append, length-map, parts_of-push, starts_push, sum_by, sum_by_push)

pub row_view : (leaves starts signatures rows : List ℕ) (leaves' starts' signatures' : List ℕ) (cuts : List (List ℕ)) (b : ℕ) → AreFlatRows leaves starts signatures rows → AreFlatCuts leaves' starts' signatures'
    → parts_of starts' leaves' ≡ parts_of starts leaves ++ cuts → b ≡ length signatures' → parts_of (rows ++ b ∷ []) (parts_of starts' leaves') ≡ parts_of rows (parts_of starts leaves) ++ cuts ∷ []
row_view leaves starts signatures rows leaves' starts' signatures' cuts b flat new p e = grind (arith, length-append, length-map, parts_of-push)

-- a node that has a cut has a row
pub row_inside : (rows : List ℕ) (cuts : List (List ℕ)) (n i : ℕ) → i < length (get_or (parts_of rows cuts) n []) → n + 1 < length rows
row_inside rows cuts n i l = search (rules, cases_lt, parts_of-past)

pub row_length : (rows : List ℕ) (cuts : List (List ℕ)) (n : ℕ) → StartsTo (length cuts) rows → n + 1 < length rows → length (get_or (parts_of rows cuts) n []) ≡ get_or rows (n + 1) 0 - get_or rows n 0
row_length rows cuts n s l = ap length (parts_of-at rows cuts n l) ∙ slice_length cuts (get_or rows n 0) (get_or rows (n + 1) 0) (starts-bounds (length cuts) rows n s l).1

-- where a cut is: at its place among all cuts
pub record IsCutAt (rows : List ℕ) (cuts : List (List ℕ)) (n i : ℕ) : Type 0 where
  pub row : n + 1 < length rows
  pub inside : get_or rows n 0 + i < length cuts
  pub is : get_or cuts (get_or rows n 0 + i) [] ≡ get_or (get_or (parts_of rows cuts) n []) i []

pub cut_at : (rows : List ℕ) (cuts : List (List ℕ)) (n i : ℕ) → StartsTo (length cuts) rows → i < length (get_or (parts_of rows cuts) n []) → IsCutAt rows cuts n i
cut_at rows cuts n i s l = grind (arith, row_inside, starts-bounds, row_length, parts_of-at, get_or-take, get_or-drop)

-- what reading a cut comes to: the places are inside, and what lies there is the cut with its signature
pub record IsRead (leaves starts signatures rows : List ℕ) (row : List (List ℕ)) (n i : ℕ) : Type 0 where
  pub row_in : n + 1 < length rows
  pub start_in : get_or rows n 0 + i + 1 < length starts
  pub signature_in : get_or rows n 0 + i < length signatures
  pub leaves_are : get_or (parts_of starts leaves) (get_or rows n 0 + i) [] ≡ get_or row i []
  pub signature_is : get_or signatures (get_or rows n 0 + i) 0 ≡ signature_of (get_or row i [])
  pub short : IsShort (get_or row i [])

pub cut_read : (leaves starts signatures rows : List ℕ) (view : List (List (List ℕ))) (n i : ℕ) → AreFlatRows leaves starts signatures rows → parts_of rows (parts_of starts leaves) ≡ view → i < length (get_or view n [])
    → IsRead leaves starts signatures rows (get_or view n []) n i
cut_read leaves starts signatures rows view n i flat e l0 =
    let at : IsCutAt rows (parts_of starts leaves) n i = cut_at rows (parts_of starts leaves) n i flat.rows_to (subst (λ (t : List (List (List ℕ))). i < length (get_or t n [])) (sym e) l0) in
    let is : get_or (parts_of starts leaves) (get_or rows n 0 + i) [] ≡ get_or (get_or view n []) i [] = at.is ∙ ap (λ (t : List (List (List ℕ))). get_or (get_or t n []) i []) e in
    let count : length (parts_of starts leaves) + 1 ≡ length starts = parts_of-count (length leaves) starts leaves flat.cuts.starts_to in
    let many : length signatures ≡ length (parts_of starts leaves) = ap length flat.cuts.signed ∙ length-map (parts_of starts leaves) signature_of in
    let inside : get_or rows n 0 + i < length (parts_of starts leaves) = at.inside in
    record {
      row_in = at.row;
      start_in = omega arith;
      signature_in = omega arith;
      leaves_are = is;
      signature_is = ap (λ t. get_or t (get_or rows n 0 + i) 0) flat.cuts.signed ∙ (get_or-map signature_of (parts_of starts leaves) (get_or rows n 0 + i) [] 0 inside ∙ ap signature_of is);
      short = subst IsShort is (flat.cuts.short (get_or (parts_of starts leaves) (get_or rows n 0 + i) []) (In-get_or (parts_of starts leaves) (get_or rows n 0 + i) [] inside));
    }
