-- Sets serve a plan: the candidates of a node are cuts of it, and one of those that are taken is as low as the label.
use Rattle.bounded_cuts.proofs.Common.{◌≡◌, ℕ, zero, suc, ◌+◌, ◌-◌, ◌*◌, ◌/◌, ◌<◌, ◌≤◌, Bool, List, [], ◌++◌, length, length-append, length-map, get_or, refl, sym, ap, subst, ◌∙◌, inl, inr, ◌⊎◌, arith, false≢true, cases_Bool, cases_lt, get_or_from_slice_get, slice_get_within, In, Within, IsAscending, In-left, In-append, In-get_or, In-map, from_map, place_in, height, height_within, length_within, same_length_within, subset, subset_true, subset_from, cut_flow, candidate_at, places, AreFirst, IsLeastAt, IsLeastAtHeight, AreTakenPlaces, IsTaken, HasSet, AreOfUse, Aig, first_and, IsAnd, AreNormal, IsCut, AreLeastHeights, row_at, rules}
use Rattle.bounded_cuts.proofs.CutLemmas.{candidate_cut, low_candidate}

-- the places that are taken are inside
taken_inside : (k : ℕ) (label : ℕ → ℕ) (r : ℕ) (flows lows : List ℕ) (favoured : ℕ → Bool) (cs : List (List ℕ)) (taken : List ℕ) → AreTakenPlaces k label r flows lows favoured cs taken → (i : ℕ) → In taken i → i < length cs
taken_inside k label r flows lows favoured cs taken are i m = elim (In-append (are.low ++ are.short) are.rest i (subst (λ (l : List ℕ). In l i) are.is m)) [
  | inl j ↦ elim (In-append are.low are.short i j) [ inl h ↦ (are.low_are.only i h).least.inside | inr h ↦ (are.short_are.only i h).least.inside ]
  | inr j ↦ (are.rest_are.only i j).least.inside
]

-- a set consists of candidates
pub taken_from : (k : ℕ) (label : ℕ → ℕ) (r : ℕ) (flows lows : List ℕ) (favoured : ℕ → Bool) (cs set : List (List ℕ)) → IsTaken k label r flows lows favoured cs set → (c : List ℕ) → In set c → In cs c
taken_from k label r flows lows favoured cs set is c m =
    let at = from_map (candidate_at cs) is.taken c (subst (λ (l : List (List ℕ)). In l c) is.is m) in
    subst (In cs) (sym at.2) (In-get_or cs at.0 [] (taken_inside k label r flows lows favoured cs is.taken is.are at.0 at.1))

-- Rows that are taken from candidates, up to a node, consist of cuts.
pub rows_are_cuts : (g : Aig) → AreNormal (first_and g) g.pairs → (k : ℕ) (label : ℕ → ℕ) (lows : ℕ → List ℕ) → ((n : ℕ) → IsAnd g n → IsCut g k n (lows n)) → (counts : ℕ → ℕ) (favoured : ℕ → Bool) (rows : List (List (List ℕ))) (n : ℕ)
    → ((m : ℕ) → IsAnd g m → m < n → HasSet g k label lows counts favoured rows m)
    → (m : ℕ) (c : List ℕ) → IsAnd g m → m < n → In (row_at rows m) c → IsCut g k m c
rows_are_cuts g normal k label lows low_cuts counts favoured rows zero each m c and l i = absurd (omega arith)
rows_are_cuts g normal k label lows low_cuts counts favoured rows (suc n) each m c and l i =
    let made = each m and l in
    candidate_cut g k label (lows m) rows m made.0 normal
    (λ b d b_and b_l. rows_are_cuts g normal k label lows low_cuts counts favoured rows n (λ a a_and a_l. each a a_and (omega arith)) b d b_and (omega arith))
    (low_cuts m and) made.1 c (taken_from _ _ _ _ _ _ made.0 (row_at rows m) made.2 c i)

-- how many leaves the candidate at a place has
abbrev leaves : List (List ℕ) → ℕ → ℕ
leaves cs j = length (candidate_at cs j)

-- the candidate at place j is within the one at place i
abbrev IsPart : List (List ℕ) → ℕ → ℕ → Type 0
IsPart cs i j = Within (candidate_at cs j) (candidate_at cs i)

-- of the first n places whose candidates are within the one at place i, b has the fewest leaves, and is the first of those that have as many
record IsShortest (cs : List (List ℕ)) (i n b : ℕ) : Type 0 where
  inside : b < n
  part : IsPart cs i b
  least : (j : ℕ) → j < n → IsPart cs i j → leaves cs b ≤ leaves cs j
  first : (j : ℕ) → j < n → IsPart cs i j → leaves cs j ≤ leaves cs b → b ≤ j

-- what holds of the places below n and of n holds of those below n + 1
one_more : (P : ℕ → Type 0) (n : ℕ) → ((j : ℕ) → j < n → P j) → P n → (j : ℕ) → j < suc n → P j
one_more P n old new j l = elim (cases_lt j n) [ inl b ↦ old j b | inr b ↦ subst P (let e : n ≡ j = omega arith in e) new ]

module _ (cs : List (List ℕ)) (i n : ℕ) where
  -- place n is no part
  past_no_part : (IsPart cs i n → ⊥) → (b : ℕ) → IsShortest cs i n b → IsShortest cs i (suc n) b
  past_no_part apart b is = search (rules, one_more, leaves)

  -- place n has no fewer leaves
  past_longer : (b : ℕ) → leaves cs b ≤ leaves cs n → IsShortest cs i n b → IsShortest cs i (suc n) b
  past_longer b l is = search (rules, one_more, leaves)

  -- place n is a part of fewer leaves than those before
  at_shorter : IsPart cs i n → ((j : ℕ) → j < n → IsPart cs i j → leaves cs n < leaves cs j) → IsShortest cs i (suc n) n
  at_shorter w shorter = search (rules, one_more, leaves)

-- none of the first n places is a part, or one is the shortest
shortest_of : (cs : List (List ℕ)) (i n : ℕ) → ((j : ℕ) → j < n → IsPart cs i j → ⊥) ⊎ ((b : ℕ) × IsShortest cs i n b)
shortest_of cs i zero = inl (λ j l. absurd (omega arith))
shortest_of cs i (suc n) = elim (cases_Bool (subset (candidate_at cs n) (candidate_at cs i))) [
  | inl t ↦ (let w = subset_true (candidate_at cs n) (candidate_at cs i) t in
      elim (shortest_of cs i n) [
        | inl none ↦ inr (n, at_shorter cs i n w (λ j l v. absurd (none j l v)))
        | inr some ↦ elim (cases_lt (leaves cs n) (leaves cs some.0)) [
          | inl l ↦ inr (n, at_shorter cs i n w (λ j j_l v. let s : leaves cs some.0 ≤ leaves cs j = some.1.least j j_l v in omega arith))
          | inr l ↦ inr (some.0, past_longer cs i n some.0 (omega arith) some.1)
        ]
      ])
  | inr f ↦ (let apart : IsPart cs i n → ⊥ = (λ w. false≢true (sym f ∙ subset_from (candidate_at cs n) (candidate_at cs i) w)) in
      elim (shortest_of cs i n) [
        | inl none ↦ inl (one_more (λ (j : ℕ). IsPart cs i j → ⊥) n none apart)
        | inr some ↦ inr (some.0, past_no_part cs i n apart some.0 some.1)
      ])
]

-- Within each candidate there is one that contains no other one.
pub least_within : (cs : List (List ℕ)) → ((c : List ℕ) → In cs c → IsAscending c) → (i : ℕ) → i < length cs → (b : ℕ) × IsLeastAt cs b × Within (candidate_at cs b) (candidate_at cs i)
least_within cs up i l = elim (shortest_of cs i (length cs)) [
  | inl none ↦ absurd (none i l (λ n m. m))
  | inr some ↦ (let b = some.0 in
      let is = some.1 in
      let ascends : (j : ℕ) → j < length cs → IsAscending (candidate_at cs j) = (λ j j_l. up (candidate_at cs j) (In-get_or cs j [] j_l)) in (
        b,
        record {
          inside = is.inside;
          least = λ j j_l w. (
            same_length_within (candidate_at cs b) (candidate_at cs j) (ascends b is.inside) (ascends j j_l) w (is.least j j_l (λ n m. is.part n (w n m))),
            is.first j j_l (λ n m. is.part n (w n m)) (length_within (candidate_at cs b) (candidate_at cs j) (ascends b is.inside) (ascends j j_l) w),
          );
        },
        is.part,
      ))
]

module _ (k : ℕ) (label : ℕ → ℕ) (r : ℕ) (flows lows : List ℕ) (favoured : ℕ → Bool) (cs : List (List ℕ)) where
  -- a place of the first taking
  low_place : (low : List ℕ) → AreFirst (cut_flow lows) length cs (IsLeastAtHeight label r cs) (places k / 2) low → (b : ℕ) → IsLeastAtHeight label r cs b → (i : ℕ) × In low i × (height label (candidate_at cs i) ≡ r)
  low_place low are b is = elim (are.all b is) [
    | inl m ↦ (b, m, is.height_is)
    | inr full ↦ (let some : 0 < length low = (let z : places k ≡ 2 * k + 4 = refl in let e : length low ≡ places k / 2 = full.0 in omega arith) in
        (get_or low 0 0, (In-get_or low 0 0 some), (are.only (get_or low 0 0) (In-get_or low 0 0 some)).height_is))
  ]

  -- Of candidates that are no lower than the label, and one of them as low, one as low is taken.
  pub low_taken : (set : List (List ℕ)) → ((c : List ℕ) → In cs c → IsAscending c) → ((c : List ℕ) → In cs c → r ≤ height label c) → (c : List ℕ) × In cs c × (height label c ≡ r) → IsTaken k label r flows lows favoured cs set → (c : List ℕ) × In set c × (height label c ≡ r)
  low_taken set up above has is =
      let at = place_in cs has.0 has.1 in
      let c_is : candidate_at cs at.0 ≡ has.0 = get_or_from_slice_get cs at.0 has.0 [] at.1 in
      let b = least_within cs up at.0 (slice_get_within cs at.0 has.0 at.1) in
      let no_higher : height label (candidate_at cs b.0) ≤ height label has.0 = subst (λ (c : List ℕ). height label (candidate_at cs b.0) ≤ height label c) c_is (height_within label (candidate_at cs b.0) (candidate_at cs at.0) b.2) in
      let place = low_place is.are.low is.are.low_are b.0 (record { least = b.1; height_is = omega (arith, above (candidate_at cs b.0) (In-get_or cs b.0 [] b.1.inside)) }) in
      let in_taken : In is.taken place.0 = subst (λ (l : List ℕ). In l place.0) (sym is.are.is) (In-left (is.are.low ++ is.are.short) is.are.rest place.0 (In-left is.are.low is.are.short place.0 place.1)) in
      (candidate_at cs place.0, subst (λ (l : List (List ℕ)). In l (candidate_at cs place.0)) (sym is.is) (In-map (candidate_at cs) is.taken place.0 in_taken), place.2)

-- The sets of a graph serve a plan.
pub sets_serve : (g : Aig) → AreNormal (first_and g) g.pairs → (k : ℕ) (label : ℕ → ℕ) → AreLeastHeights g k label → (lows : ℕ → List ℕ) → ((n : ℕ) → IsAnd g n → IsCut g k n (lows n)) → ((n : ℕ) → IsAnd g n → height label (lows n) ≡ label n) → AreOfUse g k label lows
sets_serve g normal k label least lows low_cuts low_is counts favoured rows sets =
    let below : (n m : ℕ) (c : List ℕ) → IsAnd g m → m < n → In (row_at rows m) c → IsCut g k m c =
    (λ n. rows_are_cuts g normal k label lows low_cuts counts favoured rows n (λ m and _. sets.each m and)) in
    let cuts : (n : ℕ) (and : IsAnd g n) → (c : List ℕ) → In (sets.each n and).0 c → IsCut g k n c =
    (λ n and. candidate_cut g k label (lows n) rows n (sets.each n and).0 normal (below n) (low_cuts n and) (sets.each n and).1) in
    record {
      count = sets.count;
      cuts = λ n c and i. below (suc n) n c and (omega arith) i;
      low = λ n and.
          let made = sets.each n and in
          low_taken k label (label n) _ _ favoured made.0 (row_at rows n)
          (λ c i. (cuts n and c i).ascending)
          (λ c i. least.least n c and (cuts n and c i))
          (low_candidate g k label (lows n) rows n made.0 normal (below n) (low_cuts n and) made.1 and least (low_is n and)) made.2;
    }

-- a set has at most as many cuts as places
taken_few : (k : ℕ) (label : ℕ → ℕ) (r : ℕ) (flows lows : List ℕ) (favoured : ℕ → Bool) (cs : List (List ℕ)) (taken : List ℕ) → AreTakenPlaces k label r flows lows favoured cs taken → length taken ≤ places k
taken_few k label r flows lows favoured cs taken are = grind (arith, length-append)

pub set_few : (k : ℕ) (label : ℕ → ℕ) (r : ℕ) (flows lows : List ℕ) (favoured : ℕ → Bool) (cs set : List (List ℕ)) → IsTaken k label r flows lows favoured cs set → length set ≤ places k
set_few k label r flows lows favoured cs set is =
    omega (arith, taken_few k label r flows lows favoured cs is.taken is.are, ap length is.is ∙ length-map is.taken (candidate_at cs))
