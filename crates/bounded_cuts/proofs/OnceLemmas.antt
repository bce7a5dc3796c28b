-- There is one set for each node: two lists of sets that are made from the same are equal.
use Rattle.bounded_cuts.proofs.Common.{◌≡◌, ℕ, zero, suc, ◌+◌, ◌-◌, ◌/◌, ◌<◌, ◌≤◌, Bool, List, [], ◌∷◌, ◌++◌, length, map, refl, sym, ap, subst, ◌∙◌, inl, inr, arith, cases_eq, cases_lt, get_or_from_slice_get, slice_get_within, In, cut_flow, candidate_at, paid_flow, ComesBefore, by_first, by_second, by_place, AreFirst, AreInOrder, IsLeastAtHeight, IsLeft, AreTakenPlaces, places, Aig, first_and, node_count, IsAnd, IsSource, AreNormal, Pair, source_below, same_pair, row_at, regular_blocked, HandsOn, free, source, node, WithLow, there, missing, unions, AreCandidates, flows_below, AreOnce, IsTaken, AreSets}
use Rattle.aig_core.specs.declared.lit.Kind.TheVariants.{Regular}
use Rattle.list_laws.specs.Apart.{AreApart}
use Rattle.list_laws.proofs.Apart.{apart_short}
use Rattle.list_laws.proofs.Places.{same_list}
use Rattle.bounded_cuts.specs.declared.scope.Scope.TheVariants.{AnyHeight, LeastHeight}
use Rattle.bounded_cuts.proofs.GrowthLemmas.{AgreeBelow, candidates_agree, flows_agree, taken_as}

-- no two places come before each other
module _ (first second : List ℕ → ℕ) (cs : List (List ℕ)) where
  not_both : (i j : ℕ) → ComesBefore first second cs i j → ComesBefore first second cs j i → ⊥
  not_both i j (by_first a) (by_first b) = omega arith
  not_both i j (by_first a) (by_second d b) = omega arith
  not_both i j (by_first a) (by_place d e b) = omega arith
  not_both i j (by_second c a) (by_first b) = omega arith
  not_both i j (by_second c a) (by_second d b) = omega arith
  not_both i j (by_second c a) (by_place d e b) = omega arith
  not_both i j (by_place c f a) (by_first b) = omega arith
  not_both i j (by_place c f a) (by_second d b) = omega arith
  not_both i j (by_place c f a) (by_place d e b) = omega arith

  not_itself : (i : ℕ) → ComesBefore first second cs i i → ⊥
  not_itself i b = not_both i i b b

  order_apart : (is : List ℕ) → AreInOrder first second cs is → AreApart is
  order_apart [] o = tt
  order_apart (i ∷ is) o = (λ m. not_itself i (o.0 i m), order_apart is o.1)

  -- two lists in this order that have the same members
  same_order : (a b : List ℕ) → AreInOrder first second cs a → AreInOrder first second cs b → ((i : ℕ) → In a i → In b i) → ((i : ℕ) → In b i → In a i) → a ≡ b
  same_order [] [] oa ob to from = refl
  same_order [] (y ∷ ys) oa ob to from = absurd (from y (inl refl))
  same_order (x ∷ xs) [] oa ob to from = absurd (to x (inl refl))
  same_order (x ∷ xs) (y ∷ ys) oa ob to from =
      let e : x ≡ y = elim (to x (inl refl)) [
        | inl e ↦ e
        | inr m ↦ elim (from y (inl refl)) [ inl e ↦ sym e | inr n ↦ absurd (not_both x y (oa.0 y n) (ob.0 x m)) ]
      ] in
      let to' : (i : ℕ) → In xs i → In ys i = λ i m. elim (to i (inr m)) [ inl d ↦ absurd (not_itself x (subst (ComesBefore first second cs x) (d ∙ sym e) (oa.0 i m))) | inr n ↦ n ] in
      let from' : (i : ℕ) → In ys i → In xs i = λ i m. elim (from i (inr m)) [ inl d ↦ absurd (not_itself y (subst (ComesBefore first second cs y) (d ∙ e) (ob.0 i m))) | inr n ↦ n ] in
      ap (λ (z : ℕ). z ∷ xs) e ∙ ap (λ (zs : List ℕ). y ∷ zs) (same_order xs ys oa.1 ob.1 to' from')

  module _ (qualify : ℕ → Type 0) (most : ℕ) where
    -- each of the first places is one of them again
    firsts_within : (a b : List ℕ) → AreFirst first second cs qualify most a → AreFirst first second cs qualify most b → (i : ℕ) → In a i → In b i
    firsts_within a b are more i m = elim (more.all i (are.only i m)) [
      | inl n ↦ n
      | inr full ↦ (let within : (j : ℕ) → In (i ∷ b) j → In a j = λ j n. elim n [
        | inl e ↦ subst (In a) (sym e) m
        | inr n ↦ elim (are.all j (more.only j n)) [ inl k ↦ k | inr f ↦ absurd (not_both i j (f.1 i m) (full.1 j n)) ]
      ] in
          let apart : AreApart (i ∷ b) = (λ n. not_itself i (full.1 i n), order_apart b more.ordered) in
          let s : length (i ∷ b) ≤ length a = apart_short (i ∷ b) a apart within in
          let f : length a ≤ most = are.few in
          let e : length b ≡ most = full.0 in
          absurd (omega arith))
    ]

    same_first : (a b : List ℕ) → AreFirst first second cs qualify most a → AreFirst first second cs qualify most b → a ≡ b
    same_first a b are more = same_order a b are.ordered more.ordered (firsts_within a b are more) (firsts_within b a more are)

-- the three takings, one behind another
module _ (k : ℕ) (label : ℕ → ℕ) (r : ℕ) (flows lows : List ℕ) (favoured : ℕ → Bool) (cs : List (List ℕ)) where
  same_places : (a b : List ℕ) → AreTakenPlaces k label r flows lows favoured cs a → AreTakenPlaces k label r flows lows favoured cs b → a ≡ b
  same_places a b are more =
      let low : more.low ≡ are.low = same_first (cut_flow lows) length cs (IsLeastAtHeight label r cs) (places k / 2) more.low are.low more.low_are are.low_are in
      let short_are : AreFirst length (cut_flow flows) cs (IsLeft cs are.low) (places k / 4) more.short = subst (λ (l : List ℕ). AreFirst length (cut_flow flows) cs (IsLeft cs l) (places k / 4) more.short) low more.short_are in
      let short : more.short ≡ are.short = same_first length (cut_flow flows) cs (IsLeft cs are.low) (places k / 4) more.short are.short short_are are.short_are in
      let rest_low : AreFirst (paid_flow favoured flows) length cs (IsLeft cs (are.low ++ more.short)) (places k - (length are.low + length more.short)) more.rest = subst (λ (l : List ℕ). AreFirst (paid_flow favoured flows) length cs (IsLeft cs (l ++ more.short)) (places k - (length l + length more.short)) more.rest) low more.rest_are in
      let rest_are : AreFirst (paid_flow favoured flows) length cs (IsLeft cs (are.low ++ are.short)) (places k - (length are.low + length are.short)) more.rest = subst (λ (s : List ℕ). AreFirst (paid_flow favoured flows) length cs (IsLeft cs (are.low ++ s)) (places k - (length are.low + length s)) more.rest) short rest_low in
      let rest : more.rest ≡ are.rest = same_first (paid_flow favoured flows) length cs (IsLeft cs (are.low ++ are.short)) (places k - (length are.low + length are.short)) more.rest are.rest rest_are are.rest_are in
      are.is ∙ sym (more.is ∙ ap (λ (l : List ℕ). (l ++ more.short) ++ more.rest) low ∙ ap (λ (s : List ℕ). (are.low ++ s) ++ more.rest) short ∙ ap (λ (t : List ℕ). (are.low ++ are.short) ++ t) rest)

  same_taken : (a b : List (List ℕ)) → IsTaken k label r flows lows favoured cs a → IsTaken k label r flows lows favoured cs b → a ≡ b
  same_taken a b are more = are.is ∙ ap (map (candidate_at cs)) (same_places are.taken more.taken are.are more.are) ∙ sym more.is

-- the candidates, where the low cut is there or missing
same_with_low : (label : ℕ → ℕ) (r : ℕ) (low : List ℕ) (us a b : List (List ℕ)) → WithLow label r low us a → WithLow label r low us b → a ≡ b
same_with_low label r low us a b (there h d) (there i e) = d ∙ sym e
same_with_low label r low us a b (there h d) (missing i e) = absurd (i h)
same_with_low label r low us a b (missing h d) (there i e) = absurd (h i)
same_with_low label r low us a b (missing h d) (missing i e) = d ∙ sym e

module _ (g : Aig) where
  -- a regular source is no AND node
  source_or_and : (m : ℕ) → IsSource g Regular m → IsAnd g m → ⊥
  source_or_and m s a = let l : m < first_and g = source_below g Regular m s in let h : first_and g ≤ m = a.0 in omega arith

  same_front : (rows : List (List (List ℕ))) (m : ℕ) (a b : List (List ℕ)) → HandsOn g rows m a → HandsOn g rows m b → a ≡ b
  same_front rows m a b (free h d) (free i e) = d ∙ sym e
  same_front rows m a b (free h d) (source i e) = absurd (regular_blocked g [] i h)
  same_front rows m a b (free h d) (node i j e) = absurd (j h)
  same_front rows m a b (source h d) (free i e) = absurd (regular_blocked g [] h i)
  same_front rows m a b (source h d) (source i e) = d ∙ sym e
  same_front rows m a b (source h d) (node i j e) = absurd (source_or_and m h i)
  same_front rows m a b (node h l d) (free i e) = absurd (l i)
  same_front rows m a b (node h l d) (source i e) = absurd (source_or_and m i h)
  same_front rows m a b (node h l d) (node i j e) = d ∙ sym e

  same_candidates : (k : ℕ) (label : ℕ → ℕ) (low : List ℕ) (rows : List (List (List ℕ))) (n : ℕ) (a b : List (List ℕ)) → AreCandidates g k label low rows n a → AreCandidates g k label low rows n b → a ≡ b
  same_candidates k label low rows n a b are other =
      let p : other.pair ≡ are.pair = same_pair g other.pair are.pair n other.is are.is in
      let xs : other.xs ≡ are.xs = same_front rows _ other.xs are.xs (subst (λ (q : Pair). HandsOn g rows (q.x.0 / 2) other.xs) p other.x_front) are.x_front in
      let ys : other.ys ≡ are.ys = same_front rows _ other.ys are.ys (subst (λ (q : Pair). HandsOn g rows (q.y.0 / 2) other.ys) p other.y_front) are.y_front in
      grind (arith, same_with_low)

  module _ (normal : AreNormal (first_and g) g.pairs) (k : ℕ) (label : ℕ → ℕ) (lows : ℕ → List ℕ) (counts : ℕ → ℕ) (favoured : ℕ → Bool) (rows more : List (List (List ℕ))) (are : AreSets g k label lows counts favoured rows) (others : AreSets g k label lows counts favoured more) where
    -- the set of a node, if those of the nodes below it are the same
    same_set : (n : ℕ) → IsAnd g n → AgreeBelow more rows n → row_at rows n ≡ row_at more n
    same_set n is same =
        let a = are.each n is in
        let b = others.each n is in
        let cs : b.0 ≡ a.0 = same_candidates k label (lows n) rows n b.0 a.0 (candidates_agree g k label (lows n) more rows n b.0 normal same b.1) a.1 in
        same_taken k label (label n) (flows_below g AnyHeight label rows counts n) (flows_below g LeastHeight label rows counts n) favoured a.0 (row_at rows n) (row_at more n) a.2
        (subst (λ (ds : List (List ℕ)). IsTaken k label (label n) (flows_below g AnyHeight label rows counts n) (flows_below g LeastHeight label rows counts n) favoured ds (row_at more n)) cs
        (taken_as k label (label n) _ _ _ _ favoured b.0 _ _ (sym (flows_agree g AnyHeight label more rows counts n same)) (sym (flows_agree g LeastHeight label more rows counts n same)) refl b.2))

    same_row : (n : ℕ) → n < node_count g → AgreeBelow more rows n → row_at rows n ≡ row_at more n
    same_row n l same = elim (cases_lt n (first_and g)) [
      | inl s ↦ are.sources n s ∙ sym (others.sources n s)
      | inr a ↦ same_set n (a, l) same
    ]

    same_below : (n : ℕ) → n ≤ node_count g → AgreeBelow more rows n
    same_below zero l m b = absurd (omega arith)
    same_below (suc n) l m b = elim (cases_eq m n) [
      | inl e ↦ subst (λ (j : ℕ). row_at rows j ≡ row_at more j) (sym e) (same_row n (omega arith) (same_below n (omega arith)))
      | inr e ↦ same_below n (omega arith) m (omega arith)
    ]

    all_same : rows ≡ more
    all_same = same_list rows more (are.count ∙ sym others.count) (λ i x y d e.
        let inside : i < length rows = slice_get_within rows i x d in
        let c : length rows ≡ node_count g = are.count in
        sym (get_or_from_slice_get rows i x [] d) ∙ same_below (node_count g) (omega arith) i (omega arith) ∙ get_or_from_slice_get more i y [] e)

-- two row lists that are the sets for the same labels, low cuts, counts and favoured nodes
pub sets_once : (g : Aig) → AreNormal (first_and g) g.pairs → (k : ℕ) (label : ℕ → ℕ) (lows : ℕ → List ℕ) → AreOnce g k label lows
sets_once g normal k label lows counts favoured rows more are others = all_same g normal k label lows counts favoured rows more are others
