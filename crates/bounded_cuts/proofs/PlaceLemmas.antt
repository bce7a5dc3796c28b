-- Three takings, one behind another.
use Rattle.bounded_cuts.proofs.Common.{◌≡◌, ℕ, ◌+◌, ◌-◌, ◌/◌, ◌≤◌, Bool, false, List, [], ◌++◌, length, sym, ap, subst, ◌∙◌, inl, inr, arith, length-append, replicate, length-replicate, get_or-replicate, get_or_past, cases_lt, false≢true, In, label_at, LeastHeight, FewestLeaves, LeastCost, cut_flow, paid_flow, AreFirst, IsLeastAtHeight, IsLeft, places, is_favoured, Pricing, AreTaking, MayTake, HasTaken, ArePlaced, rules}

-- before the first look
pub nothing_taken : (cs : List (List ℕ)) (looked : List Bool) (taken : List ℕ) (n : ℕ) → n ≡ length cs → looked ≡ replicate n false → taken ≡ [] → AreTaking cs looked taken
nothing_taken cs looked taken n e el et = grind (arith, length-replicate, cases_lt, false≢true, get_or-replicate, get_or_past)

-- the first of those that qualify, said otherwise
first_as : (first second : List ℕ → ℕ) (cs : List (List ℕ)) (P Q : ℕ → Type 0) (m n : ℕ) (taken : List ℕ) → ((i : ℕ) → P i → Q i) → ((i : ℕ) → Q i → P i) → m ≡ n → AreFirst first second cs P m taken → AreFirst first second cs Q n taken
first_as first second cs P Q m n taken to from e are = search rules

module _ (p : Pricing) (k r : ℕ) (cs : List (List ℕ)) (l1 l2 l3 : List Bool) (t1 t2 t3 : List ℕ) (m1 m2 m3 : ℕ) (e1 : m1 ≡ places k / 2) (e2 : m2 ≡ length t1 + places k / 4) (e3 : m3 ≡ places k) (low : HasTaken LeastHeight p r cs m1 [] l1 t1) (short : HasTaken FewestLeaves p r cs m2 t1 l2 t2) (rest : HasTaken LeastCost p r cs m3 t2 l3 t3) where
  low_is : t1 ≡ low.now
  low_is = low.is

  two_are : t2 ≡ low.now ++ short.now
  two_are = short.is ∙ ap (λ (t : List ℕ). t ++ short.now) low_is

  two_length : length t2 ≡ length low.now + length short.now
  two_length = ap (λ (t : List ℕ). length t) two_are ∙ length-append low.now short.now

  pub placed : ArePlaced p k r cs t3
  placed = record {
    low = low.now;
    short = short.now;
    rest = rest.now;
    low_are = grind (arith, first_as);
    short_are = first_as length (cut_flow p.flows) cs (MayTake FewestLeaves p r cs t1) (IsLeft cs low.now) (m2 - length t1) (places k / 4) short.now
        (λ i m. record { least = m.least; apart = λ t. m.apart (subst (λ (l : List ℕ). In l i) (sym low_is) t) }) (λ i q. record { least = q.least; qualifies = tt; apart = λ t. q.apart (subst (λ (l : List ℕ). In l i) low_is t) }) (omega arith) short.first;
    rest_are = first_as (paid_flow (is_favoured p.favoured) p.flows) length cs (MayTake LeastCost p r cs t2) (IsLeft cs (low.now ++ short.now)) (m3 - length t2) (places k - (length low.now + length short.now)) rest.now
        (λ i m. record { least = m.least; apart = λ t. m.apart (subst (λ (l : List ℕ). In l i) (sym two_are) t) }) (λ i q. record { least = q.least; qualifies = tt; apart = λ t. q.apart (subst (λ (l : List ℕ). In l i) two_are t) }) (omega (arith, two_length)) rest.first;
    is = rest.is ∙ ap (λ (t : List ℕ). t ++ rest.now) two_are;
  }
