-- Values with stamps, as the list that they count as.
use Rattle.flow_label.proofs.Common.{◌≡◌, ℕ, zero, suc, ◌<◌, ◌≤◌, eqb, List, [], ◌∷◌, length, get_or, set, refl, ap, ◌∙◌, arith, eqb-true, eqb-false, choose, zeros, counted, values_at}

pub length_values : (p : ℕ) (ss vs : List ℕ) → length ss ≡ length vs → length (values_at p ss vs) ≡ length vs
length_values p [] [] e = refl
length_values p (s ∷ ss) (v ∷ vs) e = let f : suc (length ss) ≡ suc (length vs) = e in ap suc (length_values p ss vs (omega arith))
length_values p ss vs e = absurd (omega arith)

counted_here : (p s v : ℕ) → s ≡ p → counted p s v ≡ v
counted_here p s v e = choose (λ x. x ≡ v) (eqb s p) v 0 (λ _. refl) (λ t. absurd (eqb-false s p t e))

counted_none : (p s v : ℕ) → (s ≡ p → ⊥) → counted p s v ≡ 0
counted_none p s v ne = choose (λ x. x ≡ 0) (eqb s p) v 0 (λ t. absurd (ne (eqb-true s p t))) (λ _. refl)

-- a value with the present stamp counts, and another one is 0
pub value_here : (p : ℕ) (ss vs : List ℕ) (i : ℕ) → length ss ≡ length vs → i < length ss → get_or ss i 0 ≡ p → get_or (values_at p ss vs) i 0 ≡ get_or vs i 0
value_here p (s ∷ ss) (v ∷ vs) zero n l e = counted_here p s v e
value_here p (s ∷ ss) (v ∷ vs) (suc i) n l e = let f : suc (length ss) ≡ suc (length vs) = n in value_here p ss vs i (omega arith) (omega arith) e
value_here p ss vs i n l e = absurd (omega arith)

pub value_none : (p : ℕ) (ss vs : List ℕ) (i : ℕ) → (i < length ss → get_or ss i 0 ≡ p → ⊥) → get_or (values_at p ss vs) i 0 ≡ 0
value_none p (s ∷ ss) (v ∷ vs) zero ne = counted_none p s v (λ e. ne (omega arith) e)
value_none p (s ∷ ss) (v ∷ vs) (suc i) ne = value_none p ss vs i (λ l e. ne (omega arith) e)
value_none p ss vs i ne = refl

-- one more value with the present stamp
pub values_set : (p : ℕ) (ss vs : List ℕ) (i x : ℕ) → length ss ≡ length vs → values_at p (set ss i p) (set vs i x) ≡ set (values_at p ss vs) i x
values_set p [] [] i x n = refl
values_set p (s ∷ ss) (v ∷ vs) zero x n = ap (λ y. y ∷ values_at p ss vs) (counted_here p p x refl)
values_set p (s ∷ ss) (v ∷ vs) (suc i) x n = let f : suc (length ss) ≡ suc (length vs) = n in ap (λ ys. counted p s v ∷ ys) (values_set p ss vs i x (omega arith))
values_set p ss vs i x n = absurd (omega arith)

-- stamps of which none is the present one
pub values_none : (p : ℕ) (ss vs : List ℕ) → length ss ≡ length vs → ((i : ℕ) → i < length ss → get_or ss i 0 ≡ p → ⊥) → values_at p ss vs ≡ zeros (length vs)
values_none p [] [] n ne = refl
values_none p (s ∷ ss) (v ∷ vs) n ne =
    ap (λ y. y ∷ values_at p ss vs) (counted_none p s v (λ e. ne 0 (omega arith) e)) ∙ ap (λ ys. 0 ∷ ys) (values_none p ss vs (omega arith) (λ i l e. ne (suc i) (omega arith) e))
values_none p ss vs n ne = absurd (omega arith)

pub zero_at : (n m : ℕ) → get_or (zeros n) m 0 ≡ 0
zero_at (suc n) (suc m) = zero_at n m
zero_at n m = refl

-- stamps of 0 are none
pub zeros_none : (p n : ℕ) → 1 ≤ p → (i : ℕ) → get_or (zeros n) i 0 ≡ p → ⊥
zeros_none p n some i e = let z : get_or (zeros n) i 0 ≡ 0 = zero_at n i in omega arith
