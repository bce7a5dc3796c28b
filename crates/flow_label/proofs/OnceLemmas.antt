-- Lists of numbers in which none occurs twice.
use Rattle.flow_label.proofs.Common.{◌≡◌, ℕ, zero, suc, ◌<◌, ◌≤◌, List, [], ◌∷◌, length, get_or, refl, inl, inr, arith, cases_eq, slice_get-get_or, In, IsAscending, AreApart, apart_once, apart_short}

-- places have different elements
pub once_places : (xs : List ℕ) (i j : ℕ) → AreApart xs → i < j → j < length xs → get_or xs i 0 ≡ get_or xs j 0 → ⊥
once_places xs i j s l m e = grind (arith, apart_once, slice_get-get_or)

-- numbers that ascend
pub ascending_apart : (xs : List ℕ) → IsAscending xs → AreApart xs
ascending_apart [] a = tt
ascending_apart (x ∷ xs) a = ((λ i. let l : x < x = a.0 x i in absurd (omega arith)), ascending_apart xs a.1)

-- the numbers below n
abbrev pub numbers : ℕ → List ℕ
numbers zero = []
numbers (suc n) = n ∷ numbers n

length_numbers : (n : ℕ) → length (numbers n) ≡ n
length_numbers zero = refl
length_numbers (suc n) = let r : length (numbers n) ≡ n = length_numbers n in omega arith

pub in_numbers : (n m : ℕ) → m < n → In (numbers n) m
in_numbers zero m l = absurd (omega arith)
in_numbers (suc n) m l = elim (cases_eq m n) [ inl e ↦ inl e | inr ne ↦ inr (in_numbers n m (omega arith)) ]

numbers_below : (n m : ℕ) → In (numbers n) m → m < n
numbers_below zero m i = absurd i
numbers_below (suc n) m (inl e) = omega arith
numbers_below (suc n) m (inr i) = let l : m < n = numbers_below n m i in omega arith

pub numbers_apart : (n : ℕ) → AreApart (numbers n)
numbers_apart zero = tt
numbers_apart (suc n) = ((λ i. let l : n < n = numbers_below n n i in absurd (omega arith)), numbers_apart n)

-- numbers below n are at most n
pub once_few : (xs : List ℕ) (n : ℕ) → AreApart xs → ((x : ℕ) → In xs x → x < n) → length xs ≤ n
once_few xs n s below = omega (arith, apart_short xs (numbers n) s (λ x i. in_numbers n x (below x i)), length_numbers n)
