-- Ascending lists of which one is within another.
use Rattle.cut_sets.proofs.Common.{◌≡◌, ℕ, ◌<◌, ◌≤◌, List, [], ◌∷◌, length, refl, ap, ◌∙◌, inl, inr, arith, In, Within, IsAscending}

-- an ascending list's head is its least
head_least : (x : ℕ) (xs : List ℕ) (n : ℕ) → IsAscending (x ∷ xs) → In (x ∷ xs) n → x ≤ n
head_least x xs n h (inl e) = omega arith
head_least x xs n h (inr i) = let k : x < n = h.0 n i in omega arith

above_head : (x : ℕ) (xs : List ℕ) (n y : ℕ) → IsAscending (x ∷ xs) → y < x → In (x ∷ xs) n → n ≡ y → ⊥
above_head x xs n y h below i e = let k : x ≤ n = head_least x xs n h i in absurd (omega arith)

-- the elements past the head
rest_within : (x : ℕ) (xs : List ℕ) (y : ℕ) (ys : List ℕ) → ((n : ℕ) → In xs n → x < n) → y ≤ x → Within (x ∷ xs) (y ∷ ys) → Within xs ys
rest_within x xs y ys above le w n i = elim (w n (inr i)) [ inl e ↦ (let k : x < n = above n i in absurd (omega arith)) | inr j ↦ j ]

-- an ascending list within another is no longer
pub length_within : (b a : List ℕ) → IsAscending b → IsAscending a → Within a b → length a ≤ length b
length_within b [] k h w = omega arith
length_within [] (x ∷ xs) k h w = absurd (w x (inl refl))
length_within (y ∷ ys) (x ∷ xs) k h w = elim (w x (inl refl)) [
  | inl e ↦ (let r : length xs ≤ length ys = length_within ys xs k.1 h.1 (rest_within x xs y ys h.0 (omega arith) w) in omega arith)
  | inr i ↦ (let below : y < x = k.0 x i in
      let r : length (x ∷ xs) ≤ length ys = length_within ys (x ∷ xs) k.1 h (λ n j. elim (w n j) [ inl e ↦ absurd (above_head x xs n y h below j e) | inr m ↦ m ]) in omega arith)
]

-- an ascending list within one of the same length is that list
pub same_length_within : (b a : List ℕ) → IsAscending b → IsAscending a → Within a b → length b ≤ length a → a ≡ b
same_length_within [] [] k h w l = refl
same_length_within [] (x ∷ xs) k h w l = absurd (w x (inl refl))
same_length_within (y ∷ ys) [] k h w l = absurd (omega arith)
same_length_within (y ∷ ys) (x ∷ xs) k h w l = elim (w x (inl refl)) [
  | inl e ↦ ap (λ m. m ∷ xs) e ∙ ap (λ s. y ∷ s) (same_length_within ys xs k.1 h.1 (rest_within x xs y ys h.0 (omega arith) w) (omega arith))
  | inr i ↦ (let below : y < x = k.0 x i in
      let r : length (x ∷ xs) ≤ length ys = length_within ys (x ∷ xs) k.1 h (λ n j. elim (w n j) [ inl e ↦ absurd (above_head x xs n y h below j e) | inr m ↦ m ]) in absurd (omega arith))
]

-- ascending lists with the same elements are equal
pub same_within : (a b : List ℕ) → IsAscending a → IsAscending b → Within a b → Within b a → a ≡ b
same_within [] [] h k w v = refl
same_within [] (y ∷ ys) h k w v = absurd (v y (inl refl))
same_within (x ∷ xs) [] h k w v = absurd (w x (inl refl))
same_within (x ∷ xs) (y ∷ ys) h k w v =
    let le : y ≤ x = head_least y ys x k (w x (inl refl)) in
    let ge : x ≤ y = head_least x xs y h (v y (inl refl)) in
    ap (λ m. m ∷ xs) (omega arith) ∙ ap (λ l. y ∷ l) (same_within xs ys h.1 k.1 (rest_within x xs y ys h.0 le w) (rest_within y ys x xs k.0 ge v))
