-- Whether the elements of one ascending list are among those of another, by the heads of both.
use Rattle.cut_sets.proofs.Common.{◌≡◌, ℕ, ◌-◌, ◌<◌, ◌≤◌, false, List, ◌∷◌, length, get_or, take, drop, refl, sym, ap, ◌∙◌, inl, inr, arith, cases_Bool, Within, IsAscending, same_test, subset}
use Rattle.cut_sets.proofs.SetLemmas.{subset_true, subset_from}
use Rattle.cut_sets.proofs.HeadLemmas.{rest_is}

same_part : (a b c d : List ℕ) → (Within a b → Within c d) → (Within c d → Within a b) → subset a b ≡ subset c d
same_part a b c d f g = same_test (subset a b) (subset c d) (λ t. subset_from c d (f (subset_true a b t))) (λ t. subset_from a b (g (subset_true c d t)))

-- a head below all of the other list is no element of it
pub part_none : (xs ys : List ℕ) → IsAscending ys → 1 ≤ length xs → 1 ≤ length ys → get_or xs 0 0 < get_or ys 0 0 → false ≡ subset xs ys
part_none (x ∷ xs) (y ∷ ys) up a b l = elim (cases_Bool (subset (x ∷ xs) (y ∷ ys))) [
  | inl t ↦ elim (subset_true (x ∷ xs) (y ∷ ys) t x (inl refl)) [ inl e ↦ absurd (omega arith) | inr i ↦ (let k : y < x = up.0 x i in absurd (omega arith)) ]
  | inr e ↦ sym e
]
part_none xs ys up a b l = absurd (omega arith)

-- a head that is below the other list is passed over
pub part_right : (xs ys : List ℕ) → IsAscending xs → 1 ≤ length xs → 1 ≤ length ys → get_or ys 0 0 < get_or xs 0 0 → subset xs (take (length ys - 1) (drop 1 ys)) ≡ subset xs ys
part_right (x ∷ xs) (y ∷ ys) up a b l =
    ap (λ s. subset (x ∷ xs) s) (rest_is y ys)
    ∙ same_part (x ∷ xs) ys (x ∷ xs) (y ∷ ys) (λ w n i. inr (w n i))
    (λ w n i. let above : x ≤ n = elim i [ inl e ↦ omega arith | inr j ↦ (let k : x < n = up.0 n j in omega arith) ] in elim (w n i) [ inl e ↦ absurd (omega arith) | inr j ↦ j ])
part_right xs ys up a b l = absurd (omega arith)

-- a head that both have is an element of both
pub part_both : (xs ys : List ℕ) → IsAscending xs → 1 ≤ length xs → 1 ≤ length ys → get_or ys 0 0 ≤ get_or xs 0 0 → get_or xs 0 0 ≤ get_or ys 0 0
    → subset (take (length xs - 1) (drop 1 xs)) (take (length ys - 1) (drop 1 ys)) ≡ subset xs ys
part_both (x ∷ xs) (y ∷ ys) up a b l m =
    ap (λ s. subset s (take (length (y ∷ ys) - 1) (drop 1 (y ∷ ys)))) (rest_is x xs)
    ∙ ap (λ s. subset xs s) (rest_is y ys)
    ∙ same_part xs ys (x ∷ xs) (y ∷ ys) (λ w n i. elim i [ inl e ↦ inl (omega arith) | inr j ↦ inr (w n j) ])
    (λ w n i. let above : x < n = up.0 n i in elim (w n (inr i)) [ inl e ↦ absurd (omega arith) | inr j ↦ j ])
part_both xs ys up a b l m = absurd (omega arith)
