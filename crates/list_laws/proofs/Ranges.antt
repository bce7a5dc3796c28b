-- A range of numbers: its members, and two adjacent ranges.
use Rattle.list_laws.proofs.Common.{◌≡◌, ℕ, zero, suc, ◌+◌, ◌<◌, ◌≤◌, List, ◌∷◌, ◌++◌, ap, ◌∙◌, inl, inr, arith, range_with_len, In}
use Rattle.list_laws.proofs.Places.{same_or}

pub of_range : (from count x : ℕ) → In (range_with_len from count) x → (from ≤ x) × (x < from + count)
of_range from zero x i = elim i [ ]
of_range from (suc count) x (inl e) = (omega arith, omega arith)
of_range from (suc count) x (inr i) = let r = of_range (from + 1) count x i in let a : from + 1 ≤ x = r.0 in let b : x < from + 1 + count = r.1 in (omega arith, omega arith)

pub in_range : (from count x : ℕ) → from ≤ x → x < from + count → In (range_with_len from count) x
in_range from zero x a b = absurd (omega arith)
in_range from (suc count) x a b = elim (same_or x from) [ inl e ↦ inl e | inr d ↦ inr (in_range (from + 1) count x (omega arith) (omega arith)) ]

pub ranges_join : (from first second : ℕ) → range_with_len from (first + second) ≡ range_with_len from first ++ range_with_len (from + first) second
ranges_join from zero second = grind arith
ranges_join from (suc first) second =
    let one : suc first + second ≡ suc (first + second) = omega arith in
    ap (range_with_len from) one ∙ ap (λ (t : List ℕ). from ∷ t) (ranges_join (from + 1) first second ∙ ap (λ (k : ℕ). range_with_len (from + 1) first ++ range_with_len k second) (omega arith))
