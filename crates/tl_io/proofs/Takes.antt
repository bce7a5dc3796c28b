-- What stands in front of a list after a piece was copied there.
use Rattle.tl_io.proofs.Common.{◌≡◌, ℕ, ◌≤◌, List, ◌++◌, length, take, min, arith, ◌∙◌, ap, take-append-le, take_min, length-take}
use Rattle.std.proofs.lemmas.Grind.{common_steps}

pub take_front : (m : ℕ) (front rest : List ℕ) → length front ≡ m → take m (front ++ rest) ≡ front
take_front m front rest e = grind (arith, common_steps, take-append-le)

pub take_front_of : (m : ℕ) (xs front rest : List ℕ) → front ≡ take m xs → m ≤ length xs → take m (front ++ rest) ≡ take m xs
take_front_of m xs front rest e h = let n : length front ≡ m = grind (arith, common_steps, length-take) in take_front m front rest n ∙ e

-- taking more than there is takes all
pub take_capped : (k n : ℕ) (xs : List ℕ) → k ≡ min (length xs) n → take k xs ≡ take n xs
take_capped k n xs h = let e : k ≡ min n (length xs) = omega (arith, h) in ap (λ (j : ℕ). take j xs) e ∙ take_min n xs
