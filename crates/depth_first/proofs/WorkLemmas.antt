-- The work that is left grows less.
use Rattle.depth_first.proofs.Common.{◌≡◌, ℕ, zero, suc, ◌+◌, ◌≤◌, List, [], ◌∷◌, length, Some, refl, arith, slice_get, slice_set, none-some, Edge, Mark, New, OnPath, Done, new_work}

pub enter_less : {S : Type 0} (edges : ℕ → List (Edge S)) (ms : List Mark) (n : ℕ) → slice_get ms n ≡ Some New
    → new_work edges (slice_set ms n OnPath) + (1 + length (edges n)) ≡ new_work edges ms
enter_less edges [] n e = absurd (none-some New e)
enter_less edges (m ∷ ms) zero e = grind arith
enter_less edges (m ∷ ms) (suc n) e = omega (arith, enter_less (λ k. edges (suc k)) ms n e)

pub finish_less : {S : Type 0} (edges : ℕ → List (Edge S)) (ms : List Mark) (n : ℕ) → new_work edges (slice_set ms n Done) ≤ new_work edges ms
finish_less edges [] n = omega arith
finish_less edges (m ∷ ms) zero = let b : new_work edges (Done ∷ ms) ≡ 0 + new_work (λ k. edges (suc k)) ms = refl in omega arith
finish_less edges (m ∷ ms) (suc n) = let r : new_work (λ k. edges (suc k)) (slice_set ms n Done) ≤ new_work (λ k. edges (suc k)) ms = finish_less (λ k. edges (suc k)) ms n in omega arith
