-- A worked example: the multiplexer, over the inputs a and b and the parameter p. Its AND nodes are 4 = a · p, 5 = b · not p and 6 = not 4 · not 5, and its root is the complement of node 6, the literal 13.
use Rattle.aig_core.proofs.Common.{◌≡◌, ℕ, zero, suc, ◌+◌, ◌-◌, ◌<◌, ◌≤◌, Bool, true, false, ◌&&◌, List, [], ◌∷◌, Some, refl, ap, subst, arith, slice_get, none-some, same_Some, Pair, Aig, first_and, node_value, value_of, FitsGraph}
use Rattle.aig_core.specs.declared.lit.Kind.TheVariants.{Regular, Parameter}

-- the pair of two literals
abbrev pub pair : ℕ → ℕ → Pair
pair x y = record { x = record { 0 = x }; y = record { 0 = y } }

abbrev pub multiplexer : Aig
multiplexer = record { kinds = Regular ∷ Regular ∷ Parameter ∷ []; pairs = pair 2 6 ∷ pair 4 7 ∷ pair 9 11 ∷ []; max = 3 }

-- With a = 1, b = 0 and p = 1 node 4 is 1, node 5 is 0 and node 6 is 0.
abbrev pub sources_101 : List Bool
sources_101 = true ∷ false ∷ true ∷ []

abbrev pub values_101 : List Bool
values_101 = false ∷ true ∷ false ∷ true ∷ true ∷ false ∷ false ∷ []

-- each source has its value
sources_have : (n : ℕ) → 1 ≤ n → n < first_and multiplexer → node_value values_101 n ≡ node_value sources_101 (n - 1)
sources_have zero above below = absurd (omega arith)
sources_have (suc zero) above below = refl
sources_have (suc (suc zero)) above below = refl
sources_have (suc (suc (suc zero))) above below = refl
sources_have (suc (suc (suc (suc n)))) above below = absurd (omega arith)

-- each AND node is the product of its literals' values
product_at : (i : ℕ) (p : Pair) → slice_get multiplexer.pairs i ≡ Some p → node_value values_101 (4 + i) ≡ (value_of values_101 p.x.0 && value_of values_101 p.y.0)
product_at zero p at = ap (λ (q : Pair). value_of values_101 q.x.0 && value_of values_101 q.y.0) (same_Some (pair 2 6) p at)
product_at (suc zero) p at = ap (λ (q : Pair). value_of values_101 q.x.0 && value_of values_101 q.y.0) (same_Some (pair 4 7) p at)
product_at (suc (suc zero)) p at = ap (λ (q : Pair). value_of values_101 q.x.0 && value_of values_101 q.y.0) (same_Some (pair 9 11) p at)
product_at (suc (suc (suc i))) p at = absurd (none-some p at)

pub fits_101 : FitsGraph multiplexer sources_101 values_101
fits_101 = record {
  given = refl;
  count = refl;
  constant = refl;
  source = sources_have;
  node = λ n p is.
      let above : 4 ≤ n = is.above in
      let e : 4 + (n - 4) ≡ n = omega arith in
      subst (λ m. node_value values_101 m ≡ (value_of values_101 p.x.0 && value_of values_101 p.y.0)) e (product_at (n - 4) p is.is);
}

-- so the root has a's value
pub root_101 : value_of values_101 13 ≡ true
root_101 = refl
