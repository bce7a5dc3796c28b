-- Paths of a graph.
use Rattle.flow_cert.proofs.Common.{ℕ, ◌≤◌, List, [], ◌∷◌, length, sym, subst, arith, Aig, IsAnd, IsPath}
pub use Rattle.cut_sets.proofs.PathLemmas.{fan_in_below, path_below}
pub use Rattle.flow_label.proofs.GraphLemmas.{source_not_and, free_or_live}

-- a path to an AND node has two nodes at least
pub path_two : (g : Aig) (n : ℕ) (path : List ℕ) → IsAnd g n → IsPath g n path → 2 ≤ length path
path_two g n [] and p = absurd p
path_two g n (m ∷ []) and p = absurd (source_not_and g m p.0 (subst (λ x. IsAnd g x) (sym p.1) and))
path_two g n (m ∷ x ∷ xs) and p = omega arith
