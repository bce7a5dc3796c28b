-- Paths of a graph, from a regular source up to a node.
use Rattle.std.specs.Prelude.{◌≡◌, ◌≢◌, ℕ, ◌+◌, ◌/◌, ◌<◌, ◌≤◌, List, [], ◌∷◌, Some, slice_get}
use Rattle.cut_sets.specs.Words.{Aig, IsNode, IsSource, Regular, Pair, In}

-- m is one of the two fan-in nodes of n
pub data IsFanIn (g : Aig) (m n : ℕ) : Type 0 where
  first : (p : Pair) → IsNode g p n → m ≡ p.x.0 / 2 → IsFanIn g m n
  second : (p : Pair) → IsNode g p n → m ≡ p.y.0 / 2 → IsFanIn g m n

-- from m up through these nodes, each a fan-in node of the next, to n as the last one
abbrev pub Climbs : Aig → ℕ → List ℕ → ℕ → Type 0
Climbs g m [] n = m ≡ n
Climbs g m (x ∷ xs) n = IsFanIn g m x × Climbs g x xs n

-- a path begins at a regular source, ends at n, and each of its nodes is a fan-in node of the next
abbrev pub IsPath : Aig → ℕ → List ℕ → Type 0
IsPath g n [] = ⊥
IsPath g n (m ∷ ms) = IsSource g Regular m × Climbs g m ms n

-- Paths to a node, and every other node that stands in two of them has a label of at least h - 1.
pub record ArePathsTo (g : Aig) (n h : ℕ) (label : ℕ → ℕ) (ps : List (List ℕ)) : Type 0 where
  pub paths : (p : List ℕ) → In ps p → IsPath g n p
  pub apart : (i j m : ℕ) (p q : List ℕ) → i < j → slice_get ps i ≡ Some p → slice_get ps j ≡ Some q → In p m → In q m → m ≢ n → h ≤ label m + 1
