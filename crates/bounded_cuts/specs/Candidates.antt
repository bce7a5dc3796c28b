-- The cuts from which a node's set is chosen: unions of what its fan-ins hand on, and a low cut if no union is as low as the label.
use Rattle.std.specs.Prelude.{◌≡◌, ◌⊎◌, ℕ, ◌/◌, ◌≤◌, if◌then◌else◌, nat_lt, List, [], ◌∷◌, ◌++◌, length}
use Rattle.bounded_cuts.specs.Words.{Aig, IsAnd, IsNode, IsSource, Pair, In, Blocks, height, row_at}
use Rattle.aig_core.specs.declared.lit.Kind.TheVariants.{Regular}
use Rattle.cut_sets.specs.Unions.{union}

-- a node that doesn't depend on parameters alone: a regular source, or an AND node over one
abbrev pub IsLive : Aig → ℕ → Type 0
IsLive g m = IsSource g Regular m ⊎ (IsAnd g m × (Blocks g [] m → ⊥))

-- what a node hands on to its readers: the empty cut if it depends on parameters alone, the cut of itself alone if it is a regular source, and this cut and then its set if it is another AND node
pub data HandsOn (g : Aig) (rows : List (List (List ℕ))) (m : ℕ) (front : List (List ℕ)) : Type 0 where
  free : Blocks g [] m → front ≡ [] ∷ [] → HandsOn g rows m front
  source : IsSource g Regular m → front ≡ (m ∷ []) ∷ [] → HandsOn g rows m front
  node : IsAnd g m → (Blocks g [] m → ⊥) → front ≡ (m ∷ []) ∷ row_at rows m → HandsOn g rows m front

-- the union of two lists, unless it has more than k nodes
abbrev pub one_union : ℕ → List ℕ → List ℕ → List (List ℕ)
one_union k c d = if nat_lt k (length (union c d)) then [] else union c d ∷ []

-- the unions of at most k nodes of c and each of some lists
abbrev pub unions_with : ℕ → List ℕ → List (List ℕ) → List (List ℕ)
unions_with k c [] = []
unions_with k c (d ∷ ds) = one_union k c d ++ unions_with k c ds

-- the unions of at most k nodes of a list of each, in the order of pairs
abbrev pub unions : ℕ → List (List ℕ) → List (List ℕ) → List (List ℕ)
unions k [] ds = []
unions k (c ∷ cs) ds = unions_with k c ds ++ unions k cs ds

-- one of some cuts has a height of at most r
abbrev pub HasLow : (ℕ → ℕ) → ℕ → List (List ℕ) → Type 0
HasLow label r cs = (c : List ℕ) × In cs c × (height label c ≤ r)

-- these unions, and the low cut after them if none of them is as low as the label
pub data WithLow (label : ℕ → ℕ) (r : ℕ) (low : List ℕ) (unions cs : List (List ℕ)) : Type 0 where
  there : HasLow label r unions → cs ≡ unions → WithLow label r low unions cs
  missing : (HasLow label r unions → ⊥) → cs ≡ unions ++ low ∷ [] → WithLow label r low unions cs

-- the candidates of an AND node, over the sets of the nodes below it and its own low cut
pub record AreCandidates (g : Aig) (k : ℕ) (label : ℕ → ℕ) (low : List ℕ) (rows : List (List (List ℕ))) (n : ℕ) (cs : List (List ℕ)) : Type 0 where
  pub pair : Pair
  pub is : IsNode g pair n
  pub xs : List (List ℕ)
  pub x_front : HandsOn g rows (pair.x.0 / 2) xs
  pub ys : List (List ℕ)
  pub y_front : HandsOn g rows (pair.y.0 / 2) ys
  pub are : WithLow label (label n) low (unions k xs ys) cs
