-- Covers of a graph by cuts, their depth, and the least depth of any cover.
use Rattle.std.specs.Prelude.{◌≡◌, ℕ, suc, ◌/◌, ◌%◌, ◌<◌, ◌≤◌, List, [], Option, Some, IsSome}
use Rattle.cut_sets.specs.Words.{Aig, first_and, IsAnd, IsSource, Regular, In}
use Rattle.cut_sets.specs.Cuts.{IsCut}

-- A cover assigns cuts to AND nodes, and has every AND node of a root and every AND leaf of its cuts.
pub record IsCover (g : Aig) (k : ℕ) (roots : List ℕ) (cover : ℕ → Option (List ℕ)) : Type 0 where
  pub cuts : (n : ℕ) (c : List ℕ) → cover n ≡ Some c → IsAnd g n × IsCut g k n c
  pub roots_in : (l : ℕ) → In roots l → IsAnd g (l / 2) → IsSome (cover (l / 2))
  pub leaves_in : (n m : ℕ) (c : List ℕ) → cover n ≡ Some c → In c m → IsAnd g m → IsSome (cover m)

-- The depth of a node under a cover is at most d: a source and a node with an empty cut have depth 0, another node one more than its leaves.
pub data HasDepth (g : Aig) (cover : ℕ → Option (List ℕ)) : ℕ → ℕ → Type 0 where
  source : {n d : ℕ} → n < first_and g → HasDepth g cover n d
  free : {n d : ℕ} → cover n ≡ Some [] → HasDepth g cover n d
  table : {n d : ℕ} (c : List ℕ) → cover n ≡ Some c → ((m : ℕ) → In c m → HasDepth g cover m d) → HasDepth g cover n (suc d)

-- The depth of a cover is at most d: that of each root's node is, and a root that is a complemented regular source counts 1.
pub record RootsWithin (g : Aig) (cover : ℕ → Option (List ℕ)) (roots : List ℕ) (d : ℕ) : Type 0 where
  pub complemented : (l : ℕ) → In roots l → IsSource g Regular (l / 2) → l % 2 ≡ 1 → 1 ≤ d
  pub nodes : (l : ℕ) → In roots l → IsAnd g (l / 2) → HasDepth g cover (l / 2) d

-- d is the least depth of a cover of the graph for these roots: some cover's depth is at most d, and no cover's depth is below d
pub record IsLeastDepth (g : Aig) (k : ℕ) (roots : List ℕ) (d : ℕ) : Type 0 where
  pub cover : ℕ → Option (List ℕ)
  pub is : IsCover g k roots cover
  pub within : RootsWithin g cover roots d
  pub least : (other : ℕ → Option (List ℕ)) (e : ℕ) → IsCover g k roots other → RootsWithin g other roots e → d ≤ e
