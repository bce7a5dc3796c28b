-- LUTs that map a graph, and LUTs of the least depth.
use Rattle.std.specs.Prelude.{◌≡◌, ℕ, ◌+◌, ◌*◌, ◌/◌, ◌%◌, ◌^◌, ◌<◌, List, [], ◌∷◌, length, sum_by, Option, Some, ◌⊎◌}
use Rattle.cover_pick.specs.Words.{Aig, IsAnd, IsSource, Regular, Parameter, In, IsCut, IsCover, RootsWithin, IsLeastDepth, Lut}

-- what a table computes from its leaves: a complemented regular source from that source, a constant or a parameter from nothing, an AND node from a cut of it
pub data IsTableOf (g : Aig) (k : ℕ) (t : Lut) : Type 0 where
  source : IsSource g Regular (t.lit.0 / 2) → t.lit.0 % 2 ≡ 1 → t.leaves ≡ (t.lit.0 / 2) ∷ [] → IsTableOf g k t
  free : (t.lit.0 / 2 ≡ 0) ⊎ IsSource g Parameter (t.lit.0 / 2) → t.leaves ≡ [] → IsTableOf g k t
  node : IsAnd g (t.lit.0 / 2) → IsCut g k (t.lit.0 / 2) t.leaves → IsTableOf g k t

-- the positive literal of a regular source
pub record IsPlain (g : Aig) (l : ℕ) : Type 0 where
  pub source : IsSource g Regular (l / 2)
  pub positive : l % 2 ≡ 0

-- some table is of this literal
pub record HasLut (luts : List Lut) (l : ℕ) : Type 0 where
  pub table : Lut
  pub in' : In luts table
  pub is : table.lit.0 ≡ l

-- the literals ascend
abbrev pub AscendByLit : List Lut → Type 0
AscendByLit [] = Unit {0}
AscendByLit (t ∷ ts) = ((u : Lut) → In ts u → t.lit.0 < u.lit.0) × AscendByLit ts

-- the base of each table is b and the bits of the tables before it
abbrev pub HaveBases : ℕ → List Lut → Type 0
HaveBases b [] = Unit {0}
HaveBases b (t ∷ ts) = (t.base ≡ b) × HaveBases (b + 2 ^ length t.leaves) ts

-- the bits of all tables: 2 ^ m for a table of m leaves
abbrev pub bits_of : List Lut → ℕ
bits_of ts = sum_by (λ t. 2 ^ length t.leaves) ts

-- LUTs of at most k leaves that map a graph for some roots: each root and each AND leaf has its LUT, except positive regular sources.
pub record IsMapping (g : Aig) (k : ℕ) (roots : List ℕ) (luts : List Lut) (bits : ℕ) : Type 0 where
  pub table : (t : Lut) → In luts t → IsTableOf g k t
  pub root : (l : ℕ) → In roots l → IsPlain g l ⊎ HasLut luts l
  pub leaf : (t : Lut) (m : ℕ) → In luts t → In t.leaves m → IsAnd g m → HasLut luts (2 * m)
  pub ascending : AscendByLit luts
  pub bases : HaveBases 0 luts
  pub sum : bits ≡ bits_of luts

-- some table is of this node, in one of its phases, with these leaves
pub record HasNode (luts : List Lut) (n : ℕ) (c : List ℕ) : Type 0 where
  pub table : Lut
  pub in' : In luts table
  pub node : table.lit.0 / 2 ≡ n
  pub leaves : table.leaves ≡ c

-- The tables' leaves are a cover of the graph, of a depth that no cover of the graph with at most k leaves a cut is below.
pub record IsLeast (g : Aig) (k : ℕ) (roots : List ℕ) (luts : List Lut) (depth : ℕ) : Type 0 where
  pub cover : ℕ → Option (List ℕ)
  pub is : IsCover g k roots cover
  pub tables : (t : Lut) → In luts t → IsAnd g (t.lit.0 / 2) → cover (t.lit.0 / 2) ≡ Some t.leaves
  pub only : (n : ℕ) (c : List ℕ) → cover n ≡ Some c → HasNode luts n c
  pub within : RootsWithin g cover roots depth
  pub least : IsLeastDepth g k roots depth
