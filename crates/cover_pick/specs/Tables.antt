-- The needed literals and their LUTs.
use Rattle.std.specs.Prelude.{◌≡◌, ℕ, ◌*◌, ◌/◌, ◌%◌, List, [], ◌∷◌, Option, Some}
use Rattle.cover_pick.specs.Words.{Aig, IsSource, Regular, Parameter, In, Lut}
use Rattle.cover_pick.specs.Mapping.{AscendByLit, HaveBases, bits_of}

-- a literal is needed: a root, or the positive literal of a leaf of a chosen cut
pub data IsNeeded (roots : List ℕ) (cover : ℕ → Option (List ℕ)) (l : ℕ) : Type 0 where
  root : In roots l → IsNeeded roots cover l
  leaf : (n m : ℕ) (c : List ℕ) → cover n ≡ Some c → In c m → l ≡ 2 * m → IsNeeded roots cover l

-- the leaves of a literal's table: none of the constant and a parameter, the source itself of a complemented regular source, and the chosen cut of an AND node. A positive regular source has no table.
pub data IsLeaves (g : Aig) (cover : ℕ → Option (List ℕ)) (l : ℕ) (c : List ℕ) : Type 0 where
  constant : l / 2 ≡ 0 → c ≡ [] → IsLeaves g cover l c
  parameter : IsSource g Parameter (l / 2) → c ≡ [] → IsLeaves g cover l c
  source : IsSource g Regular (l / 2) → l % 2 ≡ 1 → c ≡ (l / 2) ∷ [] → IsLeaves g cover l c
  node : cover (l / 2) ≡ Some c → IsLeaves g cover l c

-- a table of a literal with these leaves
pub record HasTable (luts : List Lut) (l : ℕ) (c : List ℕ) : Type 0 where
  pub by : Lut
  pub in' : In luts by
  pub lit_is : by.lit.0 ≡ l
  pub leaves_are : by.leaves ≡ c

-- Exactly the tables of the needed literals, in ascending order, one's bits after another's.
pub record AreTables (g : Aig) (roots : List ℕ) (cover : ℕ → Option (List ℕ)) (luts : List Lut) (bits : ℕ) : Type 0 where
  pub needed : (t : Lut) → In luts t → IsNeeded roots cover t.lit.0
  pub leaves : (t : Lut) → In luts t → IsLeaves g cover t.lit.0 t.leaves
  pub all : (l : ℕ) (c : List ℕ) → IsNeeded roots cover l → IsLeaves g cover l c → HasTable luts l c
  pub ascending : AscendByLit luts
  pub bases : HaveBases 0 luts
  pub sum : bits ≡ bits_of luts
