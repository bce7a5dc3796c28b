-- The AND nodes of products, rows and covers, as relations: nodes that stand become nodes that then stand, and a literal.
use Rattle.std.specs.Prelude.{◌≡◌, ℕ, ◌≤◌, if◌then◌else◌, List, [], ◌∷◌, length, take, drop}
use Rattle.aig_build.specs.Words.{RowValue, CoverValue, Lit, Pair, complement, Answer, product_of}
use Rattle.std.specs.Int.{div_ceil}
use Rattle.aig_build.specs.CoverGraph.{row_literals, Literals}

-- the first half of a list, the longer one where the halves differ, and the rest
abbrev pub front_half : List Lit → List Lit
front_half lits = take (div_ceil (length lits) 2) lits

abbrev pub back_half : List Lit → List Lit
back_half lits = drop (div_ceil (length lits) 2) lits

-- The balanced AND of a list: of none the constant 1, of one that literal, else the product of the balanced ANDs of its halves, the first half made first.
pub data IsBalanced (first : ℕ) : List Pair → List Lit → Answer → Type 0 where
  none : {pairs : List Pair} {lits : List Lit} {made : Answer} → lits ≡ [] → made ≡ record { pairs = pairs; lit = 1 } → IsBalanced first pairs lits made
  one : {pairs : List Pair} {lits : List Lit} {made : Answer} (lit : Lit) → lits ≡ lit ∷ [] → made ≡ record { pairs = pairs; lit = lit.0 } → IsBalanced first pairs lits made
  halves : {pairs : List Pair} {lits : List Lit} {made : Answer} (front back : Answer) → 2 ≤ length lits → IsBalanced first pairs (front_half lits) front
      → IsBalanced first front.pairs (back_half lits) back → made ≡ product_of first back.pairs front.lit back.lit → IsBalanced first pairs lits made

-- The rows of a cover, made in order: each is the balanced AND of its literals, as its complement.
pub data AreRows (first : ℕ) (inputs : List Lit) : List Pair → List RowValue → Literals → Type 0 where
  no_row : {pairs : List Pair} {rows : List RowValue} {made : Literals} → rows ≡ [] → made ≡ record { pairs = pairs; lits = [] } → AreRows first inputs pairs rows made
  a_row : {pairs : List Pair} {rows : List RowValue} {made : Literals} (row : RowValue) (rest : List RowValue) (this : Answer) (others : Literals) → rows ≡ row ∷ rest
      → IsBalanced first pairs (row_literals row.cells inputs) this → AreRows first inputs this.pairs rest others
      → made ≡ record { pairs = others.pairs; lits = record { 0 = complement this.lit } ∷ others.lits } → AreRows first inputs pairs rows made

-- A cover over the literals of its inputs: the complement of the balanced AND of its rows' complements; with output character 0 it is complemented once more.
pub record IsCoverMade (first : ℕ) (pairs : List Pair) (cover : CoverValue) (inputs : List Lit) (made : Answer) : Type 0 where
  pub rows : Literals
  pub are_rows : AreRows first inputs pairs cover.rows rows
  pub no_row : Answer
  pub is_balanced : IsBalanced first rows.pairs rows.lits no_row
  pub is : made ≡ record { pairs = no_row.pairs; lit = if cover.value then complement no_row.lit else complement (complement no_row.lit) }
