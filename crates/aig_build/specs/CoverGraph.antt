-- The literals that a row asks for, and literals with the nodes over which they stand.
use Rattle.std.specs.Prelude.{List, [], ◌∷◌, ◌++◌}
use Rattle.aig_build.specs.Words.{Cell, Zero, One, Any, Lit, Pair, complement}

-- a literal in the other phase
abbrev pub flipped : Lit → Lit
flipped lit = record { 0 = complement lit.0 }

-- what a cell asks for of its input's literal: nothing, the literal, or its complement
abbrev pub cell_literals : Cell → Lit → List Lit
cell_literals Any lit = []
cell_literals One lit = lit ∷ []
cell_literals Zero lit = flipped lit ∷ []

-- the literals of a row, left to right
abbrev pub row_literals : List Cell → List Lit → List Lit
row_literals (cell ∷ cells) (input ∷ inputs) = cell_literals cell input ++ row_literals cells inputs
row_literals (cell ∷ cells) [] = []
row_literals [] inputs = []

-- nodes, and literals that were made over them
pub record Literals : Type 0 where
  pub pairs : List Pair
  pub lits : List Lit
