-- The balanced AND of a list, rows and covers as the code makes them.
use Rattle.std.specs.Prelude.{ℕ, zero, suc, if◌then◌else◌, List, [], ◌∷◌, ◌++◌, length}
use Rattle.aig_build.specs.Words.{Cell, RowValue, CoverValue, Lit, Pair, Aig, first_and, complement, Answer, product_of}
use Rattle.aig_build.specs.CoverGraph.{row_literals, Literals}
use Rattle.aig_build.specs.CoverNodes.{front_half, back_half}

-- the balanced AND of a list: of none the constant 1, of one that literal, else the product of the balanced ANDs of its halves, the first half made first; at most `depth` halvings
abbrev pub balanced : ℕ → ℕ → List Pair → List Lit → Answer
balanced first zero pairs lits = record { pairs = pairs; lit = 1 }
balanced first (suc depth) pairs [] = record { pairs = pairs; lit = 1 }
balanced first (suc depth) pairs (a ∷ []) = record { pairs = pairs; lit = a.0 }
balanced first (suc depth) pairs (a ∷ b ∷ rest) =
    let front : Answer = balanced first depth pairs (front_half (a ∷ b ∷ rest)) in
    let back : Answer = balanced first depth front.pairs (back_half (a ∷ b ∷ rest)) in
    product_of first back.pairs front.lit back.lit

-- as many halvings as the list is long always suffice
abbrev pub balanced_and : ℕ → List Pair → List Lit → Answer
balanced_and first pairs lits = balanced first (length lits) pairs lits

-- a row is the balanced AND of its literals
abbrev pub row_made : ℕ → List Pair → List Cell → List Lit → Answer
row_made first pairs cells inputs = balanced_and first pairs (row_literals cells inputs)

-- the rows of a cover, made in order, each as its complement
abbrev pub rows_made : ℕ → List Pair → List RowValue → List Lit → Literals
rows_made first pairs [] inputs = record { pairs = pairs; lits = [] }
rows_made first pairs (row ∷ rows) inputs =
    let made : Answer = row_made first pairs row.cells inputs in
    let others : Literals = rows_made first made.pairs rows inputs in
    record { pairs = others.pairs; lits = record { 0 = complement made.lit } ∷ others.lits }

-- the same, after the literals so far
abbrev pub rows_onto : ℕ → List Pair → List Lit → List RowValue → List Lit → Literals
rows_onto first pairs lits [] inputs = record { pairs = pairs; lits = lits }
rows_onto first pairs lits (row ∷ rows) inputs =
    let made : Answer = row_made first pairs row.cells inputs in
    rows_onto first made.pairs (lits ++ record { 0 = complement made.lit } ∷ []) rows inputs

-- a cover is the complement of the balanced AND of its rows' complements; with output character 0 it is complemented once more
abbrev pub cover_made : ℕ → List Pair → CoverValue → List Lit → Answer
cover_made first pairs cover inputs =
    let rows : Literals = rows_made first pairs cover.rows inputs in
    let none : Answer = balanced_and first rows.pairs rows.lits in
    record { pairs = none.pairs; lit = if cover.value then complement none.lit else complement (complement none.lit) }

-- a cover over the nodes of a graph
abbrev pub cover_of : Aig → CoverValue → List Lit → Answer
cover_of g cover inputs = cover_made (first_and g) g.pairs cover inputs
