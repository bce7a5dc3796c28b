-- Rows of cuts: one for each node.
use Rattle.std.specs.Prelude.{ℕ, List, [], slice_index_or}

-- the cuts of a node: none past the last row
abbrev pub row_at : List (List (List ℕ)) → ℕ → List (List ℕ)
row_at rows n = slice_index_or rows n []
