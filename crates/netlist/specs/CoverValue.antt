-- Covers as plain lists, and the value of a cover: the single-output function of a `.names` command (BLIF manual of 1992).
use Rattle.std.specs.Prelude.{ℕ, Bool, true, not, ◌&&◌, ◌||◌, false, if◌then◌else◌, List, [], ◌∷◌}
use Rattle.netlist.specs.declared.cell.Cell.{Cell}
use Rattle.netlist.specs.declared.cell.Cell.TheVariants.{Zero, One, Any}

-- A row: one cell for each input.
pub record RowValue : Type 0 where
  pub cells : List Cell

-- A cover: the names of its inputs and of its output, its rows' output character, and the rows.
pub record CoverValue : Type 0 where
  pub inputs : List (List ℕ)
  pub output : List ℕ
  pub value : Bool
  pub rows : List RowValue

-- a cell allows an input value where it is Any or equals it
abbrev pub allows : Cell → Bool → Bool
allows Any input = true
allows One input = input
allows Zero input = not input

-- a row matches where it has one cell for each input, and every cell allows its input's value
abbrev pub matches : List Cell → List Bool → Bool
matches [] [] = true
matches [] (input ∷ inputs) = false
matches (cell ∷ cells) [] = false
matches (cell ∷ cells) (input ∷ inputs) = allows cell input && matches cells inputs

-- some row matches
abbrev pub some_row : List RowValue → List Bool → Bool
some_row [] inputs = false
some_row (row ∷ rows) inputs = matches row.cells inputs || some_row rows inputs

-- the cover's value: with output character 1 it is 1 exactly where some row matches, with 0 exactly where none does
abbrev pub cover_value : CoverValue → List Bool → Bool
cover_value cover inputs = if cover.value then some_row cover.rows inputs else not (some_row cover.rows inputs)
