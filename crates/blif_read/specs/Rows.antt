-- The rows of a cover, by their lines (BLIF manual of 1992).
use Rattle.std.specs.Prelude.{◌≡◌, ℕ, ◌<◌, Bool, List, [], ◌∷◌, length, map}
use Rattle.blif_read.specs.Words.{Cell, Zero, One, Any, Plain, RowValue}
pub use Rattle.list_laws.specs.Digits.{digit_text as output_token}
use Rattle.blif_read.specs.Statement.{StatementValue}

-- the characters of a cell: `0`, `1` and `-`
abbrev pub cell_character : Cell → ℕ
cell_character Zero = 48
cell_character One = 49
cell_character Any = 45

-- A line is a row of a cover of so many inputs with this output: without inputs the output character alone, else one character an input before it.
pub data IsRow (inputs : ℕ) (value : Bool) (s : StatementValue) (row : RowValue) : Type 0 where
  alone : inputs ≡ 0 → s.keyword ≡ Plain → s.arguments ≡ output_token value ∷ [] → row.cells ≡ [] → IsRow inputs value s row
  behind : 0 < inputs → s.keyword ≡ Plain → s.arguments ≡ map cell_character row.cells ∷ output_token value ∷ [] → length row.cells ≡ inputs → IsRow inputs value s row

-- lines are the rows of a cover, one a line
pub data AreRows (inputs : ℕ) (value : Bool) : List StatementValue → List RowValue → Type 0 where
  none : AreRows inputs value [] []
  more : (s : StatementValue) (ss : List StatementValue) (row : RowValue) (rows : List RowValue) → IsRow inputs value s row → AreRows inputs value ss rows → AreRows inputs value (s ∷ ss) (row ∷ rows)
