-- What the lines before a line say of its place: the open model's ports, the names of the models, and the cover whose rows may follow.
-- Each is a recursion on the earlier statements, the nearest first.
use Rattle.std.specs.Prelude.{ℕ, ◌-◌, ◌==◌, Bool, true, false, not, ◌&&◌, if◌then◌else◌, List, [], ◌∷◌, ◌++◌, length, Option, Some, None}
use Rattle.std.specs.Option.{option_map}
use Rattle.blif_read.specs.Words.{bit_of, Cell, Zero, One, Any, Keyword, Model, Names, End, Plain, Ports, input_ports, output_ports, clock_ports}
use Rattle.blif_read.specs.Statement.{StatementValue}
use Rattle.blif_read.specs.Denotes.{port_names}

-- the cell that a character is
abbrev pub cell_of : ℕ → Option Cell
cell_of b = if b == 48 then Some Zero else if b == 49 then Some One else if b == 45 then Some Any else None

abbrev pub put_cell : Option Cell → Option (List Cell) → Option (List Cell)
put_cell (Some cell) (Some cells) = Some (cell ∷ cells)
put_cell (Some cell) None = None
put_cell None cells = None

abbrev pub cells_of : List ℕ → Option (List Cell)
cells_of [] = Some []
cells_of (b ∷ bs) = put_cell (cell_of b) (cells_of bs)

-- a row as it is read: its cells and its output character
pub record RowRead : Type 0 where
  pub cells : List Cell
  pub value : Bool

abbrev pub row_with : Option (List Cell) → Option Bool → Option RowRead
row_with (Some cells) (Some value) = Some (record { cells = cells; value = value })
row_with (Some cells) None = None
row_with None value = None

-- the row that the words of a line are for a cover of so many inputs, if they have its form
abbrev pub row_of : ℕ → List (List ℕ) → Option RowRead
row_of inputs [] = None
row_of inputs (output ∷ []) = if inputs == 0 then row_with (Some []) (bit_of output) else None
row_of inputs (cells ∷ output ∷ []) = if not (inputs == 0) && (length cells == inputs) then row_with (cells_of cells) (bit_of output) else None
row_of inputs (first ∷ second ∷ third ∷ more) = None

-- a cover whose rows may follow: how many inputs it has, and the output character of its first row, if it has one yet
pub record CoverPlace : Type 0 where
  pub inputs : ℕ
  pub value : Option Bool

abbrev pub first_value : Option Bool → Option RowRead → Option Bool
first_value (Some value) row = Some value
first_value None row = option_map (λ (r : RowRead). r.value) row

abbrev pub row_place : List (List ℕ) → Option CoverPlace → Option CoverPlace
row_place words place = option_map (λ (p : CoverPlace). record { inputs = p.inputs; value = first_value p.value (row_of p.inputs words) }) place

-- after a `.names` line stand its rows, and after a row further ones
abbrev pub place_after : Keyword → List (List ℕ) → Option CoverPlace → Option CoverPlace
place_after Names names place = Some (record { inputs = length names - 1; value = None })
place_after Plain words place = row_place words place
place_after keyword words place = None

abbrev pub cover_place : List StatementValue → Option CoverPlace
cover_place [] = None
cover_place (s ∷ earlier) = place_after s.keyword s.arguments (cover_place earlier)

-- a `.model` line begins a model and an `.end` line ends it
abbrev pub open_after : Keyword → Bool → Bool
open_after Model is_open = true
open_after End is_open = false
open_after keyword is_open = is_open

abbrev pub is_open : List StatementValue → Bool
is_open [] = false
is_open (s ∷ earlier) = open_after s.keyword (is_open earlier)

-- the names of the models that began
abbrev pub models_after : Keyword → List (List ℕ) → List (List ℕ) → List (List ℕ)
models_after Model names models = models ++ names
models_after keyword names models = models

abbrev pub model_names : List StatementValue → List (List ℕ)
model_names [] = []
model_names (s ∷ earlier) = models_after s.keyword s.arguments (model_names earlier)

-- the ports of the open model so far
abbrev pub ports_after : Ports → Keyword → List (List ℕ) → List (List ℕ) → List (List ℕ)
ports_after p Model names ports = []
ports_after p End names ports = []
ports_after p keyword names ports = ports ++ port_names p keyword names

abbrev pub open_ports : Ports → List StatementValue → List (List ℕ)
open_ports p [] = []
open_ports p (s ∷ earlier) = ports_after p s.keyword s.arguments (open_ports p earlier)

-- all of this together
pub record Context : Type 0 where
  pub is_open : Bool
  pub models : List (List ℕ)
  pub inputs : List (List ℕ)
  pub outputs : List (List ℕ)
  pub clocks : List (List ℕ)
  pub cover : Option CoverPlace

abbrev pub context_of : List StatementValue → Context
context_of earlier = record {
  is_open = is_open earlier;
  models = model_names earlier;
  inputs = open_ports input_ports earlier;
  outputs = open_ports output_ports earlier;
  clocks = open_ports clock_ports earlier;
  cover = cover_place earlier;
}
