-- A netlist without hierarchy: the lines that write it, and the model that they denote (BLIF manual of 1992).
use Rattle.std.specs.Prelude.{◌≡◌, ℕ, suc, ◌+◌, true, if◌then◌else◌, List, [], ◌∷◌, ◌++◌, length, map, codes, bytes_eq, Option, Some, None}
use Rattle.std.specs.List.{flat_map}
use Rattle.blif_write.specs.Words.{In, IsClean, AreOnce, Cell, CoverValue}
pub use Rattle.tl_text.specs.WrittenText.{words_text, line_text}
use Rattle.netlist.specs.declared.latch.Latch.{Latch as LatchValue}
use Rattle.netlist.specs.declared.command.Command.{Command}
use Rattle.netlist.specs.declared.command.Body.TheVariants.{Cover, Latch}
use Rattle.netlist.specs.LibraryValue.{ModelValue, LibraryValue}
use Rattle.blif_read.specs.Rows.{cell_character, output_token}
use Rattle.netlist.specs.HasCleanNames.{AreClean, IsCleanBody}
use Rattle.netlist.specs.WellFormed.{IsWellFormedBody}

-- One model of latches and of covers by their on-sets. Its inputs stand in one list for each `.inputs` line.
pub record PlainNetlist : Type 0 where
  pub name : List ℕ
  pub inputs : List (List (List ℕ))
  pub outputs : List (List ℕ)
  pub latches : List LatchValue
  pub covers : List CoverValue

-- the names of all lines of inputs
abbrev pub all_inputs : PlainNetlist → List (List ℕ)
all_inputs n = flat_map (λ (names : List (List ℕ)). names) n.inputs

-- the type and the control of a latch that has one
abbrev pub control_words : Option (List ℕ) → List (List ℕ)
control_words None = []
control_words (Some control) = codes "re" ∷ control ∷ []

abbrev pub latch_line : LatchValue → List (List ℕ)
latch_line l = codes ".latch" ∷ l.input ∷ l.output ∷ (control_words l.control ++ output_token l.init ∷ [])

-- a row: a character for each cell, where there are some, and the output character
abbrev pub row_line : List Cell → List (List ℕ)
row_line [] = codes "1" ∷ []
row_line (cell ∷ cells) = map cell_character (cell ∷ cells) ∷ codes "1" ∷ []

abbrev pub cover_lines : CoverValue → List (List (List ℕ))
cover_lines c = (codes ".names" ∷ (c.inputs ++ c.output ∷ [])) ∷ map (λ row. row_line row.cells) c.rows

-- the lines, each a list of words
abbrev pub netlist_lines : PlainNetlist → List (List (List ℕ))
netlist_lines n =
    (codes ".model" ∷ n.name ∷ [])
    ∷ (map (λ names. codes ".inputs" ∷ names) n.inputs
    ++ ((codes ".outputs" ∷ n.outputs)
    ∷ (map latch_line n.latches
    ++ (flat_map cover_lines n.covers
    ++ (codes ".end" ∷ []) ∷ []))))

-- the bytes of the lines, each of its words with a blank between them and a line feed
abbrev pub netlist_text : PlainNetlist → List ℕ
netlist_text n = flat_map line_text (netlist_lines n)

-- The control `NIL` is read as no control.
abbrev pub read_control : Option (List ℕ) → Option (List ℕ)
read_control None = None
read_control (Some control) = if bytes_eq control (codes "NIL") then None else Some control

abbrev pub read_latch : LatchValue → LatchValue
read_latch l = record l { control = read_control l.control }

-- the commands with the numbers of their lines, the first of which is this: a latch takes a line, and a cover one and one for each row
abbrev pub latch_commands : ℕ → List LatchValue → List Command
latch_commands line [] = []
latch_commands line (l ∷ ls) = record { line = line; body = Latch (read_latch l) } ∷ latch_commands (suc line) ls

abbrev pub cover_commands : ℕ → List CoverValue → List Command
cover_commands line [] = []
cover_commands line (c ∷ cs) = record { line = line; body = Cover c } ∷ cover_commands (suc line + length c.rows) cs

-- the model that the lines denote
abbrev pub model_of : PlainNetlist → ModelValue
model_of n = record {
  name = n.name;
  line = 1;
  inputs = all_inputs n;
  outputs = n.outputs;
  clocks = [];
  commands = latch_commands (3 + length n.inputs) n.latches ++ cover_commands (3 + length n.inputs + length n.latches) n.covers;
}

abbrev pub library_of : PlainNetlist → LibraryValue
library_of n = record { models = model_of n ∷ [] }

-- The names are clean, no two inputs are alike and no two outputs, and each cover is by its on-set, with a cell for each input in each row.
pub record IsPlain (n : PlainNetlist) : Type 0 where
  pub name : IsClean n.name
  pub inputs : (names : List (List ℕ)) → In n.inputs names → AreClean names
  pub inputs_once : AreOnce (all_inputs n)
  pub outputs : AreClean n.outputs
  pub outputs_once : AreOnce n.outputs
  pub latches : (l : LatchValue) → In n.latches l → IsCleanBody (Latch l)
  pub covers : (c : CoverValue) → In n.covers c → IsCleanBody (Cover c)
  pub on : (c : CoverValue) → In n.covers c → c.value ≡ true
  pub cells : (c : CoverValue) → In n.covers c → IsWellFormedBody (Cover c)
