-- The reader as one pass over the statements with an open model: what its code computes.
-- The proofs show that it gives what a text denotes, and its refusals; no reader of the contracts needs it.
use Rattle.std.specs.Prelude.{ℕ, ◌-◌, ◌==◌, Bool, true, false, if◌then◌else◌, List, [], ◌∷◌, ◌++◌, length, take, codes, bytes_eq, Option, Some, None, is_some, Result, Ok, Err, slice_index_or, ◌≡◌, MatchResult}
use Rattle.std.specs.Option.{option_map}
use Rattle.blif_read.specs.Words.{LineValue, lines_of, TextErr, BlifErr, NoModel, OutsideModel, Keyword, Body, Cover, Command, LatchValue, Connection, CoverValue, SubcktValue, ModelValue, LibraryValue, Ports, input_ports, output_ports, clock_ports, ports_of}
use Rattle.blif_read.specs.declared.keyword.Keyword.TheVariants as keyword
use Rattle.netlist.specs.declared.command.Body.TheVariants.{Latch, Subckt}
use Rattle.blif_read.specs.Statement.{StatementValue, statements}
use Rattle.blif_read.specs.Context.{Context, CoverPlace, RowRead, row_of}
use Rattle.blif_read.specs.LineFault.{line_fault, connection_of, ports_fault, names_fault, row_fault, latch_fault, subckt_fault, end_fault}
use Rattle.blif_read.specs.ReadFault.{blif_err}
use Rattle.tl_fault.specs.OrMemory.{OrMemory}
use Rattle.blif_read.specs.Refusals.{refusal_of}

-- a cover whose rows may follow, with its line
pub record CoverRead : Type 0 where
  pub line : ℕ
  pub cover : CoverValue

-- the open model, without the cover whose rows may follow
pub record ModelRead : Type 0 where
  pub model : ModelValue
  pub cover : Option CoverRead

-- the names of the models that began, the models that ended, and the open one
pub record State : Type 0 where
  pub names : List (List ℕ)
  pub done : List ModelValue
  pub current : Option ModelRead

abbrev pub start : State
start = record { names = []; done = []; current = None }

-- the open model with its last cover
abbrev pub with_command : ModelValue → ℕ → Body → ModelValue
with_command m line body = record m { commands = m.commands ++ record { line = line; body = body } ∷ [] }

abbrev pub with_cover : ModelValue → Option CoverRead → ModelValue
with_cover m None = m
with_cover m (Some c) = with_command m c.line (Cover c.cover)

abbrev pub flushed : ModelRead → ModelValue
flushed r = with_cover r.model r.cover

-- the models with the open one
abbrev pub with_current : List ModelValue → Option ModelRead → List ModelValue
with_current done None = done
with_current done (Some r) = done ++ flushed r ∷ []

abbrev pub ended : State → List ModelValue
ended s = with_current s.done s.current

-- the place of the next line
abbrev pub current_ports : Ports → Option ModelRead → List (List ℕ)
current_ports p None = []
current_ports p (Some r) = ports_of p r.model

abbrev pub value_so_far : CoverValue → Option Bool
value_so_far c = if length c.rows == 0 then None else Some c.value

abbrev pub place_of_cover : Option CoverRead → Option CoverPlace
place_of_cover c = option_map (λ (r : CoverRead). record { inputs = length r.cover.inputs; value = value_so_far r.cover }) c

abbrev pub current_place : Option ModelRead → Option CoverPlace
current_place None = None
current_place (Some r) = place_of_cover r.cover

abbrev pub context : State → Context
context s = record {
  is_open = is_some s.current;
  models = s.names;
  inputs = current_ports input_ports s.current;
  outputs = current_ports output_ports s.current;
  clocks = current_ports clock_ports s.current;
  cover = current_place s.current;
}

-- what a line makes
abbrev pub first_word : List (List ℕ) → List ℕ
first_word [] = []
first_word (word ∷ words) = word

abbrev pub fresh : List (List ℕ) → ℕ → ModelRead
fresh words line = record { model = record { name = first_word words; line = line; inputs = []; outputs = []; clocks = []; commands = [] }; cover = None }

abbrev pub with_ports : Ports → List (List ℕ) → ModelValue → ModelValue
with_ports input_ports names m = record m { inputs = m.inputs ++ names }
with_ports output_ports names m = record m { outputs = m.outputs ++ names }
with_ports clock_ports names m = record m { clocks = m.clocks ++ names }

abbrev pub cover_of : List (List ℕ) → CoverValue
cover_of names = record { inputs = take (length names - 1) names; output = slice_index_or names (length names - 1) []; value = true; rows = [] }

abbrev pub with_row : CoverValue → Option RowRead → CoverValue
with_row c None = c
with_row c (Some row) = record c { value = row.value; rows = c.rows ++ record { cells = row.cells } ∷ [] }

abbrev pub with_row_words : List (List ℕ) → CoverRead → CoverRead
with_row_words words r = record { line = r.line; cover = with_row r.cover (row_of (length r.cover.inputs) words) }

abbrev pub control_of : List ℕ → Option (List ℕ)
control_of token = if bytes_eq token (codes "NIL") then None else Some token

abbrev pub init_of : List ℕ → Bool
init_of token = bytes_eq token (codes "1")

abbrev pub latch_of : List (List ℕ) → LatchValue
latch_of [] = record { input = []; output = []; control = None; init = false }
latch_of (input ∷ []) = record { input = []; output = []; control = None; init = false }
latch_of (input ∷ output ∷ []) = record { input = input; output = output; control = None; init = false }
latch_of (input ∷ output ∷ init ∷ []) = record { input = input; output = output; control = None; init = init_of init }
latch_of (input ∷ output ∷ kind ∷ control ∷ []) = record { input = input; output = output; control = control_of control; init = false }
latch_of (input ∷ output ∷ kind ∷ control ∷ init ∷ more) = record { input = input; output = output; control = control_of control; init = init_of init }

abbrev pub put_pair : Option Connection → List Connection → List Connection
put_pair None pairs = pairs
put_pair (Some pair) pairs = pair ∷ pairs

abbrev pub pairs_of : List (List ℕ) → List Connection
pairs_of [] = []
pairs_of (word ∷ words) = put_pair (connection_of word) (pairs_of words)

abbrev pub subckt_of : List (List ℕ) → SubcktValue
subckt_of [] = record { model = []; pairs = [] }
subckt_of (model ∷ words) = record { model = model; pairs = pairs_of words }

-- the open model after a line
abbrev pub row_read : List (List ℕ) → ModelRead → ModelRead
row_read words r = record { model = r.model; cover = option_map (with_row_words words) r.cover }

abbrev pub ports_read : Ports → List (List ℕ) → ModelRead → ModelRead
ports_read p names r = record { model = with_ports p names (flushed r); cover = None }

abbrev pub names_read : ℕ → List (List ℕ) → ModelRead → ModelRead
names_read line names r = record { model = flushed r; cover = Some (record { line = line; cover = cover_of names }) }

abbrev pub body_read : ℕ → Body → ModelRead → ModelRead
body_read line body r = record { model = with_command (flushed r) line body; cover = None }

abbrev pub model_after : Keyword → ℕ → List (List ℕ) → ModelRead → ModelRead
model_after keyword.Plain line words r = row_read words r
model_after keyword.Inputs line words r = ports_read input_ports words r
model_after keyword.Outputs line words r = ports_read output_ports words r
model_after keyword.Clock line words r = ports_read clock_ports words r
model_after keyword.Names line words r = names_read line words r
model_after keyword.Latch line words r = body_read line (Latch (latch_of words)) r
model_after keyword.Subckt line words r = body_read line (Subckt (subckt_of words)) r
model_after other line words r = r

-- the state with a line read by the open model
abbrev pub line_read : Keyword → State → ℕ → List (List ℕ) → State
line_read k s line words = record { names = s.names; done = s.done; current = option_map (model_after k line words) s.current }

-- the state after a line that has no refusal
abbrev pub next_by : Keyword → State → ℕ → List (List ℕ) → State
next_by keyword.Model s line words = record { names = s.names ++ words; done = ended s; current = Some (fresh words line) }
next_by keyword.End s line words = record { names = s.names; done = ended s; current = None }
next_by keyword.Inputs s line words = line_read keyword.Inputs s line words
next_by keyword.Outputs s line words = line_read keyword.Outputs s line words
next_by keyword.Clock s line words = line_read keyword.Clock s line words
next_by keyword.Names s line words = line_read keyword.Names s line words
next_by keyword.Latch s line words = line_read keyword.Latch s line words
next_by keyword.Subckt s line words = line_read keyword.Subckt s line words
next_by keyword.Unknown s line words = line_read keyword.Unknown s line words
next_by keyword.Plain s line words = line_read keyword.Plain s line words

abbrev pub next : State → StatementValue → State
next s l = next_by l.keyword s l.number l.arguments

abbrev pub or_fault : Option BlifErr → Result State BlifErr → Result State BlifErr
or_fault None later = later
or_fault (Some e) later = Err e

abbrev pub steps : State → List StatementValue → Result State BlifErr
steps s [] = Ok s
steps s (l ∷ ls) = or_fault (line_fault (context s) l) (steps (next s l) ls)

-- the library at the end
abbrev pub library_at_end : List ModelValue → Result LibraryValue BlifErr
library_at_end [] = Err NoModel
library_at_end (m ∷ ms) = Ok (record { models = m ∷ ms })

abbrev pub finished : Result State BlifErr → Result LibraryValue BlifErr
finished (Ok s) = library_at_end (ended s)
finished (Err e) = Err e

abbrev pub library_read : List StatementValue → Result LibraryValue BlifErr
library_read ss = finished (steps start ss)

abbrev pub lines_read : List ℕ → Result (List LineValue) TextErr → Result LibraryValue BlifErr
lines_read bytes (Ok lines) = library_read (statements bytes lines)
lines_read bytes (Err e) = Err (blif_err e)

abbrev pub text_read : List ℕ → Result LibraryValue BlifErr
text_read bytes = lines_read bytes (lines_of bytes)

-- the refusal of a result
abbrev pub fault_of : {A : Type 0} → Result A BlifErr → Option BlifErr
fault_of (Ok x) = None
fault_of (Err e) = Some e

-- the refusal of a line by the open model that it stands in; of a line that begins or ends a model, or has no keyword of the profile, none
abbrev pub model_line_fault : Keyword → ModelRead → ℕ → List (List ℕ) → Option BlifErr
model_line_fault keyword.Plain r number words = row_fault number (place_of_cover r.cover) words
model_line_fault keyword.Inputs r number words = ports_fault number r.model.inputs words
model_line_fault keyword.Outputs r number words = ports_fault number r.model.outputs words
model_line_fault keyword.Clock r number words = ports_fault number r.model.clocks words
model_line_fault keyword.Names r number words = names_fault number words
model_line_fault keyword.Latch r number words = latch_fault number words
model_line_fault keyword.Subckt r number words = subckt_fault number words
model_line_fault other r number words = None

abbrev pub inside_fault : Keyword → Option ModelRead → ℕ → List (List ℕ) → Option BlifErr
inside_fault k None number words = Some (OutsideModel number)
inside_fault k (Some r) number words = model_line_fault k r number words

-- of an `.end` line
abbrev pub end_line_fault : Option ModelRead → ℕ → List (List ℕ) → Option BlifErr
end_line_fault None number words = Some (OutsideModel number)
end_line_fault (Some r) number words = end_fault number words

-- commands with the cover of whose rows none follow any more
abbrev pub commands_with : List Command → Option CoverRead → List Command
commands_with commands None = commands
commands_with commands (Some c) = commands ++ record { line = c.line; body = Cover c.cover } ∷ []

-- What the reader of a part answers.

-- the part has no fault, and this holds of what is read; or it is refused for its fault
abbrev pub ReadsUnless : {V : Type 0} → Option BlifErr → (V → Type 0) → Result V BlifErr → Type 0
ReadsUnless fault Holds result = MatchResult result (λ v. (fault ≡ None) × Holds v) (OrMemory refusal_of (λ e. fault ≡ Some e))
