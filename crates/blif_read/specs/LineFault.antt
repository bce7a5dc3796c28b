-- The refusal of a line in its place: the first of the table's order.
use Rattle.std.specs.Prelude.{ℕ, ◌+◌, ◌==◌, Bool, true, false, not, ◌||◌, if◌then◌else◌, List, [], ◌∷◌, ◌++◌, length, take, drop, codes, bytes_eq, Option, Some, None, position}
use Rattle.blif_read.specs.Words.{BlifErr, NotCommand, Unsupported, OutsideModel, Arity, BadRow, MixedRows, BadLatch, LatchKind, DuplicateModel, DuplicatePort, BadConnection, Keyword, Model, Inputs, Outputs, Clock, Names, Latch, Subckt, End, Unknown, Plain, Connection}
pub use Rattle.std.specs.Option.{option_or as or_later}
pub use Rattle.tl_text.specs.NameSets.{has_name as has}
use Rattle.blif_read.specs.Statement.{StatementValue}
use Rattle.blif_read.specs.Context.{Context, CoverPlace, RowRead, row_of}

-- B9: a model of this name began earlier
abbrev pub model_fault : ℕ → List (List ℕ) → List (List ℕ) → Option BlifErr
model_fault number models [] = Some (Arity number)
model_fault number models (name ∷ []) = if has models name then Some (DuplicateModel number name) else None
model_fault number models (first ∷ second ∷ more) = Some (Arity number)

-- B10: the first name that stood earlier in the model's lines of this kind, this line included
abbrev pub ports_fault : ℕ → List (List ℕ) → List (List ℕ) → Option BlifErr
ports_fault number ports [] = None
ports_fault number ports (name ∷ names) = if has ports name then Some (DuplicatePort number name) else ports_fault number (ports ++ name ∷ []) names

abbrev pub names_fault : ℕ → List (List ℕ) → Option BlifErr
names_fault number [] = Some (Arity number)
names_fault number (name ∷ names) = None

-- B1, B5, B6: a line without a keyword is a row of the cover in whose rows' place it stands
abbrev pub same_bit : Bool → Bool → Bool
same_bit true b = b
same_bit false b = not b

abbrev pub mixed_fault : ℕ → Option Bool → Bool → Option BlifErr
mixed_fault number None value = None
mixed_fault number (Some first) value = if same_bit first value then None else Some (MixedRows number)

abbrev pub row_read_fault : ℕ → Option Bool → Option RowRead → Option BlifErr
row_read_fault number first None = Some (BadRow number)
row_read_fault number first (Some row) = mixed_fault number first row.value

abbrev pub row_fault : ℕ → Option CoverPlace → List (List ℕ) → Option BlifErr
row_fault number None words = Some (NotCommand number)
row_fault number (Some place) words = row_read_fault number place.value (row_of place.inputs words)

-- B7, B8: an init, and a type
abbrev pub init_fault : ℕ → List ℕ → Option BlifErr
init_fault number init =
    if bytes_eq init (codes "0") || (bytes_eq init (codes "1") || (bytes_eq init (codes "2") || bytes_eq init (codes "3"))) then None
    else Some (BadLatch number)

abbrev pub kind_fault : ℕ → List ℕ → Option BlifErr
kind_fault number kind =
    if bytes_eq kind (codes "re") then None
    else if bytes_eq kind (codes "fe") || (bytes_eq kind (codes "ah") || (bytes_eq kind (codes "al") || bytes_eq kind (codes "as"))) then Some (LatchKind number)
    else Some (BadLatch number)

-- B4, B7, B8: the type is looked at before the init
abbrev pub latch_fault : ℕ → List (List ℕ) → Option BlifErr
latch_fault number [] = Some (Arity number)
latch_fault number (input ∷ []) = Some (Arity number)
latch_fault number (input ∷ output ∷ []) = None
latch_fault number (input ∷ output ∷ init ∷ []) = init_fault number init
latch_fault number (input ∷ output ∷ kind ∷ control ∷ []) = kind_fault number kind
latch_fault number (input ∷ output ∷ kind ∷ control ∷ init ∷ []) = or_later (kind_fault number kind) (init_fault number init)
latch_fault number (input ∷ output ∷ kind ∷ control ∷ init ∷ next ∷ more) = Some (Arity number)

-- a connection split at its first `=` (61); none without it or with an empty side
abbrev pub split_at : List ℕ → Option ℕ → Option Connection
split_at word None = None
split_at word (Some place) =
    if (length (take place word) == 0) || (length (drop (place + 1) word) == 0) then None
    else Some (record { formal = take place word; actual = drop (place + 1) word })

abbrev pub connection_of : List ℕ → Option Connection
connection_of word = split_at word (position (λ b. b == 61) word)

-- B11: no connection, or one with a formal that stood earlier in the line
abbrev pub repeats_formal : List (List ℕ) → Option Connection → Bool
repeats_formal formals None = true
repeats_formal formals (Some pair) = has formals pair.formal

abbrev pub with_formal : List (List ℕ) → Option Connection → List (List ℕ)
with_formal formals None = formals
with_formal formals (Some pair) = formals ++ pair.formal ∷ []

abbrev pub connections_fault : ℕ → List (List ℕ) → List (List ℕ) → Option BlifErr
connections_fault number formals [] = None
connections_fault number formals (word ∷ words) =
    if repeats_formal formals (connection_of word) then Some (BadConnection number)
    else connections_fault number (with_formal formals (connection_of word)) words

abbrev pub subckt_fault : ℕ → List (List ℕ) → Option BlifErr
subckt_fault number [] = Some (Arity number)
subckt_fault number (model ∷ words) = connections_fault number [] words

abbrev pub end_fault : ℕ → List (List ℕ) → Option BlifErr
end_fault number [] = None
end_fault number (word ∷ words) = Some (Arity number)

-- B3 where no model is open, else the refusal that the line has in one
abbrev pub in_model : Bool → ℕ → Option BlifErr → Option BlifErr
in_model is_open number fault = if is_open then fault else Some (OutsideModel number)

-- the refusal of a line: B2 for another word with a dot, else B3 where no model is open and the line begins none
abbrev pub fault_by : Keyword → Context → ℕ → List (List ℕ) → Option BlifErr
fault_by Unknown context number words = Some (Unsupported number)
fault_by Model context number words = model_fault number context.models words
fault_by Plain context number words = in_model context.is_open number (row_fault number context.cover words)
fault_by Inputs context number words = in_model context.is_open number (ports_fault number context.inputs words)
fault_by Outputs context number words = in_model context.is_open number (ports_fault number context.outputs words)
fault_by Clock context number words = in_model context.is_open number (ports_fault number context.clocks words)
fault_by Names context number words = in_model context.is_open number (names_fault number words)
fault_by Latch context number words = in_model context.is_open number (latch_fault number words)
fault_by Subckt context number words = in_model context.is_open number (subckt_fault number words)
fault_by End context number words = in_model context.is_open number (end_fault number words)

abbrev pub line_fault : Context → StatementValue → Option BlifErr
line_fault context s = fault_by s.keyword context s.number s.arguments
