-- The circuit of a text, or its first refusal, as the code finds them: the header, then line by line, and the names of inputs and outputs last.
-- What only bodies are compared with stands at the end: numbers up to a greatest one, and names that occur twice, as they are found.
use Rattle.std.specs.Prelude.{ℕ, if◌then◌else◌, ◌==◌, List, [], ◌∷◌, Option, Some, None, Result, Ok, Err, ◌&&◌, nat_le, length, bytes_eq, codes, ◌+◌, Bool, true, false, ◌||◌, ◌++◌, not, nat_lt, replicate, slice_set, slice_index_or, take, drop, unwrap_or, ◌≡◌, ◌≤◌, min}
use Rattle.std.specs.List.{slice_split, before_first, after_first}
use Rattle.tl_text.specs.Decimal.{is_decimal, number_from}
use Rattle.aiger_io.specs.declared.aag_err.AagErr.{AagErr}
use Rattle.aiger_io.specs.declared.aag_err.AagErr.TheVariants as aag_err
use Rattle.aiger_io.specs.declared.header.Header.{Header}
pub use Rattle.aiger_io.specs.AigerText.{is_header, item_count, kind_at, is_literal, is_variable, is_in_range, Symbol, is_bad_byte, is_bad_name, count_of, default_name}
use Rattle.std.specs.Option.{option_map, is_some}
use Rattle.aiger_io.specs.declared.aag_err.AagErr.TheVariants.{Malformed, Range, BadSymbol}
use Rattle.aiger_io.specs.declared.item.Item.{Item}
use Rattle.aiger_io.specs.declared.item.Item.TheVariants.{Input, Latch, Output, And}
use Rattle.aiger_io.specs.declared.item.LineKind.{LineKind}
use Rattle.aiger_io.specs.declared.item.LineKind.TheVariants as kind
use Rattle.tl_text.specs.NameSets.{has_name, with_name}
use Rattle.std.specs.Str.Lines.{lines}
use Rattle.netlist.specs.LibraryValue.{LibraryValue}
use Rattle.aiger_io.specs.Circuit.{Circuit}
use Rattle.aiger_io.specs.CircuitLibrary.{library_of}
use Rattle.aiger_io.specs.declared.symbol.Symbol.{Symbol as Read}

-- words are separated by one blank (32)
abbrev pub words_of : List ℕ → List (List ℕ)
words_of row = slice_split (λ b. b == 32) row

-- the decimal number that a word is: `0`, or a digit 1 to 9 followed by digits, as many as there are
abbrev pub number_of : List ℕ → Option ℕ
number_of word = if is_decimal word then Some (number_from 0 word) else None

-- the numbers that words are, where each of them is one
abbrev pub in_front : Option ℕ → Option (List ℕ) → Option (List ℕ)
in_front None rest = None
in_front (Some n) None = None
in_front (Some n) (Some ns) = Some (n ∷ ns)

abbrev pub numbers_of : List (List ℕ) → Option (List ℕ)
numbers_of [] = Some []
numbers_of (word ∷ words) = in_front (number_of word) (numbers_of words)

-- what follows a result, unless that is an error
abbrev pub and_then : {V W E : Type 0} → (V → Result W E) → Result V E → Result W E
and_then f (Ok x) = f x
and_then f (Err e) = Err e

-- numbers of another count: with six to nine the header is one of a later version of the format
abbrev pub other_header : List ℕ → AagErr
other_header numbers = if nat_le 6 (length numbers) && nat_le (length numbers) 9 then aag_err.Unsupported else aag_err.Header

abbrev pub header_with : List ℕ → Result Header AagErr
header_with (m ∷ i ∷ l ∷ o ∷ a ∷ []) =
    if is_header (record { variables = m; inputs = i; latches = l; outputs = o; ands = a })
    then Ok (record { variables = m; inputs = i; latches = l; outputs = o; ands = a })
    else Err aag_err.Header
header_with numbers = Err (other_header numbers)

abbrev pub header_by : Option (List ℕ) → Result Header AagErr
header_by None = Err aag_err.Header
header_by (Some numbers) = header_with numbers

abbrev pub header_of : List (List ℕ) → Result Header AagErr
header_of [] = Err aag_err.Header
header_of (word ∷ words) = if bytes_eq word (codes "aag") then header_by (numbers_of words) else Err aag_err.Header

-- of the lines of a text
abbrev pub header_in : List (List ℕ) → Result Header AagErr
header_in [] = Err aag_err.Header
header_in (row ∷ rows) = header_of (words_of row)

-- an input's and an output's literal
abbrev pub one_number : List (List ℕ) → Option ℕ
one_number [] = None
one_number (word ∷ []) = number_of word
one_number (word ∷ next ∷ words) = None

-- the state at the start: 1 exactly for `1`; else there stands `0` or the latch's own literal
abbrev pub init_of : List ℕ → List ℕ → Option Bool
init_of own word = if bytes_eq word (codes "1") then Some true else if bytes_eq word (codes "0") || bytes_eq word own then Some false else None

abbrev pub latch_with : Option ℕ → Option ℕ → Option Bool → Option Item
latch_with (Some own) (Some next) (Some init) = Some (Latch own next init)
latch_with (Some own) (Some next) None = None
latch_with (Some own) None init = None
latch_with None next init = None

abbrev pub latch_of : List (List ℕ) → Option Item
latch_of (own ∷ next ∷ []) = latch_with (number_of own) (number_of next) (Some false)
latch_of (own ∷ next ∷ init ∷ []) = latch_with (number_of own) (number_of next) (init_of own init)
latch_of words = None

abbrev pub and_with : Option ℕ → Option ℕ → Option ℕ → Option Item
and_with (Some own) (Some left) (Some right) = Some (And own left right)
and_with (Some own) (Some left) None = None
and_with (Some own) None right = None
and_with None left right = None

abbrev pub and_of : List (List ℕ) → Option Item
and_of (own ∷ left ∷ right ∷ []) = and_with (number_of own) (number_of left) (number_of right)
and_of words = None

-- the form of a line of each kind
abbrev pub item_of : LineKind → List (List ℕ) → Option Item
item_of kind.Input words = option_map (λ (l : ℕ). Input l) (one_number words)
item_of kind.Latch words = latch_of words
item_of kind.Output words = option_map (λ (l : ℕ). Output l) (one_number words)
item_of kind.And words = and_of words

-- the line at a place, or its refusal: its form comes before its range
abbrev pub item_with : ℕ → ℕ → Option Item → Result Item AagErr
item_with most place None = Err (Malformed (place + 2))
item_with most place (Some item) = if is_in_range most item then Ok item else Err (Range (place + 2))

abbrev pub item_at : Header → ℕ → List ℕ → Result Item AagErr
item_at h place row = item_with h.variables place (item_of (kind_at h place) (words_of row))

-- All of them, where these stand already and these lines follow. A line that isn't there any more is malformed.
abbrev pub items_from : Header → List Item → List (List ℕ) → Result (List Item) AagErr
items_from h items [] = if nat_le (item_count h) (length items) then Ok items else Err (Malformed (length items + 2))
items_from h items (row ∷ rows) =
    if nat_le (item_count h) (length items) then Ok items
    else and_then (λ (item : Item). items_from h (items ++ item ∷ []) rows) (item_at h (length items) row)

-- `i` (105), `l` (108) and `o` (111)
abbrev pub kind_of : ℕ → Option LineKind
kind_of letter = if letter == 105 then Some kind.Input else if letter == 108 then Some kind.Latch else if letter == 111 then Some kind.Output else None

abbrev pub symbol_by : List ℕ → Option ℕ → Option LineKind → Option Symbol
symbol_by name (Some ordinal) (Some k) = Some (record { kind = k; ordinal = ordinal; name = name })
symbol_by name (Some ordinal) None = None
symbol_by name None k = None

-- what stands before the first blank, and the name, which goes on to the line's end and isn't empty
abbrev pub symbol_with : List ℕ → List ℕ → Option Symbol
symbol_with [] name = None
symbol_with (letter ∷ digits) [] = None
symbol_with (letter ∷ digits) (b ∷ bs) = symbol_by (b ∷ bs) (number_of digits) (kind_of letter)

abbrev pub symbol_of : List ℕ → Option Symbol
symbol_of row = symbol_with (before_first (λ b. b == 32) row) (after_first (λ b. b == 32) row)

-- the place of the first of a kind among inputs, latches and outputs; gates have none
abbrev pub first_of : Header → LineKind → ℕ
first_of h kind.Input = 0
first_of h kind.Latch = h.inputs
first_of h kind.Output = h.inputs + h.latches
first_of h kind.And = h.inputs + h.latches + h.outputs

abbrev pub place_of : Header → Symbol → ℕ
place_of h s = first_of h s.kind + s.ordinal

-- What symbols say: the name at each place that has one so far, and the places in the order of the lines.
pub record SymbolsValue : Type 0 where
  pub names : List (Option (List ℕ))
  pub places : List ℕ

abbrev pub no_name : Option (List ℕ)
no_name = None

abbrev pub no_symbols : Header → SymbolsValue
no_symbols h = record { names = replicate (h.inputs + h.latches + h.outputs) no_name; places = [] }

abbrev pub with_symbol : Header → Symbol → SymbolsValue → SymbolsValue
with_symbol h s said = record { names = slice_set said.names (place_of h s) (Some s.name); places = said.places ++ place_of h s ∷ [] }

-- its ordinal is below the count and new, and its name can be a word
abbrev pub may_stand : Header → SymbolsValue → Symbol → Bool
may_stand h said s = nat_lt s.ordinal (count_of h s.kind) && (not (is_some (slice_index_or said.names (place_of h s) None)) && not (is_bad_name s.name))

abbrev pub symbol_at : Header → ℕ → SymbolsValue → Option Symbol → Result SymbolsValue AagErr
symbol_at h line said None = Err (Malformed line)
symbol_at h line said (Some s) = if may_stand h said s then Ok (with_symbol h s said) else Err (BadSymbol line s.name)

-- The symbols on lines the first of which has this number. A line `c` begins the comment, which isn't read.
abbrev pub symbols_from : Header → ℕ → SymbolsValue → List (List ℕ) → Result SymbolsValue AagErr
symbols_from h line said [] = Ok said
symbols_from h line said (row ∷ rows) =
    if bytes_eq row (codes "c") then Ok said
    else and_then (λ (more : SymbolsValue). symbols_from h (line + 1) more rows) (symbol_at h line said (symbol_of row))

abbrev pub names_from : ℕ → ℕ → List (Option (List ℕ)) → List (List ℕ)
names_from letter ordinal [] = []
names_from letter ordinal (name ∷ names) = unwrap_or name (default_name letter ordinal) ∷ names_from letter (ordinal + 1) names

-- the names of the inputs (`i` is 105) and of the outputs (`o` is 111)
abbrev pub input_names : Header → SymbolsValue → List (List ℕ)
input_names h said = names_from 105 0 (take h.inputs said.names)

abbrev pub output_names : Header → SymbolsValue → List (List ℕ)
output_names h said = names_from 111 0 (drop (h.inputs + h.latches) said.names)

abbrev pub port_names : Header → SymbolsValue → List (List ℕ)
port_names h said = input_names h said ++ output_names h said

-- does a name occur twice among names: at a place, and at another one after it
abbrev pub is_twice : List (List ℕ) → List ℕ → Bool
is_twice [] name = false
is_twice (other ∷ names) name = (bytes_eq name other && has_name names name) || is_twice names name

-- is it an input or an output at this place
abbrev pub is_port : Header → ℕ → Bool
is_port h place = nat_lt place h.inputs || nat_le (h.inputs + h.latches) place

abbrev pub name_at : SymbolsValue → ℕ → List ℕ
name_at said place = unwrap_or (slice_index_or said.names place no_name) []

-- the first symbol of an input or an output that names another one too, among those on lines from this one on
abbrev pub first_twice : Header → SymbolsValue → ℕ → List ℕ → Option AagErr
first_twice h said line [] = None
first_twice h said line (place ∷ places) =
    if is_port h place && is_twice (port_names h said) (name_at said place) then Some (BadSymbol line (name_at said place))
    else first_twice h said (line + 1) places

abbrev pub circuit_with : Header → List Item → SymbolsValue → Circuit
circuit_with h items said = record { header = h; items = items; inputs = input_names h said; outputs = output_names h said }

abbrev pub unless : {V E : Type 0} → Option E → V → Result V E
unless None x = Ok x
unless (Some e) x = Err e

abbrev pub named_circuit : Header → List Item → SymbolsValue → Result Circuit AagErr
named_circuit h items said = unless (first_twice h said (item_count h + 2) said.places) (circuit_with h items said)

-- the lines after the items are symbols
abbrev pub named_behind : Header → List Item → List (List ℕ) → Result Circuit AagErr
named_behind h items rows = and_then (named_circuit h items) (symbols_from h (item_count h + 2) (no_symbols h) rows)

abbrev pub circuit_behind : Header → List (List ℕ) → List Item → Result Circuit AagErr
circuit_behind h rows items = named_behind h items (drop (item_count h) rows)

abbrev pub circuit_under : List (List ℕ) → Header → Result Circuit AagErr
circuit_under rows h = and_then (circuit_behind h rows) (items_from h [] rows)

abbrev pub circuit_in : List (List ℕ) → Result Circuit AagErr
circuit_in rows = and_then (circuit_under (drop 1 rows)) (header_in rows)

abbrev pub circuit_of : List ℕ → Result Circuit AagErr
circuit_of text = circuit_in (lines text)

-- a library is that of the circuit that was read
pub record IsLibraryIn (read : Result Circuit AagErr) (library : LibraryValue) : Type 0 where
  pub circuit : Circuit
  pub is : read ≡ Ok circuit
  pub made : library ≡ library_of circuit

-- a text's header, its lines and its symbols are read, and are those of a circuit
pub record IsParsed (text : List ℕ) (c : Circuit) (said : SymbolsValue) : Type 0 where
  pub header : header_in (lines text) ≡ Ok c.header
  pub items : items_from c.header [] (drop 1 (lines text)) ≡ Ok c.items
  pub symbols : symbols_from c.header (item_count c.header + 2) (no_symbols c.header) (drop (item_count c.header) (drop 1 (lines text))) ≡ Ok said
  pub inputs : c.inputs ≡ input_names c.header said
  pub outputs : c.outputs ≡ output_names c.header said

-- a number, or the greatest one of 32 bits where it is above that; no text has so many lines, and no literal is as great
abbrev pub capped : ℕ → ℕ
capped n = min n 4294967295

abbrev pub capped_number : List ℕ → Option ℕ
capped_number word = option_map capped (number_of word)

abbrev pub capped_numbers : List (List ℕ) → Option (List ℕ)
capped_numbers [] = Some []
capped_numbers (word ∷ words) = in_front (capped_number word) (capped_numbers words)

abbrev pub capped_item : Item → Item
capped_item (Input own) = Input (capped own)
capped_item (Latch own next init) = Latch (capped own) (capped next) init
capped_item (Output l) = Output (capped l)
capped_item (And own left right) = And (capped own) (capped left) (capped right)

abbrev pub capped_header : Header → Header
capped_header h = record { variables = h.variables; inputs = h.inputs; latches = h.latches; outputs = capped h.outputs; ands = h.ands }

-- the names that occur twice among those seen and more of them, where some were found already
abbrev pub twice_from : List (List ℕ) → List (List ℕ) → List (List ℕ) → List (List ℕ)
twice_from seen found [] = found
twice_from seen found (name ∷ names) = if has_name seen name then twice_from seen (with_name found name) names else twice_from (with_name seen name) found names

abbrev pub seen_from : List (List ℕ) → List (List ℕ) → List (List ℕ)
seen_from seen [] = seen
seen_from seen (name ∷ names) = if has_name seen name then seen_from seen names else seen_from (with_name seen name) names

-- what a call answers that reads a header
abbrev pub capped_result : Result Header AagErr → Result Header AagErr
capped_result (Ok h) = Ok (capped_header h)
capped_result (Err e) = Err e

-- the header that was read, of a text's lines
pub record IsHeaderOf (rows : List (List ℕ)) (read : Header) : Type 0 where
  pub exact : Header
  pub is : header_in rows ≡ Ok exact
  pub whole : is_header exact ≡ true
  pub same : read ≡ capped_header exact

-- a symbol as it is read
abbrev pub capped_symbol : Symbol → Symbol
capped_symbol s = record { kind = s.kind; ordinal = capped s.ordinal; name = s.name }

abbrev pub symbol_value : Read → Symbol
symbol_value s = record { kind = s.kind; ordinal = s.ordinal; name = s.name.now }

-- how many inputs, latches and outputs there are
abbrev pub named_count : Header → ℕ
named_count h = h.inputs + h.latches + h.outputs

-- symbols leave a name or none at each place of an input, a latch or an output, and are no more than the lines after the items
pub record AreSized (h : Header) (said : SymbolsValue) (rows : ℕ) : Type 0 where
  pub names : length said.names ≡ named_count h
  pub places : length said.places ≤ rows
