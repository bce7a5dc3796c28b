-- The circuit that a text is, from the side of who writes it: a header, lines of inputs, latches, outputs and AND gates, symbols, and perhaps a comment. Lines
-- end with a line feed or with the end of the text, and a carriage return before a line feed is dropped. A line is spelled by decimal numbers of any length,
-- and words with one blank between, as `join_with_byte 32` writes them.
use Rattle.std.specs.Prelude.{◌≡◌, ℕ, ◌+◌, ◌*◌, ◌<◌, List, [], ◌∷◌, ◌++◌, ◌≤◌, ◌^◌, Bool, true, ◌&&◌, nat_le, length, codes, ◌%◌, false, if◌then◌else◌, ◌==◌, nat_lt, ◌||◌, Some, slice_get, decimal}
use Rattle.std.specs.List.{join_with_byte, list_any}
use Rattle.aiger_io.specs.declared.header.Header.{Header}
use Rattle.list_laws.specs.Members.{In}
use Rattle.aiger_io.specs.declared.item.Item.{Item}
use Rattle.aiger_io.specs.declared.item.Item.TheVariants.{Input, Latch, Output, And}
use Rattle.aiger_io.specs.declared.item.LineKind.{LineKind}
use Rattle.aiger_io.specs.declared.item.LineKind.TheVariants as kind
use Rattle.tl_text.specs.Lines.{ends_in}
use Rattle.std.specs.Str.Lines.{lines}
use Rattle.tl_text.specs.Once.{AreOnce}
use Rattle.aiger_io.specs.Circuit.{Circuit}

-- A word spells a number: a digit does (48 is `0`), and so do the digits of a number above 0 and one more digit.
pub data IsNumber : List ℕ → ℕ → Type 0 where
  digit : {word : List ℕ} {n : ℕ} → n < 10 → word ≡ (48 + n) ∷ [] → IsNumber word n
  more : {word : List ℕ} {n : ℕ} (front : List ℕ) (m d : ℕ) → IsNumber front m → 0 < m → d < 10 → word ≡ front ++ (48 + d) ∷ [] → n ≡ 10 * m + d → IsNumber word n

-- words spell numbers, one by one
abbrev pub AreNumbers : List (List ℕ) → List ℕ → Type 0
AreNumbers [] [] = Unit {0}
AreNumbers [] (n ∷ numbers) = ⊥
AreNumbers (word ∷ words) [] = ⊥
AreNumbers (word ∷ words) (n ∷ numbers) = IsNumber word n × AreNumbers words numbers

-- The first line: `aag`, the greatest variable, and how many inputs, latches, outputs and AND gates there are.
-- the greatest variable is at most 2^30, and each input, latch and AND gate has a variable of its own
abbrev pub is_header : Header → Bool
is_header h = nat_le h.variables (2 ^ 30) && nat_le (h.inputs + h.latches + h.ands) h.variables

-- the numbers of a header in their order
abbrev pub header_numbers : Header → List ℕ
header_numbers h = h.variables ∷ h.inputs ∷ h.latches ∷ h.outputs ∷ h.ands ∷ []

-- a line is `aag` and these numbers
pub record IsNumbersRow (row : List ℕ) (numbers : List ℕ) : Type 0 where
  pub words : List (List ℕ)
  pub row_is : row ≡ join_with_byte 32 (codes "aag" ∷ words)
  pub are : AreNumbers words numbers

-- a line is this header
pub record IsHeaderRow (row : List ℕ) (h : Header) : Type 0 where
  pub numbers : IsNumbersRow row (header_numbers h)
  pub whole : is_header h ≡ true

-- a line is the header of a later version of the format: `aag` and six to nine numbers
pub record IsLaterRow (row : List ℕ) : Type 0 where
  pub numbers : List ℕ
  pub are : IsNumbersRow row numbers
  pub least : 6 ≤ length numbers
  pub most : length numbers ≤ 9

-- The lines after the header: inputs, latches, outputs and AND gates, in this order and as many as the header says.
abbrev pub kind_of_item : Item → LineKind
kind_of_item (Input own) = kind.Input
kind_of_item (Latch own next init) = kind.Latch
kind_of_item (Output l) = kind.Output
kind_of_item (And own left right) = kind.And

-- the words after a latch's literal and its next state: `1` where it starts at 1, else none, `0`, or its own literal
pub data IsInit (own : List ℕ) (init : Bool) (words : List (List ℕ)) : Type 0 where
  none : words ≡ [] → init ≡ false → IsInit own init words
  zero_word : words ≡ codes "0" ∷ [] → init ≡ false → IsInit own init words
  own_word : words ≡ own ∷ [] → ¬ (own ≡ codes "1") → init ≡ false → IsInit own init words
  one_word : words ≡ codes "1" ∷ [] → init ≡ true → IsInit own init words

pub record IsLatchRow (row : List ℕ) (own next : ℕ) (init : Bool) : Type 0 where
  pub own_word : List ℕ
  pub next_word : List ℕ
  pub init_words : List (List ℕ)
  pub row_is : row ≡ join_with_byte 32 (own_word ∷ next_word ∷ init_words)
  pub own_is : IsNumber own_word own
  pub next_is : IsNumber next_word next
  pub init_is : IsInit own_word init init_words

pub record IsGateRow (row : List ℕ) (own left right : ℕ) : Type 0 where
  pub words : List (List ℕ)
  pub row_is : row ≡ join_with_byte 32 words
  pub are : AreNumbers words (own ∷ left ∷ right ∷ [])

-- a line says this
abbrev pub IsItemRow : List ℕ → Item → Type 0
IsItemRow row (Input own) = IsNumber row own
IsItemRow row (Latch own next init) = IsLatchRow row own next init
IsItemRow row (Output l) = IsNumber row l
IsItemRow row (And own left right) = IsGateRow row own left right

-- lines say these, one by one
abbrev pub AreItemRows : List (List ℕ) → List Item → Type 0
AreItemRows [] [] = Unit {0}
AreItemRows [] (item ∷ items) = ⊥
AreItemRows (row ∷ rows) [] = ⊥
AreItemRows (row ∷ rows) (item ∷ items) = IsItemRow row item × AreItemRows rows items

-- as many of one kind
pub record IsSection (k : LineKind) (count : ℕ) (items : List Item) : Type 0 where
  pub count_is : length items ≡ count
  pub each : (item : Item) → In items item → kind_of_item item ≡ k

-- the sections of a header
pub record AreInSections (h : Header) (items : List Item) : Type 0 where
  pub inputs : List Item
  pub latches : List Item
  pub outputs : List Item
  pub ands : List Item
  pub are : items ≡ inputs ++ (latches ++ (outputs ++ ands))
  pub inputs_are : IsSection kind.Input h.inputs inputs
  pub latches_are : IsSection kind.Latch h.latches latches
  pub outputs_are : IsSection kind.Output h.outputs outputs
  pub ands_are : IsSection kind.And h.ands ands

-- how many such lines there are, and the kind of the one at a place, counted from 0: its number is the place plus 2
abbrev pub item_count : Header → ℕ
item_count h = h.inputs + h.latches + h.outputs + h.ands

abbrev pub kind_at : Header → ℕ → LineKind
kind_at h place =
    if nat_lt place h.inputs then kind.Input
    else if nat_lt place (h.inputs + h.latches) then kind.Latch
    else if nat_lt place (h.inputs + h.latches + h.outputs) then kind.Output
    else kind.And

-- a literal is twice a variable, and one more where it is complemented; what a line defines is a variable other than 0
abbrev pub is_literal : ℕ → ℕ → Bool
is_literal most l = nat_le l (2 * most + 1)

abbrev pub is_variable : ℕ → ℕ → Bool
is_variable most l = (l % 2 == 0) && (nat_le 2 l && nat_le l (2 * most))

abbrev pub is_in_range : ℕ → Item → Bool
is_in_range most (Input own) = is_variable most own
is_in_range most (Latch own next init) = is_variable most own && is_literal most next
is_in_range most (Output l) = is_literal most l
is_in_range most (And own left right) = is_variable most own && (is_literal most left && is_literal most right)

-- Symbols: the lines `i`, `l` or `o` with an ordinal, a blank, and a name. They name an input, a latch or an output. After them a comment may stand.
pub record Symbol : Type 0 where
  pub kind : LineKind
  pub ordinal : ℕ
  pub name : List ℕ

-- the letter of a kind: `i` (105), `l` (108) and `o` (111); gates have none
abbrev pub IsLetterOf : LineKind → ℕ → Type 0
IsLetterOf kind.Input letter = letter ≡ 105
IsLetterOf kind.Latch letter = letter ≡ 108
IsLetterOf kind.Output letter = letter ≡ 111
IsLetterOf kind.And letter = ⊥

-- a line is this symbol; its name goes on to the line's end and isn't empty
pub record IsSymbolRow (row : List ℕ) (s : Symbol) : Type 0 where
  pub letter : ℕ
  pub digits : List ℕ
  pub row_is : row ≡ letter ∷ (digits ++ 32 ∷ s.name)
  pub letter_is : IsLetterOf s.kind letter
  pub ordinal_is : IsNumber digits s.ordinal
  pub some : 0 < length s.name

-- lines are these symbols, one by one
abbrev pub AreSymbolRows : List (List ℕ) → List Symbol → Type 0
AreSymbolRows [] [] = Unit {0}
AreSymbolRows [] (s ∷ symbols) = ⊥
AreSymbolRows (row ∷ rows) [] = ⊥
AreSymbolRows (row ∷ rows) (s ∷ symbols) = IsSymbolRow row s × AreSymbolRows rows symbols

-- A name that no word of a netlist can be: it has a byte below 33, a `#` (35) or the byte 127, or ends in `\` (92).
abbrev pub is_bad_byte : ℕ → Bool
is_bad_byte b = nat_lt b 33 || ((b == 35) || (b == 127))

abbrev pub is_bad_name : List ℕ → Bool
is_bad_name name = list_any is_bad_byte name || ends_in 92 name

-- how many of a kind have a symbol
abbrev pub count_of : Header → LineKind → ℕ
count_of h kind.Input = h.inputs
count_of h kind.Latch = h.latches
count_of h kind.Output = h.outputs
count_of h kind.And = 0

-- A symbol may come after earlier ones: its ordinal is below its count, none of them is of the same letter and ordinal, and its name can be a word.
pub record MayStand (h : Header) (earlier : List Symbol) (s : Symbol) : Type 0 where
  pub below : s.ordinal < count_of h s.kind
  pub fresh : (t : Symbol) → In earlier t → t.kind ≡ s.kind → t.ordinal ≡ s.ordinal → ⊥
  pub good : is_bad_name s.name ≡ false

-- each after those before it
abbrev pub AllStand : Header → List Symbol → List Symbol → Type 0
AllStand h earlier [] = Unit {0}
AllStand h earlier (s ∷ symbols) = MayStand h earlier s × AllStand h (earlier ++ s ∷ []) symbols

-- the line `c` begins a comment, which goes on to the text's end
abbrev pub IsComment : List (List ℕ) → Type 0
IsComment [] = Unit {0}
IsComment (row ∷ rows) = row ≡ codes "c"

-- The names of inputs and outputs: their symbols, or `i` or `o` and the ordinal.
-- the name by default
abbrev pub default_name : ℕ → ℕ → List ℕ
default_name letter ordinal = letter ∷ decimal ordinal

-- a name is the symbol's of this kind and ordinal, or the default where there is none
pub data IsNameOf (symbols : List Symbol) (k : LineKind) (letter ordinal : ℕ) (name : List ℕ) : Type 0 where
  by_symbol : In symbols (record { kind = k; ordinal = ordinal; name = name }) → IsNameOf symbols k letter ordinal name
  by_default : ((s : Symbol) → In symbols s → s.kind ≡ k → s.ordinal ≡ ordinal → ⊥) → name ≡ default_name letter ordinal → IsNameOf symbols k letter ordinal name

-- the names of all of a kind, in their order
pub record AreNamesOf (symbols : List Symbol) (k : LineKind) (letter count : ℕ) (names : List (List ℕ)) : Type 0 where
  pub count_is : length names ≡ count
  pub each : (ordinal : ℕ) (name : List ℕ) → slice_get names ordinal ≡ Some name → IsNameOf symbols k letter ordinal name

-- a text is of the format up to names that are alike, with these symbols
pub record IsOfFormatWith (text : List ℕ) (c : Circuit) (symbols : List Symbol) : Type 0 where
  pub header_row : List ℕ
  pub item_rows : List (List ℕ)
  pub symbol_rows : List (List ℕ)
  pub comment : List (List ℕ)
  pub rows_are : lines text ≡ header_row ∷ (item_rows ++ (symbol_rows ++ comment))
  pub header : IsHeaderRow header_row c.header
  pub items : AreItemRows item_rows c.items
  pub sections : AreInSections c.header c.items
  pub range : (item : Item) → In c.items item → is_in_range c.header.variables item ≡ true
  pub are_symbols : AreSymbolRows symbol_rows symbols
  pub stand : AllStand c.header [] symbols
  pub is_comment : IsComment comment
  pub inputs : AreNamesOf symbols kind.Input 105 c.header.inputs c.inputs
  pub outputs : AreNamesOf symbols kind.Output 111 c.header.outputs c.outputs

pub record IsOfFormat (text : List ℕ) (c : Circuit) : Type 0 where
  pub symbols : List Symbol
  pub are : IsOfFormatWith text c symbols

-- a text is this circuit: no two of its inputs and outputs have the same name
pub record IsAigerText (text : List ℕ) (c : Circuit) : Type 0 where
  pub format : IsOfFormat text c
  pub once : AreOnce (c.inputs ++ c.outputs)
