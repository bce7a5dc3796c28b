-- A logical line as a statement: its keyword and its arguments.
use Rattle.std.specs.Prelude.{ℕ, Bool, false, ◌==◌, if◌then◌else◌, List, [], ◌∷◌, map, codes, bytes_eq}
use Rattle.blif_read.specs.Words.{LineValue, WordsLine, words_line, Keyword, Model, Inputs, Outputs, Clock, Names, Latch, Subckt, End, Unknown, Plain}

-- the number of the line, what its first word says, and its other words; of a line without a keyword, all its words
pub record StatementValue : Type 0 where
  pub number : ℕ
  pub keyword : Keyword
  pub arguments : List (List ℕ)

abbrev pub begins_with_dot : List ℕ → Bool
begins_with_dot [] = false
begins_with_dot (b ∷ bs) = b == 46

abbrev pub keyword_of : List ℕ → Keyword
keyword_of word =
    if bytes_eq word (codes ".model") then Model
    else if bytes_eq word (codes ".inputs") then Inputs
    else if bytes_eq word (codes ".outputs") then Outputs
    else if bytes_eq word (codes ".clock") then Clock
    else if bytes_eq word (codes ".names") then Names
    else if bytes_eq word (codes ".latch") then Latch
    else if bytes_eq word (codes ".subckt") then Subckt
    else if bytes_eq word (codes ".end") then End
    else if begins_with_dot word then Unknown
    else Plain

abbrev pub arguments_of : Keyword → List ℕ → List (List ℕ) → List (List ℕ)
arguments_of Plain word rest = word ∷ rest
arguments_of keyword word rest = rest

abbrev pub statement_at : ℕ → List (List ℕ) → StatementValue
statement_at number [] = record { number = number; keyword = Plain; arguments = [] }
statement_at number (word ∷ rest) = record { number = number; keyword = keyword_of word; arguments = arguments_of (keyword_of word) word rest }

abbrev pub statement_of : WordsLine → StatementValue
statement_of line = statement_at line.number line.words

-- the statements of a text's logical lines
abbrev pub statements : List ℕ → List LineValue → List StatementValue
statements text lines = map (λ line. statement_of (words_line text line)) lines
