-- Logical lines as contracts see them.
use Rattle.std.specs.Prelude.{ℕ, ◌<◌, ◌≤◌, List, map, length}
use Rattle.std.specs.List.{slice_range}
use Rattle.list_laws.specs.Members.{In}
use Rattle.tl_text.specs.declared.token.Token.{Token}

-- a logical line: the number of its first physical line, and its tokens
pub record LineValue : Type 0 where
  pub number : ℕ
  pub tokens : List Token

-- the bytes of a token
abbrev pub token_bytes : List ℕ → Token → List ℕ
token_bytes text token = slice_range text token.start token.end

-- a line by its number and the words that its tokens are
pub record WordsLine : Type 0 where
  pub number : ℕ
  pub words : List (List ℕ)

abbrev pub words_line : List ℕ → LineValue → WordsLine
words_line text line = record { number = line.number; words = map (token_bytes text) line.tokens }

-- the tokens of a line stand in a text
pub record IsWithin (text : List ℕ) (token : Token) : Type 0 where
  pub order : token.start ≤ token.end
  pub end : token.end ≤ length text

-- a line has a token, and its tokens stand in the text
pub record IsLineIn (text : List ℕ) (line : LineValue) : Type 0 where
  pub some : 0 < length line.tokens
  pub within : (token : Token) → In line.tokens token → IsWithin text token

pub record AreLinesIn (text : List ℕ) (lines : List LineValue) : Type 0 where
  pub each : (line : LineValue) → In lines line → IsLineIn text line
