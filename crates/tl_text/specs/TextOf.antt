-- What a text is by its lines, and what it is refused for: as its lines are, else for what they say.
use Rattle.std.specs.Prelude.{◌≡◌, ℕ, List, map, Ok, Err}
use Rattle.tl_text.specs.LineValue.{LineValue, WordsLine, words_line}
use Rattle.tl_text.specs.Lines.{lines_of}
use Rattle.tl_text.specs.declared.text_err.TextErr.{TextErr}

-- a text is what its lines are
pub record IsTextOf {V : Type 0} (Is : List WordsLine → V → Type 0) (text : List ℕ) (v : V) : Type 0 where
  pub lines : List LineValue
  pub lines_are : lines_of text ≡ Ok lines
  pub are : Is (map (words_line text) lines) v

-- the refusal of its lines, as an error of its reader
pub record IsLinesFault {E : Type 0} (own : TextErr → E) (text : List ℕ) (e : E) : Type 0 where
  pub error : TextErr
  pub lines_are : lines_of text ≡ Err error
  pub is : e ≡ own error

-- a text is refused: as its lines are, else for what they say
pub data IsTextFault {E : Type 0} (own : TextErr → E) (IsFault : List WordsLine → E → Type 0) (text : List ℕ) (e : E) : Type 0 where
  by_lines : IsLinesFault own text e → IsTextFault own IsFault text e
  at_line : (lines : List LineValue) → lines_of text ≡ Ok lines → IsFault (map (words_line text) lines) e → IsTextFault own IsFault text e
