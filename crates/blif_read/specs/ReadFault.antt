-- The refusal of a text: of its lines, else that of the first logical line that has one, else that it has no model.
use Rattle.std.specs.Prelude.{ℕ, Bool, true, false, List, [], ◌∷◌, Option, Some, None, Result, Ok, Err, if◌then◌else◌, ◌≡◌}
use Rattle.std.specs.List.{list_any}
use Rattle.blif_read.specs.Words.{LineValue, lines_of, TextErr, BlifErr, BadByte, TrailingSlash, NoModel, Memory, Keyword, Model, LibraryValue}
use Rattle.tl_text.specs.declared.text_err.TextErr.TheVariants as text
use Rattle.blif_read.specs.Statement.{StatementValue, statements}
use Rattle.blif_read.specs.Context.{context_of}
use Rattle.blif_read.specs.LineFault.{or_later, line_fault}
use Rattle.blif_read.specs.Denotes.{Denotes}

-- the refusal of the first statement that has one, each in its place after the earlier ones
abbrev pub first_fault : List StatementValue → List StatementValue → Option BlifErr
first_fault earlier [] = None
first_fault earlier (s ∷ ss) = or_later (line_fault (context_of earlier) s) (first_fault (s ∷ earlier) ss)

abbrev pub is_model_keyword : Keyword → Bool
is_model_keyword Model = true
is_model_keyword other = false

abbrev pub has_model : List StatementValue → Bool
has_model ss = list_any (λ (s : StatementValue). is_model_keyword s.keyword) ss

abbrev pub statements_fault : List StatementValue → Option BlifErr
statements_fault ss = or_later (first_fault [] ss) (if has_model ss then None else Some NoModel)

-- a refusal of the lines as one of the text
abbrev pub blif_err : TextErr → BlifErr
blif_err (text.BadByte n) = BadByte n
blif_err (text.TrailingSlash n) = TrailingSlash n
blif_err text.Memory = Memory

abbrev pub lines_fault : List ℕ → Result (List LineValue) TextErr → Option BlifErr
lines_fault bytes (Ok lines) = statements_fault (statements bytes lines)
lines_fault bytes (Err e) = Some (blif_err e)

abbrev pub read_fault : List ℕ → Option BlifErr
read_fault bytes = lines_fault bytes (lines_of bytes)

-- A text has a library or a refusal, never both, and one library at most.
pub record HasOneReading (text : List ℕ) : Type 0 where
  pub once : (a b : LibraryValue) → Denotes text a → Denotes text b → a ≡ b
  pub not_both : (library : LibraryValue) → Denotes text library → read_fault text ≡ None
  pub some : read_fault text ≡ None → (library : LibraryValue) × Denotes text library
