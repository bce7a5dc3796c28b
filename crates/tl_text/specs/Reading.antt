-- What a reader of physical lines keeps, and what one more line makes of it. The definition of the lines is in `Lines`.
use Rattle.std.specs.Prelude.{ℕ, if◌then◌else◌, ◌==◌, List, [], ◌∷◌, ◌++◌, length, Option, Some, None, Result, Ok, Err}
use Rattle.std.specs.List.{list_any}
use Rattle.tl_text.specs.declared.text_err.TextErr.{TextErr}
use Rattle.tl_text.specs.declared.text_err.TextErr.TheVariants.{BadByte, TrailingSlash}
use Rattle.tl_text.specs.LineValue.{LineValue}
use Rattle.tl_text.specs.Lines.{is_bad, has_slash_end, goes_on, words, with_physical}

-- the lines so far, and the line that goes on
pub record Reading : Type 0 where
  pub done : List LineValue
  pub unfinished : Option LineValue

-- a line after others; one without tokens doesn't count
abbrev pub with_line : List LineValue → LineValue → List LineValue
with_line done line = if length line.tokens == 0 then done else done ++ line ∷ []

-- the end of the text ends the line that goes on
abbrev pub all_lines : List LineValue → Option LineValue → List LineValue
all_lines done None = done
all_lines done (Some line) = with_line done line

-- what a physical line that isn't refused adds
abbrev pub line_added : ℕ → ℕ → List ℕ → Reading → Reading
line_added number at line s =
    if goes_on line then record { done = s.done; unfinished = Some (with_physical number at s.unfinished line) }
    else record { done = with_line s.done (with_physical number at s.unfinished line); unfinished = None }

-- a physical line, or its refusal
abbrev pub line_result : ℕ → ℕ → List ℕ → Reading → Result Reading TextErr
line_result number at line s =
    if list_any is_bad line then Err (BadByte number)
    else if has_slash_end (words line) then Err (TrailingSlash number)
    else Ok (line_added number at line s)
