-- The logical lines of a text and their tokens, by a recursion on the physical lines of the text.
use Rattle.std.specs.Prelude.{ℕ, ◌+◌, ◌-◌, Bool, false, ◌&&◌, ◌||◌, not, if◌then◌else◌, ◌==◌, nat_lt, List, [], ◌∷◌, ◌++◌, length, take, slice_index, Option, Some, None, Result, Ok, Err}
use Rattle.std.specs.List.{list_any, position_or_len, suffix_len}
use Rattle.tl_text.specs.declared.token.Token.{Token}
use Rattle.tl_text.specs.declared.text_err.TextErr.{TextErr}
use Rattle.tl_text.specs.declared.text_err.TextErr.TheVariants.{BadByte, TrailingSlash}
use Rattle.tl_text.specs.LineValue.{LineValue}
use Rattle.tl_text.specs.Tokens.{is_blank, tokens_at}

-- Physical lines: what stands between the line feeds (10). The last one is what is after the last line feed.
abbrev pub before_first : ℕ → List (List ℕ) → List (List ℕ)
before_first b [] = (b ∷ []) ∷ []
before_first b (line ∷ lines) = (b ∷ line) ∷ lines

abbrev pub physical_lines : List ℕ → List (List ℕ)
physical_lines [] = [] ∷ []
physical_lines (b ∷ bs) = if b == 10 then [] ∷ physical_lines bs else before_first b (physical_lines bs)

-- A byte that no line may have: one below 32 but the tab (9), or 127.
abbrev pub is_bad : ℕ → Bool
is_bad b = (nat_lt b 32 && not (b == 9)) || (b == 127)

-- does a line end in this byte
abbrev pub ends_in : ℕ → List ℕ → Bool
ends_in byte line = slice_index line (length line - 1) == byte

abbrev pub without_last : List ℕ → List ℕ
without_last line = take (length line - 1) line

-- A carriage return (13) directly before a line feed is dropped. There is a line feed where more lines follow.
abbrev pub without_return : List (List ℕ) → List ℕ → List ℕ
without_return [] line = line
without_return (next ∷ rest) line = if ends_in 13 line then without_last line else line

-- the part before the first `#` (35)
abbrev pub before_comment : List ℕ → List ℕ
before_comment line = take (position_or_len (λ b. b == 35) line) line

-- without the blanks and tabs at the end
abbrev pub trimmed : List ℕ → List ℕ
trimmed line = take (length line - suffix_len is_blank line) line

abbrev pub content : List ℕ → List ℕ
content line = trimmed (before_comment line)

-- A line whose content ends in `\` (92) goes on in the next one, and this byte is a blank.
abbrev pub goes_on : List ℕ → Bool
goes_on line = ends_in 92 (content line)

abbrev pub words : List ℕ → List ℕ
words line = if goes_on line then without_last (content line) else content line

-- does a token end in `\`
abbrev pub has_slash_end : List ℕ → Bool
has_slash_end [] = false
has_slash_end (b ∷ []) = b == 92
has_slash_end (b ∷ c ∷ cs) = ((b == 92) && is_blank c) || has_slash_end (c ∷ cs)

-- the line that goes on with more tokens, or a new one
abbrev pub extended : ℕ → Option LineValue → List Token → LineValue
extended number None tokens = record { number = number; tokens = tokens }
extended number (Some line) tokens = record { number = line.number; tokens = line.tokens ++ tokens }

-- the line that a physical line makes or goes on with
abbrev pub with_physical : ℕ → ℕ → Option LineValue → List ℕ → LineValue
with_physical number at unfinished line = extended number unfinished (tokens_at at (words line))

-- a line before others; one without tokens doesn't count
abbrev pub counted : LineValue → List LineValue → List LineValue
counted line lines = if length line.tokens == 0 then lines else line ∷ lines

abbrev pub put_before : LineValue → Result (List LineValue) TextErr → Result (List LineValue) TextErr
put_before line (Ok lines) = Ok (counted line lines)
put_before line (Err e) = Err e

-- the end of the text ends the line that goes on
abbrev pub closed : Option LineValue → List LineValue
closed None = []
closed (Some line) = counted line []

-- The logical lines of physical lines, the first of which has this number and starts at this place, after a line that goes on if there is one.
-- In one physical line a bad byte comes before a token that ends in `\`.
abbrev pub lines_from : ℕ → ℕ → Option LineValue → List (List ℕ) → Result (List LineValue) TextErr
lines_from number at unfinished [] = Ok (closed unfinished)
lines_from number at unfinished (line ∷ rest) =
    if list_any is_bad (without_return rest line) then Err (BadByte number)
    else if has_slash_end (words (without_return rest line)) then Err (TrailingSlash number)
    else if goes_on (without_return rest line)
    then lines_from (number + 1) (at + length line + 1) (Some (with_physical number at unfinished (without_return rest line))) rest
    else put_before (with_physical number at unfinished (without_return rest line)) (lines_from (number + 1) (at + length line + 1) None rest)

-- the logical lines of a text that have a token, or its first refusal
abbrev pub lines_of : List ℕ → Result (List LineValue) TextErr
lines_of text = lines_from 1 0 None (physical_lines text)
