-- Physical lines are read one by one, and the lines read so far stand before the rest.
use Rattle.tl_text.proofs.Common.{◌≡◌, ℕ, ◌+◌, ◌-◌, ◌<◌, ◌≤◌, Bool, true, false, cond, eqb, List, [], ◌∷◌, ◌++◌, length, get_or, take, drop, Option, Some, None, Result, Ok, Err, refl, sym, ap, ◌∙◌, arith, length-take, length-drop, get_or-drop, append_assoc, slice_range, list_any, TextErr, BadByte, TrailingSlash, Memory, LineValue, is_bad, has_slash_end, words, goes_on, with_physical, physical_lines, before_first, lines_from, closed, put_before, without_return, without_last, ends_in, OrMemory, refusal_of}
use Rattle.std.proofs.lemmas.List.{drop_more, drop_all, take_more, append-nil}
use Rattle.std.proofs.lemmas.Bool.{eq-eqb, ne_eqb, cond-true, cond-false}
use Rattle.tl_text.specs.Reading.{Reading, line_result, with_line, all_lines}

-- lines before those of a result
abbrev pub prepended : List LineValue → Result (List LineValue) TextErr → Result (List LineValue) TextErr
prepended done (Ok lines) = Ok (done ++ lines)
prepended done (Err e) = Err e

abbrev Ok_of : List LineValue → Result (List LineValue) TextErr
Ok_of lines = Ok lines

-- bytes before the first physical line
abbrev pub begun : List ℕ → List (List ℕ) → List (List ℕ)
begun bytes [] = bytes ∷ []
begun bytes (line ∷ lines) = (bytes ++ line) ∷ lines

-- what a reader makes of a physical line, and then of the others
abbrev pub read_on : ℕ → ℕ → List (List ℕ) → Result Reading TextErr → Result (List LineValue) TextErr
read_on number at rest (Ok s) = prepended s.done (lines_from number at s.unfinished rest)
read_on number at rest (Err e) = Err e

counted_after : (b : Bool) (done : List LineValue) (line : LineValue) (lines : List LineValue) → cond b done (done ++ line ∷ []) ++ lines ≡ done ++ cond b lines (line ∷ lines)
counted_after true done line lines = refl
counted_after false done line lines = simp append_assoc

with_line-prepended : (done : List LineValue) (line : LineValue) (r : Result (List LineValue) TextErr) → prepended (with_line done line) r ≡ prepended done (put_before line r)
with_line-prepended done line (Ok lines) = ap Ok_of (counted_after (eqb (length line.tokens) 0) done line lines)
with_line-prepended done line (Err e) = refl

-- the end of the text after the last line
pub all_lines-closed : (done : List LineValue) (unfinished : Option LineValue) → done ++ closed unfinished ≡ all_lines done unfinished
all_lines-closed done None = append-nil done
all_lines-closed done (Some line) = sym (counted_after (eqb (length line.tokens) 0) done line []) ∙ append-nil (with_line done line)

module _ (number place : ℕ) (s : Reading) (rest : List (List ℕ)) (more : LineValue) where
  read_cases : (bad slash goes : Bool) → prepended s.done (cond bad (Err (BadByte number)) (cond slash (Err (TrailingSlash number)) (cond goes (lines_from (number + 1) place (Some more) rest) (put_before more (lines_from (number + 1) place None rest)))))
      ≡ read_on (number + 1) place rest (cond bad (Err (BadByte number)) (cond slash (Err (TrailingSlash number)) (Ok (cond goes (record { done = s.done; unfinished = Some more }) (record { done = with_line s.done more; unfinished = None })))))
  read_cases false false false = sym (with_line-prepended s.done more (lines_from (number + 1) place None rest))
  read_cases bad slash goes = refl

-- the first physical line is read, and then the others
pub line_read : (number at : ℕ) (s : Reading) (line : List ℕ) (rest : List (List ℕ))
    → prepended s.done (lines_from number at s.unfinished (line ∷ rest)) ≡ read_on (number + 1) (at + length line + 1) rest (line_result number at (without_return rest line) s)
line_read number at s line rest = grind (arith, read_cases)

module _ (text : List ℕ) (i : ℕ) (within : i < length text) where
  -- the physical lines from a line feed on, and from another byte on
  pub lines_at_feed : get_or text i 0 ≡ 10 → physical_lines (drop i text) ≡ [] ∷ physical_lines (drop (i + 1) text)
  lines_at_feed feed = ap physical_lines (drop_more text i 0 within) ∙ cond-true (eqb (get_or text i 0) 10) _ _ (eq-eqb (get_or text i 0) 10 feed)

  pub lines_at_other : (get_or text i 0 ≡ 10 → ⊥) → physical_lines (drop i text) ≡ before_first (get_or text i 0) (physical_lines (drop (i + 1) text))
  lines_at_other other = ap physical_lines (drop_more text i 0 within) ∙ cond-false (eqb (get_or text i 0) 10) _ _ (ne_eqb (get_or text i 0) 10 other)

pub lines_at_end : (text : List ℕ) (i : ℕ) → length text ≤ i → physical_lines (drop i text) ≡ [] ∷ []
lines_at_end text i past = ap physical_lines (drop_all i text past)

begun-before_first : (bytes : List ℕ) (b : ℕ) (lines : List (List ℕ)) → begun bytes (before_first b lines) ≡ begun (bytes ++ b ∷ []) lines
begun-before_first bytes b [] = refl
begun-before_first bytes b (line ∷ lines) = ap (λ (l : List ℕ). l ∷ lines) (sym (append_assoc bytes (b ∷ []) line))

begun_same : (b : Bool) (byte : ℕ) (lines : List (List ℕ)) → begun [] (cond b ([] ∷ lines) (before_first byte lines)) ≡ cond b ([] ∷ lines) (before_first byte lines)
begun_same false byte (line ∷ lines) = refl
begun_same b byte lines = refl

-- no bytes before the physical lines, of which there is one at least
pub begun_none : (text : List ℕ) → begun [] (physical_lines text) ≡ physical_lines text
begun_none [] = refl
begun_none (b ∷ bs) = begun_same (eqb b 10) b (physical_lines bs)

-- one more byte of a range
slice_range_more : (text : List ℕ) (start i : ℕ) → start ≤ i → i < length text → slice_range text start (i + 1) ≡ slice_range text start i ++ get_or text i 0 ∷ []
slice_range_more text start i le within =
    let d : i + 1 - start ≡ (i - start) + 1 = omega arith in
    let e : start + (i - start) ≡ i = omega arith in
    let l : i - start < length (drop start text) = omega (arith, length-drop start text) in
    ap (λ n. take n (drop start text)) d ∙ take_more (drop start text) (i - start) 0 l ∙ ap (λ b. take (i - start) (drop start text) ++ b ∷ []) (get_or-drop start text (i - start) 0 ∙ ap (λ k. get_or text k 0) e)

length-slice_range : (text : List ℕ) (start i : ℕ) → start ≤ i → i ≤ length text → length (slice_range text start i) ≡ i - start
length-slice_range text start i le within = simp (length-take, length-drop) (omega arith)

slice_range_none : (text : List ℕ) (i : ℕ) → slice_range text i i ≡ []
slice_range_none text i = let e : i - i ≡ 0 = omega arith in ap (λ n. take n (drop i text)) e

-- The lines of a text whose physical lines before `start` were read, of which the bytes up to `i` belong to the next.
abbrev pub reads : List ℕ → ℕ → ℕ → ℕ → Reading → Result (List LineValue) TextErr
reads text i number start s = prepended s.done (lines_from number start s.unfinished (begun (slice_range text start i) (physical_lines (drop i text))))

-- it stays the same over a byte that is no line feed
pub reads_other : (text : List ℕ) (i number start : ℕ) (s : Reading) → start ≤ i → i < length text → (get_or text i 0 ≡ 10 → ⊥) → reads text i number start s ≡ reads text (i + 1) number start s
reads_other text i number start s le within other = grind (arith, prepended, begun, lines_at_other, begun-before_first, slice_range_more)

-- a physical line that a line feed ends gives up a carriage return
abbrev pub chomped : List ℕ → List ℕ
chomped line = cond (ends_in 13 line) (without_last line) line

return_before : (b : Bool) (byte : ℕ) (lines : List (List ℕ)) (line : List ℕ) → without_return (cond b ([] ∷ lines) (before_first byte lines)) line ≡ chomped line
return_before false byte (next ∷ lines) line = refl
return_before b byte lines line = refl

return_dropped : (text line : List ℕ) → without_return (physical_lines text) line ≡ chomped line
return_dropped [] line = refl
return_dropped (b ∷ bs) line = return_before (eqb b 10) b (physical_lines bs) line

-- at a line feed the line is read
pub reads_feed : (text : List ℕ) (i number start : ℕ) (s : Reading) → start ≤ i → i < length text → get_or text i 0 ≡ 10
    → reads text i number start s ≡ read_on (number + 1) (i + 1) (physical_lines (drop (i + 1) text)) (line_result number start (chomped (slice_range text start i)) s)
reads_feed text i number start s le within feed =
    let line : List ℕ = slice_range text start i in
    let rest : List (List ℕ) = physical_lines (drop (i + 1) text) in
    let l : length line ≡ i - start = length-slice_range text start i le (omega arith) in
    let e : start + length line + 1 ≡ i + 1 = omega arith in
    grind (arith, prepended, begun, lines_at_feed, append-nil, line_read, read_on, return_dropped)

-- and the next begins
pub reads_next : (text : List ℕ) (i number : ℕ) (s : Reading) → reads text i number i s ≡ read_on number i (physical_lines (drop i text)) (Ok s)
reads_next text i number s = grind (arith, prepended, begun, slice_range_none, begun_none)

-- at the end of the text the last line is read
pub reads_end : (text : List ℕ) (i number start : ℕ) (s : Reading) → i ≡ length text
    → reads text i number start s ≡ read_on (number + 1) (start + length (slice_range text start (length text)) + 1) [] (line_result number start (slice_range text start (length text)) s)
reads_end text i number start s end = grind (arith, prepended, begun, lines_at_end, append-nil, line_read)

-- a refused line refuses the text
pub read_refused : (number at : ℕ) (rest : List (List ℕ)) (r : Result Reading TextErr) (lines : Result (List LineValue) TextErr) (e : TextErr)
    → OrMemory refusal_of (λ f. r ≡ Err f) e → lines ≡ read_on number at rest r → OrMemory refusal_of (λ f. lines ≡ Err f) e
read_refused number at rest r lines Memory gives is = tt
read_refused number at rest r lines e gives is = is ∙ ap (read_on number at rest) gives
