-- The words of a text's lines are no more than its bytes.
use Rattle.tl_text.proofs.Common.{◌≡◌, ℕ, ◌+◌, ◌-◌, ◌≤◌, ◌<◌, cond, eqb, List, [], ◌∷◌, ◌++◌, length, map, take, Option, Some, None, Result, Ok, Err, refl, subst, arith, list_any, position_or_len, suffix_len, choose_one, Token, TextErr, BadByte, TrailingSlash, LineValue, token_bytes, words_line, before_first, physical_lines, is_bad, ends_in, without_last, without_return, before_comment, content, goes_on, words, has_slash_end, extended, with_physical, counted, put_before, closed, lines_from, lines_of, is_blank, tokens_at, spans, rules}
use Rattle.std.proofs.lemmas.List.{length-take}
use Rattle.tl_text.proofs.SpanLemmas.{spans_tokens}

-- 1 for each word, and its bytes
abbrev pub words_size : List (List ℕ) → ℕ
words_size [] = 0
words_size (word ∷ more) = 1 + length word + words_size more

-- and of all lines
abbrev pub lines_size : List ℕ → List LineValue → ℕ
lines_size text [] = 0
lines_size text (line ∷ lines) = words_size (words_line text line).words + lines_size text lines

-- the same by the places of the tokens
abbrev tokens_size : List Token → ℕ
tokens_size [] = 0
tokens_size (token ∷ tokens) = 1 + (token.end - token.start) + tokens_size tokens

abbrev places_size : List LineValue → ℕ
places_size [] = 0
places_size (line ∷ lines) = tokens_size line.tokens + places_size lines

word_small : (text : List ℕ) (token : Token) → length (token_bytes text token) ≤ token.end - token.start
word_small text token = simp length-take (omega arith)

words_small : (text : List ℕ) (tokens : List Token) → words_size (map (token_bytes text) tokens) ≤ tokens_size tokens
words_small text [] = omega arith
words_small text (token ∷ tokens) = omega (arith, word_small text token, words_small text tokens)

lines_by_places : (text : List ℕ) (lines : List LineValue) → lines_size text lines ≤ places_size lines
lines_by_places text [] = omega arith
lines_by_places text (line ∷ lines) = omega (arith, words_small text line.tokens, lines_by_places text lines)

tokens-append : (xs ys : List Token) → tokens_size (xs ++ ys) ≡ tokens_size xs + tokens_size ys
tokens-append [] ys = omega arith
tokens-append (x ∷ xs) ys = let r : tokens_size (xs ++ ys) ≡ tokens_size xs + tokens_size ys = tokens-append xs ys in omega arith

-- between two tokens stands a byte
record AreShort (bs : List ℕ) : Type 0 where
  outside : (at : ℕ) → tokens_size (spans at None bs) ≤ length bs + 1
  inside : (at start : ℕ) → start ≤ at → tokens_size (spans at (Some start) bs) ≤ (at - start) + length bs + 1

spans_short : (bs : List ℕ) → AreShort bs
spans_short [] = record { outside = λ at. omega arith; inside = λ at start h. omega arith }
spans_short (b ∷ bs) = search (rules, choose_one, tokens_size, spans_short bs)

tokens_short : (at : ℕ) (bs : List ℕ) → tokens_size (tokens_at at bs) ≤ length bs + 1
tokens_short at bs = subst (λ ts. tokens_size ts ≤ length bs + 1) (spans_tokens at bs) ((spans_short bs).outside at)

-- the parts of a line are no longer than the line
take_short : (n : ℕ) (xs : List ℕ) → length (take n xs) ≤ length xs
take_short n xs = simp length-take (omega arith)

return_short : (rest : List (List ℕ)) (line : List ℕ) → length (without_return rest line) ≤ length line
return_short [] line = omega arith
return_short (next ∷ rest) line = choose_one (λ xs. length xs ≤ length line) (ends_in 13 line) (without_last line) line (take_short (length line - 1) line) (omega arith)

content_short : (line : List ℕ) → length (content line) ≤ length line
content_short line = grind (arith, take_short, eqb)

words_short : (line : List ℕ) → length (words line) ≤ length line
words_short line = grind (arith, choose_one, content_short, take_short)

-- a line that goes on, and what follows
abbrev unfinished_size : Option LineValue → ℕ
unfinished_size None = 0
unfinished_size (Some line) = tokens_size line.tokens

extended_size : (number : ℕ) (unfinished : Option LineValue) (tokens : List Token) → tokens_size (extended number unfinished tokens).tokens ≡ unfinished_size unfinished + tokens_size tokens
extended_size number None tokens = omega arith
extended_size number (Some line) tokens = tokens-append line.tokens tokens

physical_size : (number at : ℕ) (unfinished : Option LineValue) (rest : List (List ℕ)) (line : List ℕ) → tokens_size (with_physical number at unfinished (without_return rest line)).tokens ≤ unfinished_size unfinished + (length line + 1)
physical_size number at unfinished rest line = grind (arith, extended_size, tokens_short, words_short, return_short)

counted_size : (line : LineValue) (lines : List LineValue) → places_size (counted line lines) ≤ tokens_size line.tokens + places_size lines
counted_size line lines = choose_one (λ ls. places_size ls ≤ tokens_size line.tokens + places_size lines) (eqb (length line.tokens) 0) lines (line ∷ lines) (omega arith) (omega arith)

closed_size : (unfinished : Option LineValue) → places_size (closed unfinished) ≤ unfinished_size unfinished
closed_size None = omega arith
closed_size (Some line) = let h : places_size (counted line []) ≤ tokens_size line.tokens + 0 = counted_size line [] in omega arith

-- the bytes of physical lines with their ends
abbrev bytes_size : List (List ℕ) → ℕ
bytes_size [] = 0
bytes_size (line ∷ rest) = length line + 1 + bytes_size rest

-- lines of no more than so much
record AreWithin (most : ℕ) (result : Result (List LineValue) TextErr) : Type 0 where
  each : (lines : List LineValue) → result ≡ Ok lines → places_size lines ≤ most

within_err : (most : ℕ) (e : TextErr) → AreWithin most (Err e)
within_err most e = record { each = λ lines h. absurd (let f : ⊥ = cc in f) }

within_put : (most here later : ℕ) (line : LineValue) (result : Result (List LineValue) TextErr) → tokens_size line.tokens ≤ here → here + later ≤ most → AreWithin later result → AreWithin most (put_before line result)
within_put most here later line (Err e) h m w = within_err most e
within_put most here later line (Ok lines) h m w = search (rules, places_size, counted_size)

lines_within : (number at : ℕ) (unfinished : Option LineValue) (ps : List (List ℕ)) (most : ℕ) → unfinished_size unfinished + bytes_size ps ≤ most → AreWithin most (lines_from number at unfinished ps)
lines_within number at unfinished [] most h = search (rules, places_size, closed_size)
lines_within number at unfinished (line ∷ rest) most h =
    let kept : List ℕ = without_return rest line in
    let made : LineValue = with_physical number at unfinished kept in
    let size : tokens_size made.tokens ≤ unfinished_size unfinished + (length line + 1) = physical_size number at unfinished rest line in
    grind (arith, choose_one, cond, within_err, within_put, unfinished_size, bytes_size, lines_within (number + 1) (at + length line + 1) (Some made) rest most (omega arith), lines_within (number + 1) (at + length line + 1) None rest (bytes_size rest) (omega arith))

-- physical lines have all bytes, and an end each
before_first_size : (b : ℕ) (ps : List (List ℕ)) → 0 < bytes_size ps → bytes_size (before_first b ps) ≡ bytes_size ps + 1
before_first_size b [] h = absurd (omega arith)
before_first_size b (p ∷ ps) h = omega arith

physical_lines_size : (text : List ℕ) → bytes_size (physical_lines text) ≡ length text + 1
physical_lines_size [] = omega arith
physical_lines_size (b ∷ bs) = grind (arith, bytes_size, before_first_size, choose_one, eqb, physical_lines_size bs)

-- the words of the lines of a text are at most its bytes and one
pub lines_small : (text : List ℕ) (lines : List LineValue) → lines_of text ≡ Ok lines → lines_size text lines ≤ length text + 1
lines_small text lines are =
    let p : bytes_size (physical_lines text) ≡ length text + 1 = physical_lines_size text in
    omega (arith, (lines_within 1 0 None (physical_lines text) (length text + 1) (omega arith)).each lines are, lines_by_places text lines)
