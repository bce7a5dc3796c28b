-- Lines of clean words are read as these words.
use Rattle.tl_text.proofs.Common.{◌≡◌, ℕ, suc, ◌+◌, ◌-◌, ◌<◌, Bool, true, false, cond, not, eqb, ◌&&◌, List, [], ◌∷◌, ◌++◌, length, map, take, get_or, Some, None, Result, Ok, Err, refl, sym, ap, subst, ◌∙◌, inl, inr, arith, append_assoc, append-nil, length-append, list_any, suffix_len, slice_range, flat_map, list_any-append, suffix_len-take_no, ne_eqb, or_from, or_parts, and_right, In, none_pass, In-get_or, Token, TextErr, BadByte, TrailingSlash, LineValue, WordsLine, words_line, token_bytes, is_bad, has_slash_end, words, content, trimmed, before_comment, ends_in, goes_on, physical_lines, before_first, without_return, put_before, lines_from, lines_of, with_physical, is_blank, begins_run, lengthened, tokens_at, IsClean}
use Rattle.std.proofs.Math.Seq.{drop-append_seam, take-append_seam, take-length, get_or-append_right}
use Rattle.tl_text.specs.WrittenText.{words_text, line_text}

-- a line can be read again: it has words, and each is clean
abbrev pub IsCleanLine : List (List ℕ) → Type 0
IsCleanLine [] = ⊥
IsCleanLine (word ∷ words) = (w : List ℕ) → In (word ∷ words) w → IsClean w

-- lines with their numbers, the first of which is this
abbrev pub numbered : ℕ → List (List (List ℕ)) → List WordsLine
numbered n [] = []
numbered n (words ∷ lines) = record { number = n; words = words } ∷ numbered (suc n) lines

pub numbered-append : (n : ℕ) (xs ys : List (List (List ℕ))) → numbered n (xs ++ ys) ≡ numbered n xs ++ numbered (n + length xs) ys
numbered-append n [] ys = ap (λ k. numbered k ys) (let e : n ≡ n + 0 = omega arith in e)
numbered-append n (x ∷ xs) ys = ap (λ l. record { number = n; words = x } ∷ l) (numbered-append (suc n) xs ys ∙ ap (λ k. numbered (suc n) xs ++ numbered k ys) (let e : suc n + length xs ≡ n + suc (length xs) = omega arith in e))

-- the tokens of words with one blank between them, the first of which starts at a place
abbrev tokens_of : ℕ → List (List ℕ) → List Token
tokens_of at [] = []
tokens_of at (w ∷ ws) = record { start = at; end = at + length w } ∷ tokens_of (at + length w + 1) ws

-- the bytes of a line but its line feed
abbrev body_of : List (List ℕ) → List ℕ
body_of [] = []
body_of (w ∷ ws) = w ++ words_text ws

-- tokens
abbrev joined : ℕ → ℕ → Bool → List Token → List Token
joined start at begins tokens = cond begins (lengthened start tokens) (record { start = start; end = at } ∷ tokens)

first_byte : (at b : ℕ) (bs : List ℕ) → is_blank b ≡ false → tokens_at at (b ∷ bs) ≡ joined at (at + 1) (begins_run bs) (tokens_at (at + 1) bs)
first_byte at b bs h = ap (λ (t : Bool). cond t (tokens_at (at + 1) bs) (joined at (at + 1) (begins_run bs) (tokens_at (at + 1) bs))) h

one_word : (at b : ℕ) (w rest : List ℕ) → ((c : ℕ) → In (b ∷ w) c → is_blank c ≡ false) → begins_run rest ≡ false
    → tokens_at at ((b ∷ w) ++ rest) ≡ record { start = at; end = at + length (b ∷ w) } ∷ tokens_at (at + length (b ∷ w)) rest
one_word at b [] rest h r = grind arith
one_word at b (c ∷ w) rest h r = grind (arith, first_byte, joined, one_word (at + 1) c w rest (λ d i. h d (inr i)) r)

line_tokens : (at : ℕ) (w : List ℕ) (ws : List (List ℕ)) → IsCleanLine (w ∷ ws) → tokens_at at (w ++ words_text ws) ≡ tokens_of at (w ∷ ws)
line_tokens at [] ws h = absurd (let s : 0 < length {A = ℕ} [] = (h [] (inl refl)).bytes.some in omega (arith, s))
line_tokens at (b ∷ w) [] h =
    one_word at b w [] (h (b ∷ w) (inl refl)).bytes.no_blank refl
line_tokens at (b ∷ w) (v ∷ vs) h =
    one_word at b w (words_text (v ∷ vs)) (h (b ∷ w) (inl refl)).bytes.no_blank refl
    ∙ ap (λ (t : List Token). record { start = at; end = at + length (b ∷ w) } ∷ t) (line_tokens (at + length (b ∷ w) + 1) v vs (λ u i. h u (inr i)))

-- the bytes of the tokens
range_there : (pre w post : List ℕ) → slice_range (pre ++ (w ++ post)) (length pre) (length pre + length w) ≡ w
range_there pre w post =
    ap (take (length pre + length w - length pre)) (drop-append_seam pre (w ++ post)) ∙ ap (λ (k : ℕ). take k (w ++ post)) (omega arith) ∙ take-append_seam w post

words_there : (text pre post : List ℕ) (at : ℕ) (w : List ℕ) (ws : List (List ℕ)) → text ≡ pre ++ ((w ++ words_text ws) ++ post) → at ≡ length pre
    → map (token_bytes text) (tokens_of at (w ∷ ws)) ≡ w ∷ ws
words_there text pre post at w [] is start = grind (arith, append-nil, range_there)
words_there text pre post at w (v ∷ vs) is start =
    let rest : List ℕ = (v ++ words_text vs) ++ post in
    let here : text ≡ pre ++ (w ++ (32 ∷ rest)) = is ∙ ap (λ (t : List ℕ). pre ++ t) (append_assoc w (32 ∷ (v ++ words_text vs)) post) in
    let first : slice_range text at (at + length w) ≡ w = grind (arith, range_there) in
    let longer = here ∙ ap (λ (t : List ℕ). pre ++ t) (sym (append_assoc w (32 ∷ []) rest)) ∙ sym (append_assoc pre (w ++ 32 ∷ []) rest) in
    let past : at + length w + 1 ≡ length (pre ++ (w ++ 32 ∷ [])) = omega (arith, start, length-append pre (w ++ 32 ∷ []), length-append w (32 ∷ [])) in
    let others : map (token_bytes text) (tokens_of (at + length w + 1) (v ∷ vs)) ≡ v ∷ vs = words_there text (pre ++ (w ++ 32 ∷ [])) post (at + length w + 1) v vs longer past in
    ap (λ (t : List ℕ). t ∷ map (token_bytes text) (tokens_of (at + length w + 1) (v ∷ vs))) first ∙ ap (λ (t : List (List ℕ)). w ∷ t) others

-- physical lines
abbrev IsFree : (ℕ → Bool) → List ℕ → Type 0
IsFree test bytes = list_any test bytes ≡ false

one_physical : (body more : List ℕ) → IsFree (λ b. eqb b 10) body → physical_lines (body ++ 10 ∷ more) ≡ body ∷ physical_lines more
one_physical [] more h = refl
one_physical (b ∷ bs) more h = grind (arith, cond, or_parts, eqb, one_physical bs more (or_parts (eqb b 10) (list_any (λ b. eqb b 10) bs) h).1)

-- what the bytes of words pass, where a blank does
none_there : (test : ℕ → Bool) (w : List ℕ) → ((b : ℕ) → In w b → test b ≡ false) → IsFree test w
none_there test [] h = refl
none_there test (b ∷ w) h = or_from (test b) (list_any test w) (h b (inl refl)) (none_there test w (λ c i. h c (inr i)))

words_free : (test : ℕ → Bool) (ws : List (List ℕ)) → test 32 ≡ false → ((w : List ℕ) → In ws w → (b : ℕ) → In w b → test b ≡ false) → IsFree test (words_text ws)
words_free test [] blank h = refl
words_free test (w ∷ ws) blank h = grind (arith, or_from, list_any-append, none_there, words_free test ws blank (λ u i. h u (inr i)))

body_free : (test : ℕ → Bool) (w : List ℕ) (ws : List (List ℕ)) → test 32 ≡ false → ((u : List ℕ) → In (w ∷ ws) u → (b : ℕ) → In u b → test b ≡ false) → IsFree test (w ++ words_text ws)
body_free test w ws blank h = grind (arith, list_any-append, or_from, none_there, words_free)

-- the last byte of a line is its last word's
pub last_later : (xs ys : List ℕ) → 0 < length ys → get_or (xs ++ ys) (length (xs ++ ys) - 1) 0 ≡ get_or ys (length ys - 1) 0
last_later xs ys h = grind (arith, length-append, get_or-append_right)

last_is : (P : ℕ → Type 0) (w : List ℕ) (ws : List (List ℕ)) → ((u : List ℕ) → In (w ∷ ws) u → (0 < length u) × P (get_or u (length u - 1) 0)) → P (get_or (w ++ words_text ws) (length (w ++ words_text ws) - 1) 0)
last_is P w [] h = subst (λ (t : List ℕ). P (get_or t (length t - 1) 0)) (sym (append-nil w)) (h w (inl refl)).1
last_is P w (v ∷ vs) h = grind (arith, length-append, last_later, last_is P v vs (λ u i. h u (inr i)))

-- no word ends in `\`
behind_blank : (bs : List ℕ) → has_slash_end bs ≡ false → has_slash_end (32 ∷ bs) ≡ false
behind_blank [] h = refl
behind_blank (b ∷ bs) h = h

-- nothing follows, or a blank and bytes in which no word ends in `\`
data Follows (rest : List ℕ) : Type 0 where
  nothing : rest ≡ [] → Follows rest
  blank : (bs : List ℕ) → rest ≡ 32 ∷ bs → has_slash_end bs ≡ false → Follows rest

one_follows : (b : ℕ) (rest : List ℕ) → eqb b 92 ≡ false → Follows rest → has_slash_end (b ∷ rest) ≡ false
one_follows b rest h (nothing e) = ap (λ (t : List ℕ). has_slash_end (b ∷ t)) e ∙ h
one_follows b rest h (blank bs e f) = grind arith

slash_free : (w rest : List ℕ) → 0 < length w → ((b : ℕ) → In w b → is_blank b ≡ false) → eqb (get_or w (length w - 1) 0) 92 ≡ false → Follows rest → has_slash_end (w ++ rest) ≡ false
slash_free [] rest some h last r = absurd (omega (arith, some))
slash_free (b ∷ []) rest some h last r = one_follows b rest last r
slash_free (b ∷ c ∷ w) rest some h last r =
    let others : has_slash_end ((c ∷ w) ++ rest) ≡ false = slash_free (c ∷ w) rest (omega arith) (λ d i. h d (inr i)) (ap (λ (k : ℕ). eqb k 92) (sym (last_later (b ∷ []) (c ∷ w) (omega arith))) ∙ last) r in
    or_from (eqb b 92 && is_blank c) (has_slash_end ((c ∷ w) ++ rest)) (and_right (eqb b 92) (is_blank c) (h c (inr (inl refl)))) others

line_slash_free : (w : List ℕ) (ws : List (List ℕ)) → IsCleanLine (w ∷ ws) → has_slash_end (w ++ words_text ws) ≡ false
line_slash_free w [] h = grind (arith, slash_free)
line_slash_free w (v ∷ vs) h =
    let c : IsClean w = h w (inl refl) in
    slash_free w (words_text (v ∷ vs)) c.bytes.some c.bytes.no_blank c.no_slash (blank (v ++ words_text vs) refl (line_slash_free v vs (λ u i. h u (inr i))))

-- a physical line that is its own content, and doesn't go on
record IsLine (body : List ℕ) : Type 0 where
  some : 0 < length body
  bad : list_any is_bad body ≡ false
  comment : list_any (λ b. eqb b 35) body ≡ false
  blank : is_blank (get_or body (length body - 1) 0) ≡ false
  slash : eqb (get_or body (length body - 1) 0) 92 ≡ false
  return_ : eqb (get_or body (length body - 1) 0) 13 ≡ false
  slash_end : has_slash_end body ≡ false

member_last : (w : List ℕ) → 0 < length w → In w (get_or w (length w - 1) 0)
member_last w h = In-get_or w (length w - 1) 0 (omega arith)

bad_return : (b : ℕ) → is_bad b ≡ false → eqb b 13 ≡ false
bad_return b h = ne_eqb b 13 (λ e. let t : is_bad b ≡ true = ap is_bad e in let wrong : ⊥ = cc in wrong)

clean_line : (w : List ℕ) (ws : List (List ℕ)) → IsCleanLine (w ∷ ws) → IsLine (w ++ words_text ws)
clean_line w ws h = record {
  some = let s : 0 < length w = (h w (inl refl)).bytes.some in omega (arith, s, length-append w (words_text ws));
  bad = body_free is_bad w ws refl (λ u i. (h u i).bytes.no_bad);
  comment = body_free (λ b. eqb b 35) w ws refl (λ u i b j. ne_eqb b 35 ((h u i).bytes.no_comment b j));
  blank = last_is (λ b. is_blank b ≡ false) w ws (λ u i. ((h u i).bytes.some, (h u i).bytes.no_blank _ (member_last u (h u i).bytes.some)));
  slash = last_is (λ b. eqb b 92 ≡ false) w ws (λ u i. ((h u i).bytes.some, (h u i).no_slash));
  return_ = last_is (λ b. eqb b 13 ≡ false) w ws (λ u i. ((h u i).bytes.some, bad_return _ ((h u i).bytes.no_bad _ (member_last u (h u i).bytes.some))));
  slash_end = line_slash_free w ws h;
}

same_content : (body : List ℕ) → IsLine body → content body ≡ body
same_content body h = grind (arith, none_pass, eqb, take-length, suffix_len-take_no)

ends_line : (body : List ℕ) → IsLine body → goes_on body ≡ false
ends_line body h = ap (ends_in 92) (same_content body h) ∙ h.slash

same_words : (body : List ℕ) → IsLine body → words body ≡ body
same_words body h = ap (λ (t : Bool). cond t (take (length (content body) - 1) (content body)) (content body)) (ends_line body h) ∙ same_content body h

no_return : (rest : List (List ℕ)) (body : List ℕ) → IsLine body → without_return rest body ≡ body
no_return [] body h = refl
no_return (next ∷ rest) body h = ap (λ (t : Bool). cond t (take (length body - 1) body) body) h.return_

-- logical lines
abbrev line_at : ℕ → ℕ → List (List ℕ) → LineValue
line_at number at words = record { number = number; tokens = tokens_of at words }

abbrev lines_at : ℕ → ℕ → List (List (List ℕ)) → List LineValue
lines_at number at [] = []
lines_at number at (words ∷ lines) = line_at number at words ∷ lines_at (number + 1) (at + length (body_of words) + 1) lines

abbrev pub AreCleanLines : List (List (List ℕ)) → Type 0
AreCleanLines lines = (words : List (List ℕ)) → In lines words → IsCleanLine words

feed_free : (w : List ℕ) (ws : List (List ℕ)) → IsCleanLine (w ∷ ws) → list_any (λ b. eqb b 10) (w ++ words_text ws) ≡ false
feed_free w ws h = body_free (λ b. eqb b 10) w ws refl (λ u i b j. ne_eqb b 10 (λ e. let t : is_bad b ≡ true = ap is_bad e in let f : is_bad b ≡ false = (h u i).bytes.no_bad b j in let wrong : ⊥ = cc in wrong))

-- the first physical line of written lines
first_physical : (w : List ℕ) (ws : List (List ℕ)) (more : List ℕ) → IsCleanLine (w ∷ ws) → physical_lines (line_text (w ∷ ws) ++ more) ≡ (w ++ words_text ws) ∷ physical_lines more
first_physical w ws more h = grind (arith, append_assoc, one_physical, feed_free)

abbrev goes : ℕ → ℕ → List ℕ → List (List ℕ) → Bool → Bool → Bool → Result (List LineValue) TextErr
goes number at line rest bad slash on =
    cond bad (Err (BadByte number))
    (cond slash (Err (TrailingSlash number))
    (cond on (lines_from (number + 1) (at + length line + 1) (Some (with_physical number at None (without_return rest line))) rest)
    (put_before (with_physical number at None (without_return rest line)) (lines_from (number + 1) (at + length line + 1) None rest))))

one_line : (number at : ℕ) (w : List ℕ) (ws : List (List ℕ)) (rest : List (List ℕ)) (lines : List LineValue) → IsCleanLine (w ∷ ws) → lines_from (number + 1) (at + length (w ++ words_text ws) + 1) None rest ≡ Ok lines
    → lines_from number at None ((w ++ words_text ws) ∷ rest) ≡ Ok (line_at number at (w ∷ ws) ∷ lines)
one_line number at w ws rest lines h later = grind (arith, clean_line, no_return, same_words, ends_line, tokens_of, line_tokens, goes, line_at, cond, ne_eqb)

-- written lines are these logical lines
pub lines_written : (number at : ℕ) (lines : List (List (List ℕ))) → AreCleanLines lines → lines_from number at None (physical_lines (flat_map line_text lines)) ≡ Ok (lines_at number at lines)
lines_written number at [] h = refl
lines_written number at ([] ∷ lines) h = absurd (h [] (inl refl))
lines_written number at ((w ∷ ws) ∷ lines) h =
    let this : IsCleanLine (w ∷ ws) = h (w ∷ ws) (inl refl) in
    let later = lines_written (number + 1) (at + length (w ++ words_text ws) + 1) lines (λ u i. h u (inr i)) in
    ap (lines_from number at None) (first_physical w ws (flat_map line_text lines) this) ∙ one_line number at w ws (physical_lines (flat_map line_text lines)) (lines_at (number + 1) (at + length (w ++ words_text ws) + 1) lines) this later

-- and their words are the words
lines_there : (text pre : List ℕ) (number at : ℕ) (lines : List (List (List ℕ))) → AreCleanLines lines → text ≡ pre ++ flat_map line_text lines → at ≡ length pre → map (words_line text) (lines_at number at lines) ≡ numbered number lines
lines_there text pre number at [] h is start = refl
lines_there text pre number at ([] ∷ lines) h is start = absurd (h [] (inl refl))
lines_there text pre number at ((w ∷ ws) ∷ lines) h is start =
    let body : List ℕ = w ++ words_text ws in
    let more : List ℕ = flat_map line_text lines in
    let shape : text ≡ pre ++ (body ++ (10 ∷ more)) = grind (arith, append_assoc) in
    let next = shape ∙ ap (λ (t : List ℕ). pre ++ t) (sym (append_assoc body (10 ∷ []) more)) ∙ sym (append_assoc pre (body ++ 10 ∷ []) more) in
    let past : at + length body + 1 ≡ length (pre ++ (body ++ 10 ∷ [])) = omega (arith, start, length-append pre (body ++ 10 ∷ []), length-append body (10 ∷ [])) in
    let one : number + 1 ≡ suc number = omega arith in
    let others : map (words_line text) (lines_at (number + 1) (at + length body + 1) lines) ≡ numbered (number + 1) lines =
    lines_there text (pre ++ (body ++ 10 ∷ [])) (number + 1) (at + length body + 1) lines (λ u i. h u (inr i)) next past in
    ap (λ (t : List (List ℕ)). record { number = number; words = t } ∷ map (words_line text) (lines_at (number + 1) (at + length body + 1) lines)) (words_there text pre (10 ∷ more) at w ws shape start)
    ∙ ap (λ (t : List WordsLine). record { number = number; words = w ∷ ws } ∷ t) (others ∙ ap (λ (k : ℕ). numbered k lines) one)

-- Lines that are written and read again: the text has these logical lines, with their words and numbers.
pub record ReadsAgain (lines : List (List (List ℕ))) : Type 0 where
  pub logical : List LineValue
  pub are : lines_of (flat_map line_text lines) ≡ Ok logical
  pub words : map (words_line (flat_map line_text lines)) logical ≡ numbered 1 lines

pub reads_again : (lines : List (List (List ℕ))) → AreCleanLines lines → ReadsAgain lines
reads_again lines h = record {
  logical = lines_at 1 0 lines;
  are = lines_written 1 0 lines h;
  words = lines_there (flat_map line_text lines) [] 1 0 lines h refl refl;
}
