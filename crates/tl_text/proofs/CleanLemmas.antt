-- The tokens of the logical lines of a text are clean, and stand in the text.
use Rattle.tl_text.proofs.Common.{◌≡◌, ℕ, zero, suc, ◌+◌, ◌-◌, ◌<◌, ◌≤◌, Bool, true, false, eqb, ◌&&◌, List, [], ◌∷◌, length, take, drop, get_or, refl, sym, ap, subst, ◌∙◌, inl, inr, arith, length-drop, get_or-drop, min, list_any, suffix_len, position_or_len, slice_range, fails_before_first, list_any_at, In, choose_one, Token, IsWithin, token_bytes, is_bad, has_slash_end, words, content, before_comment, without_last, ends_in, goes_on, physical_lines, before_first, without_return, is_blank, tokens_at, IsRunAt, IsClean, rules}
use Rattle.std.proofs.lemmas.List.{get_or-take, length-take}
use Rattle.std.proofs.lemmas.Bool.{eq-eqb, ne_eqb, cases_Bool, and_from, or_left, or_right}
use Rattle.tl_text.proofs.TokenLemmas.{tokens_are}

-- bytes stand in others from a place on
pub record IsPart (at : ℕ) (part whole : List ℕ) : Type 0 where
  pub short : at + length part ≤ length whole
  pub each : (i : ℕ) → i < length part → get_or whole (at + i) 0 ≡ get_or part i 0

take_part : (n : ℕ) (xs : List ℕ) → IsPart 0 (take n xs) xs
take_part n xs = search (rules, length-take, get_or-take)

part_same : (xs : List ℕ) → IsPart 0 xs xs
part_same xs = record { short = omega arith; each = λ i h. let e : 0 + i ≡ i = omega arith in ap (λ k. get_or xs k 0) e }

part_twice : (at : ℕ) (a b c : List ℕ) → IsPart 0 a b → IsPart at b c → IsPart at a c
part_twice at a b c p q = search rules

-- the parts of a line stand at its start
return_part : (rest : List (List ℕ)) (line : List ℕ) → IsPart 0 (without_return rest line) line
return_part [] line = part_same line
return_part (next ∷ rest) line = choose_one (λ xs. IsPart 0 xs line) (ends_in 13 line) (without_last line) line (take_part (length line - 1) line) (part_same line)

words_content : (line : List ℕ) → IsPart 0 (words line) (content line)
words_content line = choose_one (λ xs. IsPart 0 xs (content line)) (goes_on line) (without_last (content line)) (content line) (take_part (length (content line) - 1) (content line)) (part_same (content line))

words_before_comment : (line : List ℕ) → IsPart 0 (words line) (before_comment line)
words_before_comment line = part_twice 0 (words line) (content line) (before_comment line) (words_content line) (take_part (length (before_comment line) - suffix_len is_blank (before_comment line)) (before_comment line))

words_part : (line : List ℕ) → IsPart 0 (words line) line
words_part line = part_twice 0 (words line) (before_comment line) line (words_before_comment line) (take_part (position_or_len (λ b. eqb b 35) line) line)

-- no `#` stands before the comment
comment_after : (line : List ℕ) (i : ℕ) → i < length (words line) → get_or (words line) i 0 ≡ 35 → ⊥
comment_after line i h is = grind (arith, words_part, eqb, fails_before_first, words_before_comment, length-take, eq-eqb)

-- no byte passes a test that none passes
passes_nowhere : (test : ℕ → Bool) (xs : List ℕ) (i : ℕ) → list_any test xs ≡ false → i < length xs → test (get_or xs i 0) ≡ false
passes_nowhere test xs i none h = elim (cases_Bool (test (get_or xs i 0))) [ inl t ↦ absurd (let k : list_any test xs ≡ true = list_any_at test xs i 0 h t in let wrong : ⊥ = cc in wrong) | inr f ↦ f ]

slash_ends : (bs : List ℕ) (i : ℕ) → i < length bs → get_or bs i 0 ≡ 92 → (suc i < length bs → is_blank (get_or bs (suc i) 0) ≡ true) → has_slash_end bs ≡ true
slash_ends (b ∷ []) zero h is blank = eq-eqb b 92 is
slash_ends (b ∷ c ∷ cs) zero h is blank = or_left (eqb b 92 && is_blank c) (has_slash_end (c ∷ cs)) (and_from (eqb b 92) (is_blank c) (eq-eqb b 92 is) (blank (omega arith)))
slash_ends (b ∷ c ∷ cs) (suc i) h is blank = or_right (eqb b 92 && is_blank c) (has_slash_end (c ∷ cs)) (slash_ends (c ∷ cs) i (omega arith) is (λ l. blank (omega arith)))
slash_ends bs i h is blank = absurd (omega arith)

-- physical lines stand in a text, one behind the other
abbrev pub Stand : List ℕ → ℕ → List (List ℕ) → Type 0
Stand text at [] = Unit {0}
Stand text at (line ∷ rest) = IsPart at line text × Stand text (at + length line + 1) rest

part_behind : (b at : ℕ) (part whole : List ℕ) → IsPart at part whole → IsPart (suc at) part (b ∷ whole)
part_behind b at part whole p = search rules

stand_behind : (b at : ℕ) (text : List ℕ) (lines : List (List ℕ)) → Stand text at lines → Stand (b ∷ text) (suc at) lines
stand_behind b at text [] h = tt
stand_behind b at text (line ∷ rest) (p, h) = grind (arith, part_behind, stand_behind b (at + length line + 1) text rest h)

longer_each : (b : ℕ) (part whole : List ℕ) → IsPart 0 part whole → (i : ℕ) → i < length (b ∷ part) → get_or (b ∷ whole) (0 + i) 0 ≡ get_or (b ∷ part) i 0
longer_each b part whole p zero h = refl
longer_each b part whole p (suc i) h = grind arith

part_longer : (b : ℕ) (part whole : List ℕ) → IsPart 0 part whole → IsPart 0 (b ∷ part) (b ∷ whole)
part_longer b part whole p = record { short = omega (arith, p.short); each = longer_each b part whole p }

stand_longer : (b : ℕ) (text : List ℕ) (lines : List (List ℕ)) → Stand text 0 lines → Stand (b ∷ text) 0 (before_first b lines)
stand_longer b text [] h = (record { short = omega arith; each = λ i l. let z : i ≡ 0 = omega arith in subst (λ k. get_or (b ∷ text) (0 + k) 0 ≡ get_or (b ∷ []) k 0) (sym z) refl }, tt)
stand_longer b text (line ∷ rest) (p, h) =
    (part_longer b line text p, subst (λ k. Stand (b ∷ text) k rest) (omega arith) (stand_behind b (0 + length line + 1) text rest h))

part_none : (text : List ℕ) → IsPart 0 [] text
part_none text = record { short = omega arith; each = λ i l. absurd (omega arith) }

pub lines_stand : (text : List ℕ) → Stand text 0 (physical_lines text)
lines_stand [] = (part_none [], tt)
lines_stand (b ∷ bs) = grind (arith, choose_one, eqb, part_none, stand_behind, stand_longer, lines_stand bs)

-- the bytes of a range of a text
record IsByteOf (text : List ℕ) (start end byte : ℕ) : Type 0 where
  place : ℕ
  from : start ≤ place
  below : place < end
  is : byte ≡ get_or text place 0

byte_in : (xs : List ℕ) (b : ℕ) → In xs b → (i : ℕ) × (i < length xs) × (b ≡ get_or xs i 0)
byte_in [] b h = absurd h
byte_in (x ∷ xs) b (inl e) = (0, (let l : 0 < length (x ∷ xs) = omega arith in l), e)
byte_in (x ∷ xs) b (inr h) = let (i, l, e) = byte_in xs b h in (suc i, (let m : suc i < length (x ∷ xs) = omega arith in m), e)

range_byte : (text : List ℕ) (start end b : ℕ) → In (slice_range text start end) b → IsByteOf text start end b
range_byte text start end b h = grind (arith, byte_in, length-take, get_or-take, get_or-drop)

-- a token within the text, with clean bytes
pub record IsGood (text : List ℕ) (token : Token) : Type 0 where
  pub within : IsWithin text token
  pub clean : IsClean (token_bytes text token)

module _ (text : List ℕ) (at : ℕ) (line : List ℕ) (part : IsPart at line text) where
  -- a byte of a token, in the words of its line
  byte_of : (i : ℕ) → at ≤ i → i < at + length (words line) → get_or text i 0 ≡ get_or (words line) (i - at) 0
  byte_of i l h = grind (arith, part_twice, words_part)

  module _ (fine : list_any is_bad line ≡ false) (ends : has_slash_end (words line) ≡ false) (token : Token) (r : IsRunAt at (words line) token) where
    fits : at + length (words line) ≤ length text
    fits = (part_twice at (words line) line text (words_part line) part).short

    bytes_length : length (token_bytes text token) ≡ r.past - r.first
    bytes_length =
        let l : length (token_bytes text token) ≡ min (token.end - token.start) (length (drop token.start text)) = length-take (token.end - token.start) (drop token.start text) in
        omega (arith, r.start, r.end, r.run.some, r.run.within, fits, length-drop token.start text)

    -- where a byte of the token stands in the words
    record IsWordByte (b : ℕ) : Type 0 where
      place : ℕ
      from : r.first ≤ place
      below : place < r.past
      is : b ≡ get_or (words line) place 0

    word_byte : (b : ℕ) → In (token_bytes text token) b → IsWordByte b
    word_byte b h =
        let o : IsByteOf text token.start token.end b = range_byte text token.start token.end b h in record {
          place = o.place - at;
          from = omega (arith, r.start, o.from);
          below = omega (arith, r.start, r.end, o.from, o.below);
          is = o.is ∙ byte_of o.place (omega (arith, r.start, o.from)) (omega (arith, r.end, r.run.within, o.below));
        }

    blank_not : (b : ℕ) → In (token_bytes text token) b → is_blank b ≡ false
    blank_not b h = let w : IsWordByte b = word_byte b h in ap is_blank w.is ∙ r.run.inside w.place w.from w.below

    bad_not : (b : ℕ) → In (token_bytes text token) b → is_bad b ≡ false
    bad_not b h =
        let w : IsWordByte b = word_byte b h in
        let p : IsPart 0 (words line) line = words_part line in
        let e : 0 + w.place ≡ w.place = omega arith in
        ap is_bad (w.is ∙ sym (p.each w.place (omega (arith, r.run.within, w.below))) ∙ ap (λ k. get_or line k 0) e)
        ∙ passes_nowhere is_bad line w.place fine (omega (arith, p.short, r.run.within, w.below))

    comment_not : (b : ℕ) → In (token_bytes text token) b → b ≡ 35 → ⊥
    comment_not b h is =
        let w : IsWordByte b = word_byte b h in comment_after line w.place (omega (arith, r.run.within, w.below)) (sym w.is ∙ is)

    last_byte : get_or (token_bytes text token) (length (token_bytes text token) - 1) 0 ≡ get_or (words line) (r.past - 1) 0
    last_byte =
        let k : length (token_bytes text token) - 1 ≡ r.past - r.first - 1 = omega (arith, bytes_length) in
        let j : token.start + (r.past - r.first - 1) ≡ at + (r.past - 1) = omega (arith, r.start, r.run.some) in
        let z : at + (r.past - 1) - at ≡ r.past - 1 = omega arith in
        ap (λ i. get_or (token_bytes text token) i 0) k
        ∙ get_or-take (token.end - token.start) (drop token.start text) (r.past - r.first - 1) 0 (omega (arith, r.start, r.end, r.run.some))
        ∙ get_or-drop token.start text (r.past - r.first - 1) 0
        ∙ ap (λ i. get_or text i 0) j ∙ byte_of (at + (r.past - 1)) (omega arith) (omega (arith, r.run.some, r.run.within)) ∙ ap (λ i. get_or (words line) i 0) z

    behind_blank : suc (r.past - 1) < length (words line) → is_blank (get_or (words line) (suc (r.past - 1)) 0) ≡ true
    behind_blank l =
        let e : suc (r.past - 1) ≡ r.past = omega (arith, r.run.some) in
        ap (λ i. is_blank (get_or (words line) i 0)) e ∙ r.run.behind (omega arith)

    slash_not : ends_in 92 (token_bytes text token) ≡ false
    slash_not = ne_eqb (get_or (token_bytes text token) (length (token_bytes text token) - 1) 0) 92 (λ is.
        let t : has_slash_end (words line) ≡ true = slash_ends (words line) (r.past - 1) (omega (arith, r.run.some, r.run.within)) (sym last_byte ∙ is) behind_blank in
        cc)

    good : IsGood text token
    good = record {
      within = record { order = omega (arith, r.start, r.end, r.run.some); end = omega (arith, r.end, r.run.within, fits) };
      clean = record {
        bytes = record { some = omega (arith, bytes_length, r.run.some); no_blank = blank_not; no_bad = bad_not; no_comment = comment_not };
        no_slash = slash_not;
      };
    }

-- The tokens of a line that isn't refused are good.
pub tokens_good : (text : List ℕ) (at : ℕ) (rest : List (List ℕ)) (line : List ℕ) → IsPart at line text → list_any is_bad (without_return rest line) ≡ false → has_slash_end (words (without_return rest line)) ≡ false
    → (token : Token) → In (tokens_at at (words (without_return rest line))) token → IsGood text token
tokens_good text at rest line part fine ends token i =
    let kept : List ℕ = without_return rest line in
    good text at kept (part_twice at kept line text (return_part rest line) part) fine ends token ((tokens_are at (words kept)).only token i)
