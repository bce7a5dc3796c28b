-- What one more part adds: to lines, to the words of a line, and to a text.
use Rattle.gen_case.proofs.Common.{◌≡◌, ℕ, zero, suc, ◌+◌, List, [], ◌∷◌, ◌++◌, map, codes, sym, ap, ◌∙◌, arith, append_assoc, flat_map, join_with_byte, range_with_len, flat_map-append, append-nil, line_text, text_of, after_blanks}

-- a text behind two others
pub behind : (xs ys before first rest : List ℕ) → first ≡ before ++ xs → rest ≡ first ++ ys → rest ≡ before ++ (xs ++ ys)
behind xs ys before first rest a b = b ∙ ap (λ (t : List ℕ). t ++ ys) a ∙ append_assoc before xs ys

-- lines behind other lines
pub lines_behind : (xs ys : List (List (List ℕ))) (before first rest : List ℕ)
    → first ≡ before ++ text_of xs → rest ≡ first ++ text_of ys → rest ≡ before ++ text_of (xs ++ ys)
lines_behind xs ys before first rest a b = grind (arith, behind, flat_map-append)

-- one more number
range_more : (a k : ℕ) → range_with_len a (suc k) ≡ range_with_len a k ++ (a + k) ∷ []
range_more a zero = let e : a ≡ a + 0 = omega arith in ap (λ (n : ℕ). n ∷ []) e
range_more a (suc k) = grind (arith, range_more (a + 1) k)

range_next : (a k m j : ℕ) → a + k ≡ j → k + 1 ≡ m → range_with_len a m ≡ range_with_len a k ++ j ∷ []
range_next a k m j e h = grind (arith, range_more)

pieces_next : {A : Type 0} (f : ℕ → List A) (a k m j : ℕ) → a + k ≡ j → k + 1 ≡ m → flat_map f (range_with_len a m) ≡ flat_map f (range_with_len a k) ++ f j
pieces_next f a k m j e h =
    ap (λ (ns : List ℕ). flat_map f ns) (range_next a k m j e h)
    ∙ flat_map-append f (range_with_len a k) (j ∷ [])
    ∙ ap (λ ys. flat_map f (range_with_len a k) ++ ys) (append-nil (f j))

-- a text with one more piece
pub piece_added : (f : ℕ → List ℕ) (a k m j : ℕ) (before now next : List ℕ) → a + k ≡ j → k + 1 ≡ m
    → now ≡ before ++ flat_map f (range_with_len a k) → next ≡ now ++ f j → next ≡ before ++ flat_map f (range_with_len a m)
piece_added f a k m j before now next e h has adds =
    behind (flat_map f (range_with_len a k)) (f j) before now next has adds
    ∙ ap (λ (t : List ℕ). before ++ t) (sym (pieces_next f a k m j e h))

-- a text with the lines of one more number
pub lines_added : (f : ℕ → List (List (List ℕ))) (a k m j : ℕ) (before now next : List ℕ) → a + k ≡ j → k + 1 ≡ m
    → now ≡ before ++ text_of (flat_map f (range_with_len a k)) → next ≡ now ++ text_of (f j) → next ≡ before ++ text_of (flat_map f (range_with_len a m))
lines_added f a k m j before now next e h has adds =
    lines_behind (flat_map f (range_with_len a k)) (f j) before now next has adds
    ∙ ap (λ (ls : List (List (List ℕ))). before ++ text_of ls) (sym (pieces_next f a k m j e h))

map_next : (f : ℕ → List ℕ) (xs : List ℕ) (j : ℕ) → after_blanks (map f (xs ++ j ∷ [])) ≡ after_blanks (map f xs) ++ (32 ∷ f j)
map_next f [] j = append-nil (32 ∷ f j)
map_next f (x ∷ xs) j = ap (λ (t : List ℕ). (32 ∷ f x) ++ t) (map_next f xs j) ∙ sym (append_assoc (32 ∷ f x) (after_blanks (map f xs)) (32 ∷ f j))

-- a line with one more word
pub word_added : (f : ℕ → List ℕ) (a k m j : ℕ) (before now next : List ℕ) → a + k ≡ j → k + 1 ≡ m
    → now ≡ before ++ after_blanks (map f (range_with_len a k)) → next ≡ now ++ (32 ∷ f j) → next ≡ before ++ after_blanks (map f (range_with_len a m))
word_added f a k m j before now next e h has adds =
    behind (after_blanks (map f (range_with_len a k))) (32 ∷ f j) before now next has adds
    ∙ ap (λ (t : List ℕ). before ++ t) (sym (map_next f (range_with_len a k) j))
    ∙ ap (λ (ns : List ℕ). before ++ after_blanks (map f ns)) (sym (range_next a k m j e h))

-- the words of a line behind its first one
pub joined : (word : List ℕ) (words : List (List ℕ)) → join_with_byte 32 (word ∷ words) ≡ word ++ after_blanks words
joined word [] = sym (append-nil word)
joined word (next ∷ words) = ap (λ (t : List ℕ). word ++ (32 ∷ t)) (joined next words)

-- a line of a word and others, with its line feed
pub line_added : (word : List ℕ) (words : List (List ℕ)) (before first rest whole : List ℕ)
    → first ≡ before ++ word → rest ≡ first ++ after_blanks words → whole ≡ rest ++ codes "\n" → whole ≡ before ++ line_text (word ∷ words)
line_added word words before first rest whole a b c = grind (arith, behind, codes, joined)

-- words behind other words
pub words_joined : (xs ys : List (List ℕ)) (before first rest : List ℕ)
    → first ≡ before ++ after_blanks xs → rest ≡ first ++ after_blanks ys → rest ≡ before ++ after_blanks (xs ++ ys)
words_joined xs ys before first rest a b = grind (arith, behind, flat_map-append)
