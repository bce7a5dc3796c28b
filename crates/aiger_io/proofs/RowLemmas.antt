-- The lines of a text, part by part, and numbers, words and lines that are read back as they were written.
use Rattle.aiger_io.proofs.Common.{◌≡◌, false, ℕ, zero, suc, ◌+◌, ◌-◌, ◌<◌, ◌≤◌, Bool, eqb, get_or, List, [], ◌∷◌, ◌++◌, length, map, take, drop, Some, Bor, inl, inr, refl, sym, ap, ◌∙◌, subst, arith, append_assoc, append-nil, length-drop, length-take, slice_get, slice_split, onto_first, lines, lines_of_parts, strip_carriage_return, length-slice_split, count_by-le-length, In, choose_one, drop_get, drop_past, lit<, ◌^◌, true, ◌&&◌, None, Ok, Err, decimal, codes, flat_map, slice_split_none, slice_split_at, In-append, In-get_or, IsClean, is_decimal, number_from, is_bad, words_text, line_text, AllClean, one_clean, more_clean, word_clean, decimal_form, decimal_value, decimal_clean, is_header, header_in, header_of, header_by, item_of, is_literal, is_variable, is_in_range, words_of, number_of, header_words, init_words, item_words, item_text, Header, Item, Input, Latch, Output, And, nat_tests, numbers_of, eqb-false, eq-eqb, ne_eqb, cond-true, cond-false, cases_Bool, and_parts, or_left, true≢false, length-map, map-append, take_all, drop-map, rules}
use Rattle.aiger_io.specs.declared.aag_err.AagErr.TheVariants as aag_err
use Rattle.aiger_io.proofs.LineLemmas.{header_small}
use Rattle.aiger_io.proofs.PlaceLemmas.{kind_of_item}

-- a line before others
pub one_more : (x : List ℕ) (parts : List (List ℕ)) → 0 < length parts → lines_of_parts (x ∷ parts) ≡ strip_carriage_return x ∷ lines_of_parts parts
one_more x parts l = grind arith

last_one : (x : List ℕ) → 0 < length x → lines_of_parts (x ∷ []) ≡ x ∷ []
last_one x l = cond-false (eqb (length x) 0) [] (x ∷ []) (ne_eqb (length x) 0 (λ e. let q : length x ≡ 0 = e in omega arith))

no_last : (x : List ℕ) → length x ≡ 0 → lines_of_parts (x ∷ []) ≡ []
no_last x e = cond-true (eqb (length x) 0) [] (x ∷ []) (eq-eqb (length x) 0 e)

module _ (parts rows all : List (List ℕ)) (i : ℕ) (part : List ℕ) (at : slice_get parts i ≡ Some part) (so_far : rows ++ lines_of_parts (drop i parts) ≡ all) where
  pub row_next : i + 1 < length parts → (rows ++ strip_carriage_return part ∷ []) ++ lines_of_parts (drop (i + 1) parts) ≡ all
  row_next l = grind (arith, append_assoc, one_more, length-drop, drop_get)

  pub row_last : length parts ≤ i + 1 → 0 < length part → (rows ++ part ∷ []) ++ lines_of_parts (drop (i + 1) parts) ≡ all
  row_last l some = grind (arith, drop_past, append-nil, last_one, drop_get)

  pub row_none : length parts ≤ i + 1 → length part ≡ 0 → rows ++ lines_of_parts (drop (i + 1) parts) ≡ all
  row_none l empty = grind (arith, drop_past, no_last, drop_get)

-- there are no more lines than bytes, and one
parts_many : (parts : List (List ℕ)) → length (lines_of_parts parts) ≤ length parts
parts_many [] = omega arith
parts_many (x ∷ []) = choose_one (λ (l : List (List ℕ)). length l ≤ length (x ∷ [])) (eqb (length x) 0) [] (x ∷ []) (omega arith) (omega arith)
parts_many (x ∷ y ∷ more) = let l : length (lines_of_parts (y ∷ more)) ≤ length (y ∷ more) = parts_many (y ∷ more) in omega arith

pub lines_few : (text : List ℕ) → length (lines text) ≤ length text + 1
lines_few text = grind (arith, eqb, parts_many, length-slice_split, count_by-le-length)

-- what is split off is as long as the whole at most
onto_short : (n x : ℕ) (parts : List (List ℕ)) → ((q : List ℕ) → In parts q → length q ≤ n) → (part : List ℕ) → In (onto_first x parts) part → length part ≤ n + 1
onto_short n x parts short part e = grind arith

parts_short : (test : ℕ → Bool) (xs part : List ℕ) → In (slice_split test xs) part → length part ≤ length xs
parts_short test [] part (inl e) = let l : length part ≡ length {A = ℕ} [] = ap length e in omega arith
parts_short test [] part (inr i) = absurd i
parts_short test (x ∷ xs) part i = elim (cases_Bool (test x)) [
  | inl t ↦ elim (subst (λ l. In l part) (cond-true (test x) ([] ∷ slice_split test xs) (onto_first x (slice_split test xs)) t) i) [
    | inl e ↦ (let l : length part ≡ length {A = ℕ} [] = ap length e in omega arith)
    | inr j ↦ (let l : length part ≤ length xs = parts_short test xs part j in omega arith)
  ]
  | inr f ↦ (
      let l : length part ≤ length xs + 1 = onto_short (length xs) x (slice_split test xs) (λ q j. parts_short test xs q j) part (subst (λ l. In l part) (cond-false (test x) ([] ∷ slice_split test xs) (onto_first x (slice_split test xs)) f) i) in omega arith)
]

strip_short : (l : List ℕ) → length (strip_carriage_return l) ≤ length l
strip_short l = choose_one (λ (k : List ℕ). length k ≤ length l) (eqb (get_or l (length l - 1) 0) 13) (take (length l - 1) l) l (omega (arith, length-take (length l - 1) l)) (omega arith)

line_short : (n : ℕ) (parts : List (List ℕ)) (row : List ℕ) → ((q : List ℕ) → In parts q → length q ≤ n) → In (lines_of_parts parts) row → length row ≤ n
line_short n [] row short i = absurd i
line_short n (x ∷ []) row short i = search (rules, cases_Bool, eqb, cond-true, cond-false)
line_short n (x ∷ y ∷ more) row short (inl e) = let l : length row ≡ length (strip_carriage_return x) = ap length e in let m : length x ≤ n = short x (inl refl) in omega (arith, strip_short x)
line_short n (x ∷ y ∷ more) row short (inr i) = line_short n (y ∷ more) row (λ q j. short q (inr j)) i

pub lines_short : (text row : List ℕ) → In (lines text) row → length row ≤ length text
lines_short text row i = line_short (length text) (slice_split (λ b. eqb b 10) text) row (λ q j. parts_short (λ b. eqb b 10) text q j) i

pub In-drop : {A : Type 0} (n : ℕ) (xs : List A) (x : A) → In (drop n xs) x → In xs x
In-drop (suc n) (y ∷ ys) x i = inr (In-drop n ys x i)
In-drop o xs x i = i

-- lines as they lie in the text
pub row_at : (xs : List (Bor (List ℕ))) (i : ℕ) (d : Bor (List ℕ)) → i < length xs → slice_get (map (λ (r : Bor (List ℕ)). r.now) xs) i ≡ Some (get_or xs i d).now
row_at [] i d l = absurd (omega arith)
row_at (x ∷ xs) zero d l = refl
row_at (x ∷ xs) (suc i) d l = row_at xs i d (omega arith)

pub parts_few : (parts : List (Bor (List ℕ))) (text : List ℕ) → map (λ (r : Bor (List ℕ)). r.now) parts ≡ slice_split (λ b. eqb b 10) text → length parts ≤ length text + 1
parts_few parts text e = grind (arith, eqb, length-map, length-slice_split, count_by-le-length)

pub row_pushed : (old more : List (Bor (List ℕ))) (r : Bor (List ℕ)) (row : List ℕ) → more ≡ old ++ r ∷ [] → r.now ≡ row → map (λ (b : Bor (List ℕ)). b.now) more ≡ map (λ (b : Bor (List ℕ)). b.now) old ++ row ∷ []
row_pushed old more r row is same = grind (arith, map-append)

pub not_empty : (n : ℕ) → eqb n 0 ≡ false → 0 < n
not_empty n e = omega (arith, eqb-false n 0 e)

-- what a slice of lines has
abbrev pub no_row : Bor (List ℕ)
no_row = record { ref_ptr = (0, 0); now = [] }

-- the row at a loop's place is the first of those that follow
pub read_here : {X : Type 0} (f : List (List ℕ) → X) (rows : List (Bor (List ℕ))) (i : ℕ) (x : X) → i < length rows → f (drop i (map (λ (r : Bor (List ℕ)). r.now) rows)) ≡ x → f ((get_or rows i no_row).now ∷ drop (i + 1) (map (λ (r : Bor (List ℕ)). r.now) rows)) ≡ x
read_here f rows i x l e = ap f (sym (drop_get (map (λ (r : Bor (List ℕ)). r.now) rows) i (get_or rows i no_row).now (row_at rows i no_row l))) ∙ e

pub rows_cut : (xs : List (Bor (List ℕ))) (n k : ℕ) → length xs ≤ n + k → map (λ (r : Bor (List ℕ)). r.now) (take k (drop n xs)) ≡ drop n (map (λ (r : Bor (List ℕ)). r.now) xs)
rows_cut xs n k l = ap (map (λ (r : Bor (List ℕ)). r.now)) (take_all k (drop n xs) (omega (arith, length-drop n xs))) ∙ sym (drop-map (λ (r : Bor (List ℕ)). r.now) n xs)

-- numbers as they are written
pub number_back : (n : ℕ) → n < 2 ^ 64 → number_of (decimal n) ≡ Some n
number_back n l = cond-true (is_decimal (decimal n)) (Some (number_from 0 (decimal n))) None (decimal_form n l) ∙ ap (λ x. Some x) (decimal_value n l)

-- clean words have no line feed, no blank and no carriage return
pub record IsWordByte (b : ℕ) : Type 0 where
  pub no_feed : eqb b 10 ≡ false
  pub no_blank : eqb b 32 ≡ false
  pub no_return : eqb b 13 ≡ false

no_bad_byte : (b x : ℕ) → is_bad b ≡ false → is_bad x ≡ true → eqb b x ≡ false
no_bad_byte b x e t = ne_eqb b x (λ q. true≢false (sym t ∙ subst (λ z. is_bad z ≡ false) q e))

pub word_byte : (w : List ℕ) (b : ℕ) → IsClean w → In w b → IsWordByte b
word_byte w b c i = search (rules, no_bad_byte, cases_Bool, eqb, true≢false, or_left)

abbrev pub row_of : List (List ℕ) → List ℕ
row_of [] = []
row_of (w ∷ ws) = w ++ words_text ws

-- a row's words
words_back : (w : List ℕ) (ws : List (List ℕ)) → AllClean (w ∷ ws) → words_of (w ++ words_text ws) ≡ w ∷ ws
words_back w [] clean = ap words_of (append-nil w) ∙ slice_split_none (λ b. eqb b 32) w (λ k d l. (word_byte w (get_or w k d) (clean w (inl refl)) (In-get_or w k d l)).no_blank)
words_back w (x ∷ xs) clean =
    slice_split_at (λ b. eqb b 32) w 32 (x ++ words_text xs) (λ k d l. (word_byte w (get_or w k d) (clean w (inl refl)) (In-get_or w k d l)).no_blank) refl
    ∙ ap (λ l. w ∷ l) (words_back x xs (λ y i. clean y (inr i)))

-- the bytes of a row
record IsRowByte (b : ℕ) : Type 0 where
  no_feed : eqb b 10 ≡ false
  no_return : eqb b 13 ≡ false

words_byte : (ws : List (List ℕ)) (b : ℕ) → AllClean ws → In (words_text ws) b → IsRowByte b
words_byte [] b clean i = absurd i
words_byte (w ∷ ws) b clean (inl e) = record { no_feed = ap (λ x. eqb x 10) e; no_return = ap (λ x. eqb x 13) e }
words_byte (w ∷ ws) b clean (inr i) = elim (In-append w (words_text ws) b i) [
  | inl j ↦ (let k = word_byte w b (clean w (inl refl)) j in record { no_feed = k.no_feed; no_return = k.no_return })
  | inr j ↦ words_byte ws b (λ y m. clean y (inr m)) j
]

not_stripped : (row : List ℕ) → ((b : ℕ) → In row b → eqb b 13 ≡ false) → strip_carriage_return row ≡ row
not_stripped [] h = refl
not_stripped (b ∷ bs) h = cond-false (eqb (get_or (b ∷ bs) (length (b ∷ bs) - 1) 0) 13) (take (length (b ∷ bs) - 1) (b ∷ bs)) (b ∷ bs) (h (get_or (b ∷ bs) (length (b ∷ bs) - 1) 0) (In-get_or (b ∷ bs) (length (b ∷ bs) - 1) 0 (omega arith)))

pub line_back : (w : List ℕ) (ws : List (List ℕ)) (rest : List ℕ) → AllClean (w ∷ ws) → lines (line_text (w ∷ ws) ++ rest) ≡ (w ++ words_text ws) ∷ lines rest
line_back w ws rest clean =
    ap lines (ap (λ t. t ++ rest) (sym (append_assoc w (words_text ws) (10 ∷ []))) ∙ append_assoc (w ++ words_text ws) (10 ∷ []) rest)
    ∙ ap lines_of_parts (slice_split_at (λ b. eqb b 10) (w ++ words_text ws) 10 rest (λ k d l. (words_byte (w ∷ ws) (get_or (w ++ words_text ws) k d) clean (inr (In-get_or (w ++ words_text ws) k d l))).no_feed) refl)
    ∙ one_more (w ++ words_text ws) (slice_split (λ b. eqb b 10) rest) (omega (arith, length-slice_split (λ b. eqb b 10) rest))
    ∙ ap (λ r. r ∷ lines rest) (not_stripped (w ++ words_text ws) (λ b i. (words_byte (w ∷ ws) b clean (inr i)).no_return))

-- numbers of items
small_literal : (most l : ℕ) → most ≤ 1073741824 → is_literal most l ≡ true → l < 2 ^ 64
small_literal most l m t = grind (arith, nat_tests)

small_variable : (most l : ℕ) → most ≤ 1073741824 → is_variable most l ≡ true → l < 2 ^ 64
small_variable most l m t = grind (arith, nat_tests)

init_clean : (init : Bool) → AllClean (init_words init)
init_clean init = grind (arith, one_clean, codes, word_clean, lit<)

module _ (h : Header) (most : h.variables ≤ 1073741824) where
  item_clean : (item : Item) → is_in_range h.variables item ≡ true → AllClean (item_words item)
  item_clean (Input own) t = one_clean (decimal own) (decimal_clean own (small_variable h.variables own most t))
  item_clean (Latch own next init) t =
      let p = and_parts (is_variable h.variables own) (is_literal h.variables next) t in
      more_clean (decimal own) (decimal next ∷ init_words init) (decimal_clean own (small_variable h.variables own most p.0))
      (more_clean (decimal next) (init_words init) (decimal_clean next (small_literal h.variables next most p.1)) (init_clean init))
  item_clean (Output l) t = one_clean (decimal l) (decimal_clean l (small_literal h.variables l most t))
  item_clean (And own left right) t =
      let p = and_parts (is_variable h.variables own) (is_literal h.variables left && is_literal h.variables right) t in
      let q = and_parts (is_literal h.variables left) (is_literal h.variables right) p.1 in
      more_clean (decimal own) (decimal left ∷ decimal right ∷ []) (decimal_clean own (small_variable h.variables own most p.0))
      (more_clean (decimal left) (decimal right ∷ []) (decimal_clean left (small_literal h.variables left most q.0)) (one_clean (decimal right) (decimal_clean right (small_literal h.variables right most q.1))))

  -- the form of a line
  item_back : (item : Item) → is_in_range h.variables item ≡ true → item_of (kind_of_item item) (item_words item) ≡ Some item
  item_back item t = grind (arith, number_back, small_variable, and_parts, small_literal)

  abbrev item_row : Item → List ℕ
  item_row item = row_of (item_words item)

  row_words : (item : Item) → is_in_range h.variables item ≡ true → words_of (item_row item) ≡ item_words item
  row_words (Input own) t = words_back (decimal own) [] (item_clean (Input own) t)
  row_words (Latch own next init) t = words_back (decimal own) (decimal next ∷ init_words init) (item_clean (Latch own next init) t)
  row_words (Output l) t = words_back (decimal l) [] (item_clean (Output l) t)
  row_words (And own left right) t = words_back (decimal own) (decimal left ∷ decimal right ∷ []) (item_clean (And own left right) t)

  pub item_read_back : (item : Item) → is_in_range h.variables item ≡ true → item_of (kind_of_item item) (words_of (row_of (item_words item))) ≡ Some item
  item_read_back item t = ap (item_of (kind_of_item item)) (row_words item t) ∙ item_back item t

  item_line : (item : Item) (rest : List ℕ) → is_in_range h.variables item ≡ true → lines (item_text item ++ rest) ≡ item_row item ∷ lines rest
  item_line (Input own) rest t = line_back (decimal own) [] rest (item_clean (Input own) t)
  item_line (Latch own next init) rest t = line_back (decimal own) (decimal next ∷ init_words init) rest (item_clean (Latch own next init) t)
  item_line (Output l) rest t = line_back (decimal l) [] rest (item_clean (Output l) t)
  item_line (And own left right) rest t = line_back (decimal own) (decimal left ∷ decimal right ∷ []) rest (item_clean (And own left right) t)

  pub item_lines : (items : List Item) (rest : List ℕ) → ((item : Item) → In items item → is_in_range h.variables item ≡ true) → lines (flat_map item_text items ++ rest) ≡ map item_row items ++ lines rest
  item_lines [] rest t = refl
  item_lines (item ∷ items) rest t = grind (arith, append_assoc, item_line, item_row, item_lines items rest (λ i j. t i (inr j)))

  pub header_clean : is_header h ≡ true → h.outputs < 2 ^ 64 → AllClean (header_words h)
  header_clean whole few =
      let s : h.inputs + h.latches + h.ands ≤ h.variables = (header_small h whole).sum in
      more_clean (codes "aag") (decimal h.variables ∷ decimal h.inputs ∷ decimal h.latches ∷ decimal h.outputs ∷ decimal h.ands ∷ []) (word_clean (codes "aag") (lit< tt) refl)
      (more_clean (decimal h.variables) (decimal h.inputs ∷ decimal h.latches ∷ decimal h.outputs ∷ decimal h.ands ∷ []) (decimal_clean h.variables (omega arith)) (more_clean (decimal h.inputs) (decimal h.latches ∷ decimal h.outputs ∷ decimal h.ands ∷ []) (decimal_clean h.inputs (omega arith)) (more_clean (decimal h.latches) (decimal h.outputs ∷ decimal h.ands ∷ []) (decimal_clean h.latches (omega arith))
      (more_clean (decimal h.outputs) (decimal h.ands ∷ []) (decimal_clean h.outputs few) (one_clean (decimal h.ands) (decimal_clean h.ands (omega arith)))))))

  pub header_back : is_header h ≡ true → h.outputs < 2 ^ 64 → (rows : List (List ℕ)) → header_in (row_of (header_words h) ∷ rows) ≡ Ok h
  header_back whole few rows =
      let s : h.inputs + h.latches + h.ands ≤ h.variables = (header_small h whole).sum in
      let v = number_back h.variables (omega arith) in let i = number_back h.inputs (omega arith) in let l = number_back h.latches (omega arith) in
      let o = number_back h.outputs few in let a = number_back h.ands (omega arith) in
      let numbers : numbers_of (decimal h.variables ∷ decimal h.inputs ∷ decimal h.latches ∷ decimal h.outputs ∷ decimal h.ands ∷ []) ≡ Some (h.variables ∷ h.inputs ∷ h.latches ∷ h.outputs ∷ h.ands ∷ []) = cc in
      ap header_of (words_back (codes "aag") (decimal h.variables ∷ decimal h.inputs ∷ decimal h.latches ∷ decimal h.outputs ∷ decimal h.ands ∷ []) (header_clean whole few))
      ∙ ap header_by numbers ∙ cond-true (is_header h) (Ok h) (Err aag_err.Header) whole
