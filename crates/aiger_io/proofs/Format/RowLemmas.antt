-- Words and lines as they are spelled: the number that a word is read as is the one that it spells, a line's words are those that one blank joins, and what a
-- header, an item or a symbol is read as is what its line spells.
use Rattle.aiger_io.proofs.Common.{◌≡◌, ◌⊎◌, ℕ, ◌≤◌, true, eqb, leb, List, [], ◌∷◌, length, Option, Some, None, Ok, Err, codes, inl, inr, refl, sym, ap, ◌∙◌, subst, arith, bytes_eq, bytes_decides, header_with, header_by, header_of, other_header, words_of, numbers_of, AagErr, Header, cond, true≢false, Bool, false, ◌||◌, join_with_byte, option_map, or_cases, or_right, cond-true, false_from_ne_true, In, one_number, init_of, latch_with, latch_of, and_with, and_of, item_of, number_of, IsNumber, AreNumbers, Item, Input, Latch, Output, And, LineKind, suc, ◌+◌, ◌<◌, get_or, drop, ◌++◌, length-append, length-drop, position_or_len, before_first, after_first, eqb-true, position_or_len_is, split_at_first, passes_at_first, take-append_seam, In-get_or, Symbol, IsLetterOf, IsSymbolRow, kind_of, symbol_by, symbol_with, symbol_of, nat_tests, some_then, le-leb, get_or-append, get_or-append_seam, rules, ◌-◌, ◌*◌, not, append_assoc, append-nil, list_all, slice_split_none, slice_split_at, join_with_byte-slice_split, is_digit, is_decimal, number_from, number_from-push, in_front, and_from, and_parts, or_left, not-true, not_from_false, leb-true, eqb-false, ne_eqb}
use Rattle.aiger_io.specs.AigerText.{is_header, header_numbers, IsNumbersRow, IsHeaderRow, IsLaterRow, kind_of_item, IsInit, IsLatchRow, IsItemRow, digit, more}
use Rattle.aiger_io.specs.declared.aag_err.AagErr.TheVariants as aag_err
use Rattle.aiger_io.proofs.LineLemmas.{chosen, five, ok_then, with_is}

digits_pushed : (ds : List ℕ) (d : ℕ) → list_all is_digit ds ≡ true → is_digit d ≡ true → list_all is_digit (ds ++ d ∷ []) ≡ true
digits_pushed [] d all one = and_from (is_digit d) true one refl
digits_pushed (b ∷ bs) d all one = let p = and_parts (is_digit b) (list_all is_digit bs) all in and_from (is_digit b) (list_all is_digit (bs ++ d ∷ [])) p.0 (digits_pushed bs d p.1 one)

digit_here : (n : ℕ) → n < 10 → is_digit (48 + n) ≡ true
digit_here n l = grind (arith, nat_tests)

-- what is known of a word that spells a number
record IsRead (word : List ℕ) (n : ℕ) : Type 0 where
  all : list_all is_digit word ≡ true
  value : number_from 0 word ≡ n
  form : is_decimal word ≡ true
  head : 0 < n → (b : ℕ) (bs : List ℕ) → word ≡ b ∷ bs → eqb b 48 ≡ false

more_read : (front : List ℕ) (m d : ℕ) → IsRead front m → 0 < m → d < 10 → IsRead (front ++ (48 + d) ∷ []) (10 * m + d)
more_read front m d k pos l = grind (arith, eqb, digits_pushed, digit_here, number_from-push, and_from, or_left, not_from_false)

is_read : {word : List ℕ} {n : ℕ} → IsNumber word n → IsRead word n
is_read {word} {n} (digit l e) = subst (λ w. IsRead w n) (sym e) (search (rules, digits_pushed, digit_here, and_from, eqb, or_right, ne_eqb))
is_read {word} {n} (more front m d k pos l e v) = subst (λ w. IsRead w n) (sym e) (subst (IsRead (front ++ (48 + d) ∷ [])) (sym v) (more_read front m d (is_read k) pos l))

pub number_is : (word : List ℕ) (n : ℕ) → IsNumber word n → number_of word ≡ Some n
number_is word n k = let r = is_read k in cond-true (is_decimal word) (Some (number_from 0 word)) None r.form ∙ ap (λ v. Some v) r.value

-- and back
spelled_from : (front : List ℕ) (m : ℕ) (bs : List ℕ) → IsNumber front m → 0 < m → list_all is_digit bs ≡ true → IsNumber (front ++ bs) (number_from m bs)
spelled_from front m [] is pos all = subst (λ w. IsNumber w m) (sym (append-nil front)) is
spelled_from front m (b ∷ bs) is pos all =
    let p = and_parts (is_digit b) (list_all is_digit bs) all in
    let q = and_parts (leb 48 b) (leb b 57) p.0 in
    let low : 48 ≤ b = leb-true 48 b q.0 in
    let high : b ≤ 57 = leb-true b 57 q.1 in
    let same : b ≡ 48 + (b - 48) = omega arith in
    grind (arith, append_assoc, spelled_from (front ++ b ∷ []) (10 * m + (b - 48)) bs (more front m (b - 48) is pos (omega arith) (ap (λ x. front ++ x ∷ []) same) refl) (omega arith) p.1)

only : (b : ℕ) (bs : List ℕ) → IsNumber (b ∷ []) (10 * 0 + (b - 48)) → length bs ≡ 0 → IsNumber (b ∷ bs) (number_from (10 * 0 + (b - 48)) bs)
only b [] one z = one
only b (x ∷ xs) one z = absurd (omega arith)

spelled : (word : List ℕ) → is_decimal word ≡ true → IsNumber word (number_from 0 word)
spelled [] e = absurd (cc)
spelled (b ∷ bs) e =
    let p = and_parts (list_all is_digit (b ∷ bs)) (not (eqb b 48) || eqb (length bs) 0) e in
    let a = and_parts (is_digit b) (list_all is_digit bs) p.0 in
    let q = and_parts (leb 48 b) (leb b 57) a.0 in
    let low : 48 ≤ b = leb-true 48 b q.0 in
    let high : b ≤ 57 = leb-true b 57 q.1 in
    let one : IsNumber (b ∷ []) (10 * 0 + (b - 48)) = digit (omega arith) (ap (λ x. x ∷ []) (omega arith)) in
    elim (or_cases (not (eqb b 48)) (eqb (length bs) 0) p.1) [
      | inl t ↦ (let ne : b ≡ 48 → ⊥ = eqb-false b 48 (not-true (eqb b 48) t) in spelled_from (b ∷ []) (10 * 0 + (b - 48)) bs one (omega (arith, ne)) a.1)
      | inr t ↦ only b bs one (eqb-true (length bs) 0 t)
    ]

pub number_spells : (word : List ℕ) (n : ℕ) → number_of word ≡ Some n → IsNumber word n
number_spells word n e = grind (arith, some_then, spelled)

-- numbers, one by one
pub numbers_are : (words : List (List ℕ)) (numbers : List ℕ) → AreNumbers words numbers → numbers_of words ≡ Some numbers
numbers_are [] [] are = refl
numbers_are (w ∷ ws) (n ∷ ns) are = ap (λ o. in_front o (numbers_of ws)) (number_is w n are.0) ∙ ap (in_front (Some n)) (numbers_are ws ns are.1)
numbers_are words numbers are = absurd are

front_spells : (w : List ℕ) (ws : List (List ℕ)) (o : Option ℕ) (os : Option (List ℕ)) (numbers : List ℕ) → number_of w ≡ o → ((ns : List ℕ) → os ≡ Some ns → AreNumbers ws ns) → in_front o os ≡ Some numbers → AreNumbers (w ∷ ws) numbers
front_spells w ws o os numbers is later e = grind (arith, number_spells)

pub numbers_spell : (words : List (List ℕ)) (numbers : List ℕ) → numbers_of words ≡ Some numbers → AreNumbers words numbers
numbers_spell [] [] e = tt
numbers_spell [] (n ∷ ns) e = absurd (cc)
numbers_spell (w ∷ ws) numbers e = front_spells w ws (number_of w) (numbers_of ws) numbers refl (λ ns is. numbers_spell ws ns is) e

-- no blank stands in a number
abbrev pub HasNoBlank : List ℕ → Type 0
HasNoBlank word = (b : ℕ) → In word b → eqb b 32 ≡ false

no_blanks : (ds : List ℕ) → list_all is_digit ds ≡ true → HasNoBlank ds
no_blanks [] all b i = absurd i
no_blanks (d ∷ ds) all b (inl e) = grind (arith, and_parts, leb, leb-true, ne_eqb)
no_blanks (d ∷ ds) all b (inr i) = no_blanks ds (and_parts (is_digit d) (list_all is_digit ds) all).1 b i

pub number_blank : (word : List ℕ) (n : ℕ) → IsNumber word n → HasNoBlank word
number_blank word n k = no_blanks word (is_read k).all

pub numbers_blank : (words : List (List ℕ)) (numbers : List ℕ) → AreNumbers words numbers → (w : List ℕ) → In words w → HasNoBlank w
numbers_blank (x ∷ xs) (n ∷ ns) are w (inl e) = subst HasNoBlank (sym e) (number_blank x n are.0)
numbers_blank (x ∷ xs) (n ∷ ns) are w (inr i) = numbers_blank xs ns are.1 w i
numbers_blank words numbers are w i = search rules

-- the words that one blank joins are the line's
pub joined_words : (w : List ℕ) (ws : List (List ℕ)) → ((v : List ℕ) → In (w ∷ ws) v → HasNoBlank v) → words_of (join_with_byte 32 (w ∷ ws)) ≡ w ∷ ws
joined_words w [] none = slice_split_none (λ b. eqb b 32) w (λ k d l. none w (inl refl) (get_or w k d) (In-get_or w k d l))
joined_words w (x ∷ xs) none =
    slice_split_at (λ b. eqb b 32) w 32 (join_with_byte 32 (x ∷ xs)) (λ k d l. none w (inl refl) (get_or w k d) (In-get_or w k d l)) refl
    ∙ ap (λ l. w ∷ l) (joined_words x xs (λ v i. none v (inr i)))

pub words_joined : (row : List ℕ) (words : List (List ℕ)) → words_of row ≡ words → row ≡ join_with_byte 32 words
words_joined row words e = sym (join_with_byte-slice_split 32 row) ∙ ap (join_with_byte 32) e

aag_blank : HasNoBlank (codes "aag")
aag_blank b e = grind (arith, eqb)

row_words : (row : List ℕ) (numbers : List ℕ) (r : IsNumbersRow row numbers) → words_of row ≡ codes "aag" ∷ r.words
row_words row numbers r = ap words_of r.row_is ∙ joined_words (codes "aag") r.words (λ w i. elim i [ inl e ↦ subst HasNoBlank (sym e) aag_blank | inr j ↦ numbers_blank r.words numbers r.are w j ])

row_read : (row : List ℕ) (numbers : List ℕ) → IsNumbersRow row numbers → header_of (words_of row) ≡ header_with numbers
row_read row numbers r =
    ap header_of (row_words row numbers r)
    ∙ cond-true (bytes_eq (codes "aag") (codes "aag")) (header_by (numbers_of r.words)) (Err aag_err.Header) ((bytes_decides (codes "aag") (codes "aag")).1 refl)
    ∙ ap header_by (numbers_are r.words numbers r.are)

pub header_row_is : (row : List ℕ) (h : Header) → IsHeaderRow row h → header_of (words_of row) ≡ Ok h
header_row_is row h r = row_read row (header_numbers h) r.numbers ∙ cond-true (is_header h) (Ok h) (Err aag_err.Header) r.whole

pub later_row_is : (row : List ℕ) → IsLaterRow row → header_of (words_of row) ≡ Err aag_err.Unsupported
later_row_is row r = row_read row r.numbers r.are ∙ grind (arith, le-leb)

-- an error of the header is one of two
record IsMany (numbers : List ℕ) : Type 0 where
  least : 6 ≤ length numbers
  most : length numbers ≤ 9

data IsHeaderError (numbers : List ℕ) (e : AagErr) : Type 0 where
  bad : e ≡ aag_err.Header → IsHeaderError numbers e
  later : e ≡ aag_err.Unsupported → IsMany numbers → IsHeaderError numbers e

other_error : (ns : List ℕ) (e : AagErr) → other_header ns ≡ e → IsHeaderError ns e
other_error ns e is = search (rules, chosen, leb, nat_tests)

with_error : (ns : List ℕ) (e : AagErr) → header_with ns ≡ Err e → IsHeaderError ns e
with_error ns e is = grind (arith, chosen, five, other_error)

-- so of a line
spelled_row : (row : List ℕ) (w : List ℕ) (ws : List (List ℕ)) (numbers : List ℕ) → words_of row ≡ w ∷ ws → bytes_eq w (codes "aag") ≡ true → numbers_of ws ≡ Some numbers → IsNumbersRow row numbers
spelled_row row w ws numbers is t are = record {
  words = ws;
  row_is = words_joined row (codes "aag" ∷ ws) (is ∙ ap (λ x. x ∷ ws) ((bytes_decides w (codes "aag")).0 t));
  are = numbers_spell ws numbers are;
}

by_is : (row w : List ℕ) (ws : List (List ℕ)) (o : Option (List ℕ)) (h : Header) → words_of row ≡ w ∷ ws → bytes_eq w (codes "aag") ≡ true → numbers_of ws ≡ o → header_by o ≡ Ok h → IsHeaderRow row h
by_is row w ws o h is t are e = grind (arith, with_is, spelled_row)

header_words : (row : List ℕ) (words : List (List ℕ)) (h : Header) → words_of row ≡ words → header_of words ≡ Ok h → IsHeaderRow row h
header_words row words h is e = grind (arith, ok_then, codes, by_is)

pub is_header_row : (row : List ℕ) (h : Header) → header_of (words_of row) ≡ Ok h → IsHeaderRow row h
is_header_row row h e = header_words row (words_of row) h refl e

-- and of its refusal
by_error : (row w : List ℕ) (ws : List (List ℕ)) (o : Option (List ℕ)) (e : AagErr) → words_of row ≡ w ∷ ws → bytes_eq w (codes "aag") ≡ true → numbers_of ws ≡ o → header_by o ≡ Err e → (e ≡ aag_err.Header) ⊎ ((e ≡ aag_err.Unsupported) × IsLaterRow row)
by_error row w ws o e is t are made = grind (arith, with_error, made, spelled_row)

error_words : (row : List ℕ) (words : List (List ℕ)) (e : AagErr) → words_of row ≡ words → header_of words ≡ Err e → (e ≡ aag_err.Header) ⊎ ((e ≡ aag_err.Unsupported) × IsLaterRow row)
error_words row words e is made = grind (arith, chosen, codes, made, by_error)

pub header_error : (row : List ℕ) (e : AagErr) → header_of (words_of row) ≡ Err e → (e ≡ aag_err.Header) ⊎ ((e ≡ aag_err.Unsupported) × IsLaterRow row)
header_error row e made = error_words row (words_of row) e refl made

one_word_row : (row : List ℕ) (n : ℕ) → IsNumber row n → words_of row ≡ row ∷ []
one_word_row row n k = joined_words row [] (λ v i. elim i [ inl e ↦ subst HasNoBlank (sym e) (number_blank row n k) | inr j ↦ absurd j ])

digit_blank : (d : ℕ) → eqb d 32 ≡ false → HasNoBlank (d ∷ [])
digit_blank d f b e = grind (arith, eqb)

-- the init of a latch
init_blank : (own : List ℕ) (init : Bool) (words : List (List ℕ)) → HasNoBlank own → IsInit own init words → (v : List ℕ) → In words v → HasNoBlank v
init_blank own init words clean e v i = grind (arith, digit_blank)

own_init : (own : List ℕ) → (own ≡ codes "1" → ⊥) → init_of own own ≡ Some false
own_init own ne = cc (false_from_ne_true (bytes_eq own (codes "1")) (λ t. ne ((bytes_decides own (codes "1")).0 t)), or_right (bytes_eq own (codes "0")) (bytes_eq own own) ((bytes_decides own own).1 refl))

latch_read : (own_text next_text : List ℕ) (own next : ℕ) (init : Bool) (words : List (List ℕ)) → number_of own_text ≡ Some own → number_of next_text ≡ Some next → IsInit own_text init words → latch_of (own_text ∷ next_text ∷ words) ≡ Some (Latch own next init)
latch_read own_text next_text own next init words p q e = grind (arith, own_init)

gate_read : (words : List (List ℕ)) (own left right : ℕ) → AreNumbers words (own ∷ left ∷ right ∷ []) → and_of words ≡ Some (And own left right)
gate_read words own left right are = grind (arith, number_is)

gate_words : (row : List ℕ) (words : List (List ℕ)) (own left right : ℕ) → row ≡ join_with_byte 32 words → AreNumbers words (own ∷ left ∷ right ∷ []) → words_of row ≡ words
gate_words row [] own left right e are = absurd are
gate_words row (w ∷ ws) own left right e are = ap words_of e ∙ joined_words w ws (numbers_blank (w ∷ ws) (own ∷ left ∷ right ∷ []) are)

latch_words : (row : List ℕ) (own next : ℕ) (init : Bool) (r : IsLatchRow row own next init) → words_of row ≡ r.own_word ∷ r.next_word ∷ r.init_words
latch_words row own next init r = ap words_of r.row_is ∙ joined_words r.own_word (r.next_word ∷ r.init_words) (λ v i. elim i [
  | inl e ↦ subst HasNoBlank (sym e) (number_blank r.own_word own r.own_is)
  | inr j ↦ elim j [
    | inl e ↦ subst HasNoBlank (sym e) (number_blank r.next_word next r.next_is)
    | inr m ↦ init_blank r.own_word init r.init_words (number_blank r.own_word own r.own_is) r.init_is v m
  ]
])

pub item_read : (row : List ℕ) (item : Item) → IsItemRow row item → item_of (kind_of_item item) (words_of row) ≡ Some item
item_read row (Input own) is = ap (λ ws. option_map (λ (l : ℕ). Input l) (one_number ws)) (one_word_row row own is) ∙ ap (option_map (λ (l : ℕ). Input l)) (number_is row own is)
item_read row (Latch own next init) is =
    ap latch_of (latch_words row own next init is) ∙ latch_read is.own_word is.next_word own next init is.init_words (number_is is.own_word own is.own_is) (number_is is.next_word next is.next_is) is.init_is
item_read row (Output l) is = ap (λ ws. option_map (λ (n : ℕ). Output n) (one_number ws)) (one_word_row row l is) ∙ ap (option_map (λ (n : ℕ). Output n)) (number_is row l is)
item_read row (And own left right) is = ap and_of (gate_words row is.words own left right is.row_is is.are) ∙ gate_read is.words own left right is.are

-- and back
made : (row : List ℕ) (first item : Item) → IsItemRow row first → Some first ≡ Some item → IsItemRow row item
made row first item is e = let q : first ≡ item = cc in subst (IsItemRow row) q is

one_number_form : (row w : List ℕ) (make : ℕ → Item) (item : Item) (o : Option ℕ) → words_of row ≡ w ∷ [] → number_of w ≡ o → ((n : ℕ) → IsNumber row n → IsItemRow row (make n)) → option_map make o ≡ Some item → IsItemRow row item
one_number_form row w make item None is p row_is q = absurd (cc)
one_number_form row w make item (Some n) is p row_is q = made row (make n) item (row_is n (subst (λ r. IsNumber r n) (sym (words_joined row (w ∷ []) is)) (number_spells w n p))) q

one_form : (row : List ℕ) (make : ℕ → Item) (words : List (List ℕ)) (item : Item) → words_of row ≡ words → ((n : ℕ) → IsNumber row n → IsItemRow row (make n)) → option_map make (one_number words) ≡ Some item → IsItemRow row item
one_form row make words item is row_is e = grind (arith, one_number_form)

zero_init : (own word : List ℕ) → bytes_eq word (codes "1") ≡ false → (bytes_eq word (codes "0") ≡ true) ⊎ (bytes_eq word own ≡ true) → IsInit own false (word ∷ [])
zero_init own word f e = search (rules, codes, true≢false)

other_init : (own word : List ℕ) (init : Bool) → bytes_eq word (codes "1") ≡ false → cond (bytes_eq word (codes "0") || bytes_eq word own) (Some false) None ≡ Some init → IsInit own init (word ∷ [])
other_init own word init f s = grind (arith, some_then, codes, zero_init, or_cases)

init_form : (own word : List ℕ) (init : Bool) → init_of own word ≡ Some init → IsInit own init (word ∷ [])
init_form own word init e = search (rules, chosen, codes, other_init)

latch_form : (row a b : List ℕ) (words : List (List ℕ)) (x y : Option ℕ) (z : Option Bool) (item : Item) → words_of row ≡ a ∷ b ∷ words → number_of a ≡ x → number_of b ≡ y → ((init : Bool) → z ≡ Some init → IsInit a init words) → latch_with x y z ≡ Some item → IsItemRow row item
latch_form row a b words (Some own) (Some next) (Some bit) item is p q init e = search (rules, made, words_joined, number_spells)
latch_form row a b words x y z item is p q init e = absurd (cc)

latches_form : (row : List ℕ) (words : List (List ℕ)) (item : Item) → words_of row ≡ words → latch_of words ≡ Some item → IsItemRow row item
latches_form row words item is e = grind (arith, latch_form, init_form)

gate_form : (row a b c : List ℕ) (x y z : Option ℕ) (item : Item) → words_of row ≡ a ∷ b ∷ c ∷ [] → number_of a ≡ x → number_of b ≡ y → number_of c ≡ z → and_with x y z ≡ Some item → IsItemRow row item
gate_form row a b c (Some own) (Some left) (Some right) item is p q r e =
    made row (And own left right) item (record { words = a ∷ b ∷ c ∷ []; row_is = words_joined row (a ∷ b ∷ c ∷ []) is; are = (number_spells a own p, (number_spells b left q, (number_spells c right r, tt))) }) e
gate_form row a b c x y z item is p q r e = absurd (cc)

gates_form : (row : List ℕ) (words : List (List ℕ)) (item : Item) → words_of row ≡ words → and_of words ≡ Some item → IsItemRow row item
gates_form row words item is e = grind (arith, gate_form)

pub item_spelled : (row : List ℕ) (k : LineKind) (item : Item) → item_of k (words_of row) ≡ Some item → IsItemRow row item
item_spelled row k item e = grind (arith, one_form, latches_form, gates_form)

drop_behind : (w ys : List ℕ) (b : ℕ) → drop (suc (length w)) (w ++ b ∷ ys) ≡ ys
drop_behind [] ys b = refl
drop_behind (x ∷ w) ys b = drop_behind w ys b

blank_at : (w rest : List ℕ) → HasNoBlank w → position_or_len (λ b. eqb b 32) (w ++ 32 ∷ rest) ≡ length w
blank_at w rest clean = position_or_len_is (λ b. eqb b 32) (w ++ 32 ∷ rest) (length w) 0 (omega (arith, length-append w (32 ∷ rest)))
    (λ k l. ap (λ b. eqb b 32) (get_or-append w (32 ∷ rest) 0 k l) ∙ clean (get_or w k 0) (In-get_or w k 0 l)) (λ l. ap (λ b. eqb b 32) (get_or-append_seam w 32 rest 0))

-- a line with a blank is what stands before it and what stands behind it
pub symbol_split : (key name : List ℕ) → HasNoBlank key → symbol_of (key ++ 32 ∷ name) ≡ symbol_with key name
symbol_split key name clean =
    let at : position_or_len (λ b. eqb b 32) (key ++ 32 ∷ name) ≡ length key = blank_at key name clean in
    grind (arith, take-append_seam, drop_behind)

letter_read : (k : LineKind) (letter : ℕ) → IsLetterOf k letter → kind_of letter ≡ Some k
letter_read k letter e = grind (arith, nat_tests)

letter_blank : (k : LineKind) (letter : ℕ) → IsLetterOf k letter → eqb letter 32 ≡ false
letter_blank k letter e = grind (arith, nat_tests)

key_blank : (letter : ℕ) (digits : List ℕ) → eqb letter 32 ≡ false → HasNoBlank digits → HasNoBlank (letter ∷ digits)
key_blank letter digits f clean b e = grind (arith, eqb)

parts_read : (letter : ℕ) (digits name : List ℕ) (k : LineKind) (n : ℕ) → kind_of letter ≡ Some k → number_of digits ≡ Some n → 0 < length name → symbol_with (letter ∷ digits) name ≡ Some (record { kind = k; ordinal = n; name = name })
parts_read letter digits name k n p q some = grind arith

pub symbol_read : (row : List ℕ) (s : Symbol) → IsSymbolRow row s → symbol_of row ≡ Some s
symbol_read row s r =
    ap symbol_of r.row_is
    ∙ symbol_split (r.letter ∷ r.digits) s.name (key_blank r.letter r.digits (letter_blank s.kind r.letter r.letter_is) (number_blank r.digits s.ordinal r.ordinal_is))
    ∙ parts_read r.letter r.digits s.name s.kind s.ordinal (letter_read s.kind r.letter r.letter_is) (number_is r.digits s.ordinal r.ordinal_is) r.some

-- and back
letter_is : (letter : ℕ) (k : LineKind) → kind_of letter ≡ Some k → IsLetterOf k letter
letter_is letter k e = grind (arith, nat_tests)

-- what the two sides of a blank say
record AreParts (key name : List ℕ) (s : Symbol) : Type 0 where
  letter : ℕ
  digits : List ℕ
  key_is : key ≡ letter ∷ digits
  name_is : name ≡ s.name
  letter_is : IsLetterOf s.kind letter
  ordinal_is : IsNumber digits s.ordinal
  some : 0 < length s.name

by_parts : (letter : ℕ) (digits name : List ℕ) (o : Option ℕ) (k : Option LineKind) (s : Symbol) → 0 < length name → number_of digits ≡ o → kind_of letter ≡ k → symbol_by name o k ≡ Some s → AreParts (letter ∷ digits) name s
by_parts letter digits name o k s some p q e = grind (arith, letter_is, number_spells)

parts_are : (key name : List ℕ) (s : Symbol) → symbol_with key name ≡ Some s → AreParts key name s
parts_are key name s e = grind (arith, by_parts)

pub symbol_spelled : (row : List ℕ) (s : Symbol) → symbol_of row ≡ Some s → IsSymbolRow row s
symbol_spelled row s e =
    let p = parts_are (before_first (λ b. eqb b 32) row) (after_first (λ b. eqb b 32) row) s e in
    let within : position_or_len (λ b. eqb b 32) row < length row = omega (arith, ap length p.name_is, length-drop (position_or_len (λ b. eqb b 32) row + 1) row) in
    let blank : get_or row (position_or_len (λ b. eqb b 32) row) 0 ≡ 32 = eqb-true (get_or row (position_or_len (λ b. eqb b 32) row) 0) 32 (passes_at_first (λ b. eqb b 32) row 0 within) in
    record {
      letter = p.letter;
      digits = p.digits;
      row_is = split_at_first (λ b. eqb b 32) row 0 within ∙ ap (λ c. before_first (λ b. eqb b 32) row ++ c ∷ after_first (λ b. eqb b 32) row) blank
          ∙ ap (λ k. k ++ 32 ∷ after_first (λ b. eqb b 32) row) p.key_is ∙ ap (λ x. (p.letter ∷ p.digits) ++ 32 ∷ x) p.name_is;
      letter_is = p.letter_is;
      ordinal_is = p.ordinal_is;
      some = p.some;
    }
