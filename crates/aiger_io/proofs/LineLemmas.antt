-- The header, the items and the symbols line by line, with numbers that are read up to a greatest one: what is in range is read as it stands,
-- and what isn't stays out of range. A text that is a circuit, taken apart; and what the calls return that read it.
use Rattle.aiger_io.proofs.Common.{◌≡◌, ◌⊎◌, ℕ, ◌+◌, ◌<◌, ◌≤◌, Bool, true, cond, leb, List, [], ◌∷◌, map, Option, Some, None, Result, Ok, Err, inl, inr, refl, sym, ap, ◌∙◌, subst, arith, length-map, option_map, capped, capped_numbers, capped_header, capped_result, is_header, header_with, header_by, number_of, numbers_of, in_front, AagErr, Header, ◌++◌, length, drop, append_assoc, slice_get, drop_get, capped_number, false, ltb, length-append, capped_item, item_count, is_literal, is_variable, is_in_range, item_of, item_with, item_at, items_from, words_of, and_then, Item, bytes_eq, codes, le-ltb, and_left, cond-true, cond-false, cases_lt, set_length, capped_symbol, named_count, Malformed, BadSymbol, LineKind, nat_tests, header_numbers, Symbol, SymbolsValue, count_of, may_stand, with_symbol, symbol_of, symbol_at, symbols_from, leb-true, le-leb, and_parts, lt-leb, lines, Circuit, circuit_with, unless, named_circuit, circuit_behind, circuit_under, circuit_of, header_of, header_in, first_twice, no_symbols, get_or, Bor, MatchResult, LibraryValue, OrMemory, IsHeaderOf, named_behind, circuit_in, IsLibraryIn, library_of, refusal_of, rules}
use Rattle.aiger_io.specs.declared.aag_err.AagErr.TheVariants as aag_err

-- an answer tells which way a test went
pub ok_then : {V E : Type 0} (b : Bool) (r : Result V E) (e : E) (y : V) → cond b r (Err e) ≡ Ok y → (b ≡ true) × (r ≡ Ok y)
ok_then b r e y is = grind arith

pub chosen : {X : Type 0} (b : Bool) (x y z : X) → cond b x y ≡ z → ((b ≡ true) × (x ≡ z)) ⊎ ((b ≡ false) × (y ≡ z))
chosen b x y z e = grind arith

-- what is answered behind a result
pub record IsBehind {V W E : Type 0} (f : V → Result W E) (r : Result V E) (y : W) : Type 0 where
  pub first : V
  pub is : r ≡ Ok first
  pub then_is : f first ≡ Ok y

pub behind_of : {V W E : Type 0} (f : V → Result W E) (r : Result V E) (y : W) → and_then f r ≡ Ok y → IsBehind f r y
behind_of f (Ok x) y e = record { first = x; is = refl; then_is = e }
behind_of f (Err x) y e = absurd (cc)

-- numbers
front_capped : (o : Option ℕ) (os : Option (List ℕ)) → in_front (option_map capped o) (option_map (map capped) os) ≡ option_map (map capped) (in_front o os)
front_capped o os = grind arith

pub numbers_capped : (words : List (List ℕ)) → capped_numbers words ≡ option_map (map capped) (numbers_of words)
numbers_capped [] = refl
numbers_capped (word ∷ words) = ap (in_front (option_map capped (number_of word))) (numbers_capped words) ∙ front_capped (number_of word) (numbers_of words)

-- headers
pub record IsWhole (m i l a : ℕ) : Type 0 where
  pub most : m ≤ 1073741824
  pub sum : i + l + a ≤ m

abbrev pub five : ℕ → ℕ → ℕ → ℕ → ℕ → Header
five m i l o a = record { variables = m; inputs = i; latches = l; outputs = o; ands = a }

pub header_small : (h : Header) → is_header h ≡ true → IsWhole h.variables h.inputs h.latches h.ands
header_small h t = record { most = grind (arith, nat_tests); sum = grind (arith, nat_tests) }

five_capped : (m i l o a : ℕ) → header_with (capped m ∷ capped i ∷ capped l ∷ capped o ∷ capped a ∷ []) ≡ capped_result (header_with (m ∷ i ∷ l ∷ o ∷ a ∷ []))
five_capped m i l o a = grind (arith, nat_tests)

with_capped : (ns : List ℕ) → header_with (map capped ns) ≡ capped_result (header_with ns)
with_capped ns = grind (arith, five_capped, cond, leb, length-map)

by_capped : (o : Option (List ℕ)) → header_by (option_map (map capped) o) ≡ capped_result (header_by o)
by_capped o = grind (arith, with_capped)

pub header_capped : (words : List (List ℕ)) → header_by (capped_numbers words) ≡ capped_result (header_by (numbers_of words))
header_capped words = ap header_by (numbers_capped words) ∙ by_capped (numbers_of words)

-- what was read is a header
pub record IsOfNumbers (numbers : List ℕ) (h : Header) : Type 0 where
  pub are : numbers ≡ header_numbers h
  pub whole : is_header h ≡ true

pub with_is : (ns : List ℕ) (h : Header) → header_with ns ≡ Ok h → IsOfNumbers ns h
with_is ns h e = grind (arith, ok_then, five)

pub by_whole : (o : Option (List ℕ)) (h : Header) → header_by o ≡ Ok h → is_header h ≡ true
by_whole o h e = grind (arith, with_is)

-- numbers behind others
abbrev pub behind : List ℕ → Option (List ℕ) → Option (List ℕ)
behind ns None = None
behind ns (Some more) = Some (ns ++ more)

one_front : (ns : List ℕ) (n : ℕ) (o : Option (List ℕ)) → behind (ns ++ n ∷ []) o ≡ behind ns (in_front (Some n) o)
one_front ns n o = grind (arith, append_assoc)

module _ (words : List (List ℕ)) (i : ℕ) (word ns : List ℕ) where
  pub number_next : (n : ℕ) → slice_get words i ≡ Some word → capped_number word ≡ Some n → behind ns (capped_numbers (drop i words)) ≡ capped_numbers words → behind (ns ++ n ∷ []) (capped_numbers (drop (i + 1) words)) ≡ capped_numbers words
  number_next n at is so_far =
      one_front ns n (capped_numbers (drop (i + 1) words)) ∙ ap (λ o. behind ns (in_front o (capped_numbers (drop (i + 1) words)))) (sym is) ∙ ap (λ l. behind ns (capped_numbers l)) (sym (drop_get words i word at)) ∙ so_far

  pub number_stop : slice_get words i ≡ Some word → capped_number word ≡ None → behind ns (capped_numbers (drop i words)) ≡ capped_numbers words → capped_numbers words ≡ None
  number_stop at is so_far = grind (arith, behind, drop_get)

-- a literal is in range where it is as it is read, and is then read as it stands
module _ (most : ℕ) (small : most ≤ 1073741824) where
  literal_same : (l : ℕ) → is_literal most (capped l) ≡ true → capped l ≡ l
  literal_same l t = grind (arith, nat_tests)

  literal_test : (l : ℕ) → is_literal most (capped l) ≡ is_literal most l
  literal_test l = grind (arith, nat_tests)

  variable_same : (l : ℕ) → is_variable most (capped l) ≡ true → capped l ≡ l
  variable_same l t = grind (arith, nat_tests)

  variable_test : (l : ℕ) → is_variable most (capped l) ≡ is_variable most l
  variable_test l = grind (arith, nat_tests)

  pub range_test : (item : Item) → is_in_range most (capped_item item) ≡ is_in_range most item
  range_test item = grind (arith, variable_test, literal_test)

  pub range_same : (item : Item) → is_in_range most (capped_item item) ≡ true → capped_item item ≡ item
  range_same item t = grind (arith, variable_same, and_parts, literal_same)

  -- so the line at a place is what was read of it, or is refused
  pub item_good : (place : ℕ) (o : Option Item) (found : Item) → Some found ≡ option_map capped_item o → is_in_range most found ≡ true → item_with most place o ≡ Ok found
  item_good place o found e t = grind (arith, cond-true, range_test, range_same)

  pub item_out : (place : ℕ) (o : Option Item) (found : Item) → Some found ≡ option_map capped_item o → is_in_range most found ≡ false → item_with most place o ≡ Err (aag_err.Range (place + 2))
  item_out place o found e t = grind (arith, cond-false, range_test)

  pub item_bad : (place : ℕ) (o : Option Item) → None ≡ option_map capped_item o → item_with most place o ≡ Err (aag_err.Malformed (place + 2))
  item_bad place o e = grind arith

-- all lines, one after another
module _ (h : Header) where
  pub items_full : (items : List Item) (rows : List (List ℕ)) → item_count h ≤ length items → items_from h items rows ≡ Ok items
  items_full items [] l = cond-true (leb (item_count h) (length items)) (Ok items) (Err (aag_err.Malformed (length items + 2))) (le-leb (item_count h) (length items) l)
  items_full items (row ∷ rows) l = cond-true (leb (item_count h) (length items)) (Ok items) (and_then (λ (item : Item). items_from h (items ++ item ∷ []) rows) (item_at h (length items) row)) (le-leb (item_count h) (length items) l)

  pub items_end : (items : List Item) → length items < item_count h → items_from h items [] ≡ Err (aag_err.Malformed (length items + 2))
  items_end items l = cond-false (leb (item_count h) (length items)) (Ok items) (Err (aag_err.Malformed (length items + 2))) (lt-leb (item_count h) (length items) l)

  items_go : (items : List Item) (row : List ℕ) (rows : List (List ℕ)) → length items < item_count h → items_from h items (row ∷ rows) ≡ and_then (λ (item : Item). items_from h (items ++ item ∷ []) rows) (item_at h (length items) row)
  items_go items row rows l = cond-false (leb (item_count h) (length items)) (Ok items) (and_then (λ (item : Item). items_from h (items ++ item ∷ []) rows) (item_at h (length items) row)) (lt-leb (item_count h) (length items) l)

  pub items_next : (items : List Item) (row : List ℕ) (rows : List (List ℕ)) (item : Item) → length items < item_count h → item_at h (length items) row ≡ Ok item → items_from h items (row ∷ rows) ≡ items_from h (items ++ item ∷ []) rows
  items_next items row rows item l e = items_go items row rows l ∙ ap (and_then (λ (i : Item). items_from h (items ++ i ∷ []) rows)) e

  pub items_stop : (items : List Item) (row : List ℕ) (rows : List (List ℕ)) (e : AagErr) → length items < item_count h → item_at h (length items) row ≡ Err e → items_from h items (row ∷ rows) ≡ Err e
  items_stop items row rows e l is = items_go items row rows l ∙ ap (and_then (λ (i : Item). items_from h (items ++ i ∷ []) rows)) is

-- the same, where the place is told by another number
module _ (h : Header) (items : List Item) (row : List ℕ) (rows : List (List ℕ)) (n : ℕ) (same : n ≡ length items) (more : length items < item_count h) where
  pub items_next_at : (item : Item) → item_at h n row ≡ Ok item → items_from h items (row ∷ rows) ≡ items_from h (items ++ item ∷ []) rows
  items_next_at item is = items_next h items row rows item more (subst (λ m. item_at h m row ≡ Ok item) same is)

  pub items_stop_at : (e : AagErr) → item_at h n row ≡ Err e → items_from h items (row ∷ rows) ≡ Err e
  items_stop_at e is = items_stop h items row rows e more (subst (λ m. item_at h m row ≡ Err e) same is)

-- as many as the header says, and no more than there are lines
pub record AreAllItems (h : Header) (before rows : ℕ) (items : List Item) : Type 0 where
  pub count : length items ≡ item_count h
  pub within : length items ≤ before + rows

module _ (h : Header) where
  pub items_all : (items all : List Item) (rows : List (List ℕ)) → length items ≤ item_count h → items_from h items rows ≡ Ok all → AreAllItems h (length items) (length rows) all
  items_all items all [] m e = grind (arith, ok_then, leb, leb-true)
  items_all items all (row ∷ rows) m e = elim (chosen (leb (item_count h) (length items)) (Ok items) (and_then (λ (item : Item). items_from h (items ++ item ∷ []) rows) (item_at h (length items) row)) (Ok all) e) [
    | inl t ↦ (
        let l : item_count h ≤ length items = leb-true (item_count h) (length items) t.0 in
        let same : items ≡ all = cc in subst (AreAllItems h (length items) (length (row ∷ rows))) same (record { count = omega arith; within = omega arith }))
    | inr t ↦ (
        let b = behind_of (λ (item : Item). items_from h (items ++ item ∷ []) rows) (item_at h (length items) row) all t.1 in
        let l : leb (item_count h) (length items) ≡ false = t.0 in
        let n : length (items ++ b.first ∷ []) ≡ length items + length {A = Item} (b.first ∷ []) = length-append items (b.first ∷ []) in
        let q = items_all (items ++ b.first ∷ []) all rows (grind (arith, nat_tests)) b.then_is in
        let w : length all ≤ length (items ++ b.first ∷ []) + length rows = q.within in record { count = q.count; within = omega arith })
  ]

-- a header that says more outputs than there can be lines reads the lines alike
module _ (h : Header) where
  count_same : (n : ℕ) → n < 4294967295 → leb (item_count (capped_header h)) n ≡ leb (item_count h) n
  count_same n l = grind (arith, nat_tests)

  item_same : (n : ℕ) (row : List ℕ) → n < 4294967295 → item_at (capped_header h) n row ≡ item_at h n row
  item_same n row l = ap (λ k. item_with h.variables n (item_of k (words_of row))) (grind (arith, nat_tests))

  behind_same : (items : List Item) (rows : List (List ℕ)) (r : Result Item AagErr)
      → ((item : Item) → items_from (capped_header h) (items ++ item ∷ []) rows ≡ items_from h (items ++ item ∷ []) rows)
      → and_then (λ (item : Item). items_from (capped_header h) (items ++ item ∷ []) rows) r ≡ and_then (λ (item : Item). items_from h (items ++ item ∷ []) rows) r
  behind_same items rows r later = grind arith

  pub items_same : (items : List Item) (rows : List (List ℕ)) → length items + length rows < 4294967295 → items_from (capped_header h) items rows ≡ items_from h items rows
  items_same items [] l = ap (λ b. cond b (Ok items) (Err (aag_err.Malformed (length items + 2)))) (count_same (length items) (omega arith))
  items_same items (row ∷ rows) l =
      ap (λ b. cond b (Ok items) (and_then (λ (item : Item). items_from (capped_header h) (items ++ item ∷ []) rows) (item_at (capped_header h) (length items) row))) (count_same (length items) (omega arith))
      ∙ ap (λ r. cond (leb (item_count h) (length items)) (Ok items) r)
      (ap (and_then (λ (item : Item). items_from (capped_header h) (items ++ item ∷ []) rows)) (item_same (length items) row (omega arith))
      ∙ behind_same items rows (item_at h (length items) row) (λ item. items_same (items ++ item ∷ []) rows (omega (arith, length-append items (item ∷ [])))))

count_within : (h : Header) (k : LineKind) → count_of h k ≤ named_count h
count_within h k = grind arith

module _ (h : Header) (few : named_count h < 4294967296) (line : ℕ) (said : SymbolsValue) where
  symbol_same : (s : Symbol) → s.ordinal < count_of h s.kind → capped_symbol s ≡ s
  symbol_same s l = let m : count_of h s.kind ≤ named_count h = count_within h s.kind in let e : capped s.ordinal ≡ s.ordinal = omega arith in ap (λ n. record { kind = s.kind; ordinal = n; name = s.name }) e

  refused : (s : Symbol) → count_of h s.kind ≤ s.ordinal → symbol_at h line said (Some s) ≡ Err (BadSymbol line s.name)
  refused s l = cond-false (may_stand h said s) (Ok (with_symbol h s said)) (Err (BadSymbol line s.name)) (and_left (ltb s.ordinal (count_of h s.kind)) _ (le-ltb s.ordinal (count_of h s.kind) l))

  both : (s : Symbol) → symbol_at h line said (Some s) ≡ symbol_at h line said (Some (capped_symbol s))
  both s = search (rules, cases_lt, symbol_same, count_within, refused)

  pub symbol_read : (o : Option Symbol) (v : Symbol) → Some v ≡ option_map capped_symbol o → symbol_at h line said o ≡ symbol_at h line said (Some v)
  symbol_read o v e = grind (arith, both)

  pub symbol_bad : (o : Option Symbol) → None ≡ option_map capped_symbol o → symbol_at h line said o ≡ Err (Malformed line)
  symbol_bad o e = grind arith

-- one line after another
module _ (h : Header) (line : ℕ) (said : SymbolsValue) (row : List ℕ) (rows : List (List ℕ)) where
  pub symbols_end : bytes_eq row (codes "c") ≡ true → symbols_from h line said (row ∷ rows) ≡ Ok said
  symbols_end t = cond-true (bytes_eq row (codes "c")) (Ok said) (and_then (λ (more : SymbolsValue). symbols_from h (line + 1) more rows) (symbol_at h line said (symbol_of row))) t

  go : bytes_eq row (codes "c") ≡ false → symbols_from h line said (row ∷ rows) ≡ and_then (λ (more : SymbolsValue). symbols_from h (line + 1) more rows) (symbol_at h line said (symbol_of row))
  go f = cond-false (bytes_eq row (codes "c")) (Ok said) (and_then (λ (more : SymbolsValue). symbols_from h (line + 1) more rows) (symbol_at h line said (symbol_of row))) f

  pub symbols_next : (more : SymbolsValue) → bytes_eq row (codes "c") ≡ false → symbol_at h line said (symbol_of row) ≡ Ok more → symbols_from h line said (row ∷ rows) ≡ symbols_from h (line + 1) more rows
  symbols_next more f is = go f ∙ ap (and_then (λ (m : SymbolsValue). symbols_from h (line + 1) m rows)) is

  pub symbols_stop : (e : AagErr) → bytes_eq row (codes "c") ≡ false → symbol_at h line said (symbol_of row) ≡ Err e → symbols_from h line said (row ∷ rows) ≡ Err e
  symbols_stop e f is = go f ∙ ap (and_then (λ (m : SymbolsValue). symbols_from h (line + 1) m rows)) is

-- a symbol leaves as many places, and is one more
pub record HasOneMore (said more : SymbolsValue) : Type 0 where
  pub names : length more.names ≡ length said.names
  pub places : length more.places ≡ length said.places + 1

pub symbol_more : (h : Header) (line : ℕ) (said more : SymbolsValue) (o : Option Symbol) → symbol_at h line said o ≡ Ok more → HasOneMore said more
symbol_more h line said more o e = grind (arith, ok_then, set_length, length-append)

-- all symbols leave as many places, and are no more than there are lines
pub record AreSized (said all : SymbolsValue) (rows : ℕ) : Type 0 where
  pub names : length all.names ≡ length said.names
  pub places : length all.places ≤ length said.places + rows

pub symbols_sized : (h : Header) (line : ℕ) (said all : SymbolsValue) (rows : List (List ℕ)) → symbols_from h line said rows ≡ Ok all → AreSized said all (length rows)
symbols_sized h line said all [] e = let same : said ≡ all = cc in subst (λ a. AreSized said a 0) same (record { names = refl; places = omega arith })
symbols_sized h line said all (row ∷ rows) e = elim (chosen (bytes_eq row (codes "c")) (Ok said) (and_then (λ (more : SymbolsValue). symbols_from h (line + 1) more rows) (symbol_at h line said (symbol_of row))) (Ok all) e) [
  | inl t ↦ (let same : said ≡ all = cc in subst (λ a. AreSized said a (length (row ∷ rows))) same (record { names = refl; places = omega arith }))
  | inr t ↦ (
      let d = behind_of (λ (more : SymbolsValue). symbols_from h (line + 1) more rows) (symbol_at h line said (symbol_of row)) all t.1 in
      let a = symbol_more h line said d.first (symbol_of row) d.is in let b = symbols_sized h (line + 1) d.first all rows d.then_is in
      let q : length all.places ≤ length d.first.places + length rows = b.places in record { names = b.names ∙ a.names; places = omega arith })
]

-- what is read is a header
words_whole : (words : List (List ℕ)) (h : Header) → header_of words ≡ Ok h → is_header h ≡ true
words_whole words h e = grind (arith, by_whole, ok_then, codes)

pub header_whole : (rows : List (List ℕ)) (h : Header) → header_in rows ≡ Ok h → is_header h ≡ true
header_whole rows h e = grind (arith, words_whole)

-- the circuit of a text, and what it was made of
pub record IsCircuitOf (text : List ℕ) (c : Circuit) : Type 0 where
  pub header : Header
  pub items : List Item
  pub said : SymbolsValue
  pub header_is : header_in (lines text) ≡ Ok header
  pub whole : is_header header ≡ true
  pub items_are : items_from header [] (drop 1 (lines text)) ≡ Ok items
  pub all : AreAllItems header 0 (length (drop 1 (lines text))) items
  pub said_are : symbols_from header (item_count header + 2) (no_symbols header) (drop (item_count header) (drop 1 (lines text))) ≡ Ok said
  pub none_twice : first_twice header said (item_count header + 2) said.places ≡ None
  pub is : c ≡ circuit_with header items said

named : (o : Option AagErr) (made c : Circuit) → unless o made ≡ Ok c → (o ≡ None) × (made ≡ c)
named o made c e = grind arith

pub circuit_read : (text : List ℕ) (c : Circuit) → circuit_of text ≡ Ok c → IsCircuitOf text c
circuit_read text c e =
    let a = behind_of (circuit_under (drop 1 (lines text))) (header_in (lines text)) c e in
    let b = behind_of (circuit_behind a.first (drop 1 (lines text))) (items_from a.first [] (drop 1 (lines text))) c a.then_is in
    let d = behind_of (named_circuit a.first b.first) (symbols_from a.first (item_count a.first + 2) (no_symbols a.first) (drop (item_count a.first) (drop 1 (lines text)))) c b.then_is in
    let n = named (first_twice a.first d.first (item_count a.first + 2) d.first.places) (circuit_with a.first b.first d.first) c d.then_is in
    record {
      header = a.first;
      items = b.first;
      said = d.first;
      header_is = a.is;
      whole = header_whole (lines text) a.first a.is;
      items_are = b.is;
      all = items_all a.first [] b.first (drop 1 (lines text)) (omega arith) b.is;
      said_are = d.is;
      none_twice = n.0;
      is = sym {a = circuit_with a.first b.first d.first} n.1;
    }

-- a header that says more outputs than there can be lines gives the same circuit
under_cases : (h : Header) (rows : List (List ℕ)) (r : Result (List Item) AagErr) → items_from h [] rows ≡ r → length rows < 4294967295 → and_then (circuit_behind (capped_header h) rows) r ≡ and_then (circuit_behind h rows) r
under_cases h rows (Err e) is l = refl
under_cases h rows (Ok items) is l =
    let a = items_all h [] items rows (omega arith) is in
    let same : capped_header h ≡ h = ap (λ (o : ℕ). record { variables = h.variables; inputs = h.inputs; latches = h.latches; outputs = o; ands = h.ands }) (omega arith) in
    ap (λ (k : Header). circuit_behind k rows items) same

pub under_same : (h : Header) (rows : List (List ℕ)) → length rows < 4294967295 → circuit_under rows (capped_header h) ≡ circuit_under rows h
under_same h rows l = grind (arith, items_same, under_cases)

pub answer_is : (r x : Result Header AagErr) → x ≡ r → MatchResult r (λ h. x ≡ Ok h) (OrMemory refusal_of (λ e. x ≡ Err e))
answer_is r x e = grind arith

-- the header
pub words_capped : (words : List (List ℕ)) (word : List ℕ) (rest : List (List ℕ)) → words ≡ word ∷ rest → word ≡ codes "aag" → capped_result (header_of words) ≡ header_by (capped_numbers rest)
words_capped words word rest is e = grind (arith, cond-true, codes, header_capped)

pub first_word : (words : List (Bor (List ℕ))) (d : Bor (List ℕ)) → 0 < length words → map (λ (w : Bor (List ℕ)). w.now) words ≡ (get_or words 0 d).now ∷ map (λ (w : Bor (List ℕ)). w.now) (drop 1 words)
first_word words d l = grind arith

header_from : (rows : List (List ℕ)) (r : Result Header AagErr) (read : Header) → header_in rows ≡ r → capped_result r ≡ Ok read → IsHeaderOf rows read
header_from rows r read is made = grind (arith, header_whole)

header_refused : (r : Result Header AagErr) (e : AagErr) → capped_result r ≡ Err e → r ≡ Err e
header_refused r e made = grind arith

module _ (rows words : List (List ℕ)) (row : List ℕ) (rest : List (List ℕ)) (is : rows ≡ row ∷ rest) (are : words ≡ words_of row) where
  pub header_got : (read : Header) → capped_result (header_of words) ≡ Ok read → IsHeaderOf rows read
  header_got read made = header_from rows (header_in rows) read refl (ap (λ r. capped_result (header_in r)) is ∙ ap (λ w. capped_result (header_of w)) (sym are) ∙ made)

  pub header_error : (e : AagErr) → capped_result (header_of words) ≡ Err e → header_in rows ≡ Err e
  header_error e made = header_refused (header_in rows) e (ap (λ r. capped_result (header_in r)) is ∙ ap (λ w. capped_result (header_of w)) (sym are) ∙ made)

-- the circuit, where its parts are known
module _ (h : Header) (items : List Item) where
  pub circuit_made : (said : SymbolsValue) (library : LibraryValue) → first_twice h said (item_count h + 2) said.places ≡ None → library ≡ library_of (circuit_with h items said) → IsLibraryIn (named_circuit h items said) library
  circuit_made said library none is = record { circuit = circuit_with h items said; is = ap (λ o. unless o (circuit_with h items said)) none; made = is }

  pub behind_is : (rows : List (List ℕ)) (said : SymbolsValue) → symbols_from h (item_count h + 2) (no_symbols h) rows ≡ Ok said → named_behind h items rows ≡ named_circuit h items said
  behind_is rows said is = ap (and_then (named_circuit h items)) is

  pub under_is : (rows : List (List ℕ)) → items_from h [] rows ≡ Ok items → length items ≡ item_count h → circuit_under rows h ≡ named_behind h items (drop (length items) rows)
  under_is rows is count = ap (and_then (circuit_behind h rows)) is ∙ ap (λ n. named_behind h items (drop n rows)) (sym count)

-- the circuit of the lines, where the header was read
pub text_is : (rows : List (List ℕ)) (read : Header) → IsHeaderOf rows read → length (drop 1 rows) < 4294967295 → circuit_in rows ≡ circuit_under (drop 1 rows) read
text_is rows read is l = ap (and_then (circuit_under (drop 1 rows))) is.is ∙ sym (under_same is.exact (drop 1 rows) l) ∙ ap (circuit_under (drop 1 rows)) (sym is.same)
