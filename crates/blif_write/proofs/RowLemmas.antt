-- The bytes of the rows of a LUT, as its loops add them, and their value, which is that of the bit that the values of its leaves ask for.
use Rattle.blif_write.proofs.Common.{◌≡◌, ℕ, zero, suc, ◌+◌, ◌-◌, ◌<◌, ◌^◌, Bool, true, false, cond, List, [], ◌∷◌, ◌++◌, length, map, replicate, get_or, refl, sym, ap, ◌∙◌, arith, append_assoc, length-append, flat_map, filter, range_with_len, map-append, flat_map_single, flat_map-map, length-map-range_with_len, digit, Cell, One, Any, RowValue, cell_character, map-map, row_line, line_text, digit_cell, digit_cells, chosen_cells, fixed_rows, tunable_rows, ◌*◌, ◌/◌, ◌%◌, eqb, ◌&&◌, ◌||◌, slice_index_or, inl, inr, and_parts, and_from, In, bit_value, number, number-small, lowest, half, In-map, In-filter, from_map, in_filter, in_range, of_range, allows, matches, some_row, false_from_ne_true, rules}
use Rattle.std.proofs.Math.Nat.{pow-succ', div-div-eq-div-mul}
use Rattle.std.proofs.Math.Bool.{or-true, and-true}

-- the digits of a row's leaf values
abbrev pub digit_text : ℕ → ℕ → List ℕ
digit_text v place = cell_character (digit_cell (digit v place)) ∷ []

pub digits_are : (leaves v : ℕ) → flat_map (digit_text v) (range_with_len 0 leaves) ≡ map cell_character (digit_cells leaves v)
digits_are leaves v = grind (arith, flat_map_single, map-map)

-- the rows of a table whose bits are fixed
abbrev pub fixed_row_text : List Bool → ℕ → ℕ → ℕ → List ℕ
fixed_row_text config base leaves v = cond (get_or config (base + v) false) (line_text (row_line (digit_cells leaves v))) []

one_filtered : {X Y : Type 0} (f : X → List Y) (x : X) (b : Bool) (xs : List X) (rest : List Y) → flat_map f xs ≡ rest → flat_map f (cond b (x ∷ xs) xs) ≡ cond b (f x) [] ++ rest
one_filtered {Y = Y} f x true xs rest e = ap (λ (t : List Y). f x ++ t) e
one_filtered f x false xs rest e = e

filtered : {X Y : Type 0} (f : X → List Y) (test : X → Bool) (xs : List X) → flat_map f (filter test xs) ≡ flat_map (λ (x : X). cond (test x) (f x) []) xs
filtered f test [] = refl
filtered {X = X} f test (x ∷ xs) = one_filtered f x (test x) (filter test xs) (flat_map (λ (z : X). cond (test z) (f z) []) xs) (filtered f test xs)

pub fixed_rows_are : (config : List Bool) (base leaves : ℕ)
    → flat_map (fixed_row_text config base leaves) (range_with_len 0 (2 ^ leaves)) ≡ flat_map line_text (map (λ (row : RowValue). row_line row.cells) (fixed_rows config base leaves))
fixed_rows_are config base leaves = grind (arith, filter, flat_map-map, filtered)

-- the rows of a table whose bits are inputs
abbrev pub tunable_row_text : ℕ → ℕ → List ℕ
tunable_row_text leaves v = line_text (row_line (digit_cells leaves v ++ chosen_cells (2 ^ leaves) v))

pub tunable_rows_are : (leaves : ℕ) → flat_map (tunable_row_text leaves) (range_with_len 0 (2 ^ leaves)) ≡ flat_map line_text (map (λ (row : RowValue). row_line row.cells) (tunable_rows leaves))
tunable_rows_are leaves = grind (arith, flat_map-map)

-- a row of some cells: their characters, and the output character
pub with_cells : (cells : List Cell) → 0 < length cells → map cell_character cells ++ (32 ∷ 49 ∷ 10 ∷ []) ≡ line_text (row_line cells)
with_cells cells h = search rules

any_characters : (count : ℕ) → map cell_character (replicate count Any) ≡ replicate count 45
any_characters zero = refl
any_characters (suc count) = ap (λ (t : List ℕ). 45 ∷ t) (any_characters count)

chosen_characters : (bits v : ℕ) → map cell_character (chosen_cells bits v) ≡ replicate v 45 ++ 49 ∷ replicate (bits - suc v) 45
chosen_characters bits v = grind (arith, map-append, any_characters)

-- a tunable row, as it is added
pub chosen_row : (leaves v rest : ℕ) → rest ≡ 2 ^ leaves - suc v
    → map cell_character (digit_cells leaves v) ++ (replicate v 45 ++ (49 ∷ (replicate rest 45 ++ (32 ∷ 49 ∷ 10 ∷ [])))) ≡ tunable_row_text leaves v
chosen_row leaves v rest e =
    let digits : List Cell = digit_cells leaves v in
    let chosen : List Cell = chosen_cells (2 ^ leaves) v in
    let last : List ℕ = 32 ∷ 49 ∷ 10 ∷ [] in
    ap (λ (n : ℕ). map cell_character digits ++ (replicate v 45 ++ (49 ∷ (replicate n 45 ++ last)))) e
    ∙ sym (ap (λ (t : List ℕ). map cell_character digits ++ t) (ap (λ (t : List ℕ). t ++ last) (chosen_characters (2 ^ leaves) v) ∙ append_assoc (replicate v 45) (49 ∷ replicate (2 ^ leaves - suc v) 45) last))
    ∙ sym (append_assoc (map cell_character digits) (map cell_character chosen) last) ∙ ap (λ (t : List ℕ). t ++ last) (sym (map-append cell_character digits chosen))
    ∙ with_cells (digits ++ chosen) (omega (arith, length-append digits chosen, length-append (replicate v Any) (One ∷ replicate (2 ^ leaves - suc v) Any)))

-- a fixed row, as it is added
pub with_digits : (leaves v : ℕ) → 0 < leaves → map cell_character (digit_cells leaves v) ++ (32 ∷ 49 ∷ 10 ∷ []) ≡ line_text (row_line (digit_cells leaves v))
with_digits leaves v h = grind arith

-- the cells of a number's digits, one by one
abbrev cells_of : ℕ → ℕ → List Cell
cells_of zero v = []
cells_of (suc leaves) v = digit_cell (eqb (v % 2) 1) ∷ cells_of leaves (v / 2)

cells_from : (leaves place v : ℕ) → map (λ p. digit_cell (digit v p)) (range_with_len place leaves) ≡ cells_of leaves (v / 2 ^ place)
cells_from zero place v = refl
cells_from (suc leaves) place v =
    let p : 2 ^ suc place ≡ 2 * 2 ^ place = pow-succ' 2 place in
    let q : v / 2 ^ place / 2 ≡ v / (2 ^ place * 2) = div-div-eq-div-mul v (2 ^ place) 2 in
    grind (arith, cells_of, cells_from leaves (place + 1) v)

cells_are : (leaves v : ℕ) → digit_cells leaves v ≡ cells_of leaves v
cells_are leaves v = let e : v / 1 ≡ v = omega arith in cells_from leaves 0 v ∙ ap (cells_of leaves) e

-- a cell of a digit allows this digit alone
allowed : (d b : Bool) → allows (digit_cell d) b ≡ true → b ≡ d
allowed d b h = search rules

allows_own : (b : Bool) → allows (digit_cell b) b ≡ true
allows_own b = grind arith

digit_value : (v : ℕ) (b : Bool) → b ≡ eqb (v % 2) 1 → bit_value b ≡ v % 2
digit_value v b h = grind arith

pub matches_number : (v : ℕ) (ins : List Bool) → v < 2 ^ length ins → matches (cells_of (length ins) v) ins ≡ true → number ins ≡ v
matches_number v [] small h = omega (arith, small)
matches_number v (b ∷ bs) small h =
    let parts : (allows (digit_cell (eqb (v % 2) 1)) b ≡ true) × (matches (cells_of (length bs) (v / 2)) bs ≡ true) = and_parts (allows (digit_cell (eqb (v % 2) 1)) b) (matches (cells_of (length bs) (v / 2)) bs) h in
    omega (arith, digit_value v b (allowed (eqb (v % 2) 1) b parts.0), matches_number (v / 2) bs (omega (arith, small, pow-succ' 2 (length bs))) parts.1)

pub matches_own : (ins : List Bool) → matches (cells_of (length ins) (number ins)) ins ≡ true
matches_own [] = refl
matches_own (b ∷ bs) = grind (arith, and_from, eqb, cells_of, lowest, allows_own, half, matches_own bs)

row_matches : (rows : List RowValue) (row : RowValue) (ins : List Bool) → In rows row → matches row.cells ins ≡ true → some_row rows ins ≡ true
row_matches [] row ins i h = elim i [ ]
row_matches (r ∷ rows) row ins (inl e) h = ap (λ (t : Bool). t || some_row rows ins) (ap (λ (q : RowValue). matches q.cells ins) (sym e) ∙ h)
row_matches (r ∷ rows) row ins (inr i) h = ap (λ (t : Bool). matches r.cells ins || t) (row_matches rows row ins i h) ∙ or-true (matches r.cells ins)

no_row_matches : (rows : List RowValue) (ins : List Bool) → ((row : RowValue) → In rows row → matches row.cells ins ≡ false) → some_row rows ins ≡ false
no_row_matches [] ins h = refl
no_row_matches (r ∷ rows) ins h = ap (λ (t : Bool). t || some_row rows ins) (h r (inl refl)) ∙ no_row_matches rows ins (λ q i. h q (inr i))

-- the rows of a table with fixed bits
digits_match : (v : ℕ) (ins : List Bool) → matches (digit_cells (length ins) v) ins ≡ matches (cells_of (length ins) v) ins
digits_match v ins = ap (λ (cells : List Cell). matches cells ins) (cells_are (length ins) v)

one_row : (rows : List RowValue) (ins : List Bool) (bit : Bool) → (bit ≡ true → (row : RowValue) × In rows row × (matches row.cells ins ≡ true)) → ((row : RowValue) → In rows row → matches row.cells ins ≡ true → bit ≡ true) → some_row rows ins ≡ bit
one_row rows ins bit there only = search (rules, row_matches, no_row_matches, false_from_ne_true)

pub fixed_value : (config : List Bool) (base : ℕ) (ins : List Bool) → some_row (fixed_rows config base (length ins)) ins ≡ slice_index_or config (base + number ins) false
fixed_value config base ins =
    let test : ℕ → Bool = λ v. slice_index_or config (base + v) false in
    let make : ℕ → RowValue = λ v. record { cells = digit_cells (length ins) v } in
    let below : number ins < 2 ^ length ins = number-small ins in
    one_row (fixed_rows config base (length ins)) ins (test (number ins))
    (λ e. (make (number ins), In-map make (filter test (range_with_len 0 _)) (number ins) (in_filter test (range_with_len 0 _) (number ins) (in_range 0 _ (number ins) (omega arith) (omega (arith, below))) e), digits_match (number ins) ins ∙ matches_own ins))
    (λ row i h.
    let at : (v : ℕ) × In (filter test (range_with_len 0 _)) v × (row ≡ make v) = from_map make (filter test (range_with_len 0 _)) row i in
    let kept : In (range_with_len 0 _) at.0 × (test at.0 ≡ true) = In-filter test (range_with_len 0 _) at.0 at.1 in
    ap test (matches_number at.0 ins (omega (arith, (of_range 0 _ at.0 kept.0).1)) (sym (digits_match at.0 ins) ∙ ap (λ (r : RowValue). matches r.cells ins) (sym at.2) ∙ h)) ∙ kept.1)

-- the rows of a table whose bits are inputs
and_moved : (a b c : Bool) → (a && (b && c)) ≡ ((a && b) && c)
and_moved a b c = grind arith

matches_both : (front back : List Cell) (xs ys : List Bool) → length front ≡ length xs → matches (front ++ back) (xs ++ ys) ≡ (matches front xs && matches back ys)
matches_both [] back [] ys h = refl
matches_both (c ∷ front) back (x ∷ xs) ys h = grind (arith, and_moved, matches_both front back xs ys (omega (arith, h)))
matches_both front back xs ys h = absurd (omega (arith, h))

matches_any : (count : ℕ) (bits : List Bool) → length bits ≡ count → matches (replicate count Any) bits ≡ true
matches_any zero [] h = refl
matches_any (suc count) (b ∷ bits) h = matches_any count bits (omega (arith, h))
matches_any count bits h = absurd (omega (arith, h))

matches_chosen : (v rest : ℕ) (bits : List Bool) → length bits ≡ v + suc rest → matches (replicate v Any ++ One ∷ replicate rest Any) bits ≡ get_or bits v false
matches_chosen v rest [] h = absurd (omega (arith, h))
matches_chosen zero rest (b ∷ bits) h = ap (λ (t : Bool). b && t) (matches_any rest bits (omega (arith, h))) ∙ and-true b
matches_chosen (suc v) rest (b ∷ bits) h = matches_chosen v rest bits (omega (arith, h))

row_value : (ins bits : List Bool) (v : ℕ) → length bits ≡ 2 ^ length ins → v < 2 ^ length ins
    → matches (digit_cells (length ins) v ++ chosen_cells (2 ^ length ins) v) (ins ++ bits) ≡ (matches (cells_of (length ins) v) ins && get_or bits v false)
row_value ins bits v count small = grind (arith, matches_both, length-map-range_with_len, digits_match, cells_of, matches_chosen)

pub tunable_value : (ins bits : List Bool) → length bits ≡ 2 ^ length ins → some_row (tunable_rows (length ins)) (ins ++ bits) ≡ get_or bits (number ins) false
tunable_value ins bits count =
    let make : ℕ → RowValue = λ v. record { cells = digit_cells (length ins) v ++ chosen_cells (2 ^ length ins) v } in
    let below : number ins < 2 ^ length ins = number-small ins in
    one_row (tunable_rows (length ins)) (ins ++ bits) (get_or bits (number ins) false)
    (λ e. (
      make (number ins),
      In-map make (range_with_len 0 (2 ^ length ins)) (number ins) (in_range 0 (2 ^ length ins) (number ins) (omega arith) (omega (arith, below))),
      row_value ins bits (number ins) count below ∙ and_from (matches (cells_of (length ins) (number ins)) ins) (get_or bits (number ins) false) (matches_own ins) e,
    ))
    (λ row i h.
    let at : (v : ℕ) × In (range_with_len 0 (2 ^ length ins)) v × (row ≡ make v) = from_map make (range_with_len 0 (2 ^ length ins)) row i in
    let fits : at.0 < 2 ^ length ins = omega (arith, (of_range 0 (2 ^ length ins) at.0 at.1).1) in
    let parts : (matches (cells_of (length ins) at.0) ins ≡ true) × (get_or bits at.0 false ≡ true) = grind (arith, and_parts, cells_of, row_value) in
    ap (λ (k : ℕ). get_or bits k false) (matches_number at.0 ins fits parts.0) ∙ parts.1)
