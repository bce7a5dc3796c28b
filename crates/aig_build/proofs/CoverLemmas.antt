-- The nodes of rows and covers: their values are those that the definitions of a row and of a cover give, and making them again over nodes that
-- extend those that they left adds nothing and gives the same literals.
use Rattle.aig_build.proofs.Common.{◌≡◌, ℕ, ◌+◌, ◌*◌, ◌<◌, ◌≤◌, Bool, true, false, not, ◌&&◌, ◌||◌, cond, suc, List, [], ◌∷◌, ◌++◌, length, map, drop, get_or, refl, sym, ap, ◌∙◌, subst, append-nil, append_assoc, add-one, arith, All-nil, All-cons, All-head, All-tail, All-append, All-push, drop_past, Cell, Zero, One, Any, RowValue, CoverValue, allows, matches, some_row, cover_value, Lit, Pair, Aig, IsLit, AreNormal, first_and, complement, Answer, with_pairs, value_of, values_from, Extends, Extends-refl, Extends-trans, length-Extends, AreBase, Makes, Makes-complement, Makes-weaker, value_of-more, value_of-complement, complement-below, balanced_and, flipped, cell_literals, row_literals, Literals, row_made, rows_made, cover_made, rows_onto, min, max, product_of, and_again, and_grows, front_half, back_half, balanced, drop-cons, All}
use Rattle.std.proofs.Math.Bool.{and-true}
use Rattle.aig_build.proofs.BalancedLemmas.{balanced-grows, all_true, all_true-append, IsBelow, AreBelow, AreBelow-more, all_true-more, Makes-balanced}

-- the values of the inputs under the values of the nodes
abbrev pub values_at : List Lit → List Bool → List Bool
values_at inputs values = map (λ (input : Lit). value_of values input.0) inputs

-- what a cell asks for is 1 exactly where it allows its input
all_true-cell : (cell : Cell) (input : Lit) (values : List Bool) → all_true (cell_literals cell input) values ≡ allows cell (value_of values input.0)
all_true-cell Any input values = refl
all_true-cell One input values = and-true (value_of values input.0)
all_true-cell Zero input values = and-true (value_of values (complement input.0)) ∙ value_of-complement values input.0

-- the literals of a row are all 1 exactly where it matches
all_true-row : (cells : List Cell) (inputs : List Lit) (values : List Bool) → length cells ≡ length inputs → all_true (row_literals cells inputs) values ≡ matches cells (values_at inputs values)
all_true-row (cell ∷ cells) (input ∷ inputs) values width =
    all_true-append (cell_literals cell input) (row_literals cells inputs) values
    ∙ ap (λ b. b && all_true (row_literals cells inputs) values) (all_true-cell cell input values)
    ∙ ap (λ b. allows cell (value_of values input.0) && b) (all_true-row cells inputs values (omega arith))
all_true-row [] [] values width = refl
all_true-row cells inputs values width = absurd (omega arith)

-- they are literals of the nodes so far, as the inputs are
AreBelow-cell : (first : ℕ) (ps : List Pair) (cell : Cell) (input : Lit) → IsBelow first ps input → AreBelow first ps (cell_literals cell input)
AreBelow-cell first ps Any input below = All-nil (IsBelow first ps)
AreBelow-cell first ps One input below = All-cons (IsBelow first ps) input [] below (All-nil (IsBelow first ps))
AreBelow-cell first ps Zero input below = All-cons (IsBelow first ps) (flipped input) [] (complement-below input.0 (first + length ps) below) (All-nil (IsBelow first ps))

pub AreBelow-row : (first : ℕ) (ps : List Pair) (cells : List Cell) (inputs : List Lit) → AreBelow first ps inputs → AreBelow first ps (row_literals cells inputs)
AreBelow-row first ps (cell ∷ cells) (input ∷ inputs) below =
    All-append (IsBelow first ps) (cell_literals cell input) (row_literals cells inputs)
    (AreBelow-cell first ps cell input (All-head (IsBelow first ps) input inputs below))
    (AreBelow-row first ps cells inputs (All-tail (IsBelow first ps) input inputs below))
AreBelow-row first ps cells inputs below = All-nil (IsBelow first ps)

-- a row's literal is 1 exactly where the row matches
pub Makes-row : (first : ℕ) (ps : List Pair) (cells : List Cell) (inputs : List Lit) → AreNormal first ps → 1 ≤ first → AreBelow first ps inputs → length cells ≡ length inputs → Makes first ps (λ values. matches cells (values_at inputs values)) (row_made first ps cells inputs)
Makes-row first ps cells inputs normal some below width =
    Makes-weaker first ps (all_true (row_literals cells inputs)) (λ values. matches cells (values_at inputs values)) (row_made first ps cells inputs) (λ values. all_true-row cells inputs values width)
    (Makes-balanced first (length (row_literals cells inputs)) ps (row_literals cells inputs) normal some (AreBelow-row first ps cells inputs below) (omega arith))

-- more nodes don't change the inputs' values
values_at-more : (first : ℕ) (ps qs : List Pair) (inputs : List Lit) (vs : List Bool) → Extends ps qs → AreBelow first ps inputs → AreBase first vs → values_at inputs (values_from vs qs) ≡ values_at inputs (values_from vs ps)
values_at-more first ps qs [] vs e below base = refl
values_at-more first ps qs (input ∷ inputs) vs e below base =
    ap (λ b. b ∷ values_at inputs (values_from vs qs)) (value_of-more vs ps qs input.0 e (omega (arith, base.count, All-head (IsBelow first ps) input inputs below)))
    ∙ ap (λ bs. value_of (values_from vs ps) input.0 ∷ bs) (values_at-more first ps qs inputs vs e (All-tail (IsBelow first ps) input inputs below) base)

-- What holds of literals that are made over the pairs `ps`, all of which are to be 1 exactly where `meaning` is.
pub record MakesAll (first : ℕ) (ps : List Pair) (meaning : List Bool → Bool) (made : Literals) : Type 0 where
  pub grows : Extends ps made.pairs
  pub normal : AreNormal first made.pairs
  pub below : AreBelow first made.pairs made.lits
  pub value : (vs : List Bool) → AreBase first vs → all_true made.lits (values_from vs made.pairs) ≡ meaning (values_from vs ps)

-- each row has a cell for each input
abbrev pub HaveWidth : List Lit → List RowValue → Type 0
HaveWidth inputs rows = All (λ (row : RowValue). length row.cells ≡ length inputs) rows

-- the rows so far don't match, nor does this one, nor a later one
join_rows : (a b c : Bool) → ((a && (not b && true)) && not c) ≡ (a && not (b || c))
join_rows a b c = grind arith

join_none : (a : Bool) → a ≡ (a && not false)
join_none a = grind arith

-- the literals of the rows are all 1 exactly where those before them are and no row matches
pub MakesAll-rows : (first : ℕ) (ps : List Pair) (lits : List Lit) (rows : List RowValue) (inputs : List Lit) → AreNormal first ps → 1 ≤ first → AreBelow first ps inputs → AreBelow first ps lits → HaveWidth inputs rows
    → MakesAll first ps (λ values. all_true lits values && not (some_row rows (values_at inputs values))) (rows_onto first ps lits rows inputs)
MakesAll-rows first ps lits [] inputs normal some below lits_below widths = record { grows = Extends-refl ps; normal = normal; below = lits_below; value = λ vs base. join_none (all_true lits (values_from vs ps)) }
MakesAll-rows first ps lits (row ∷ rows) inputs normal some below lits_below widths =
    let made : Answer = row_made first ps row.cells inputs in
    let m : Makes first ps (λ values. matches row.cells (values_at inputs values)) made = Makes-row first ps row.cells inputs normal some below (All-head (λ (r : RowValue). length r.cells ≡ length inputs) row rows widths) in
    let c : Makes first ps (λ values. not (matches row.cells (values_at inputs values))) (record { pairs = made.pairs; lit = complement made.lit }) = Makes-complement first ps (λ values. matches row.cells (values_at inputs values)) made m in
    let lit : Lit = record { 0 = complement made.lit } in
    let more : AreBelow first made.pairs (lits ++ lit ∷ []) = All-push (IsBelow first made.pairs) lits lit (AreBelow-more first ps made.pairs lits m.grows lits_below) c.below in
    let r : MakesAll first made.pairs (λ values. all_true (lits ++ lit ∷ []) values && not (some_row rows (values_at inputs values))) (rows_onto first made.pairs (lits ++ lit ∷ []) rows inputs) =
    MakesAll-rows first made.pairs (lits ++ lit ∷ []) rows inputs m.normal some (AreBelow-more first ps made.pairs inputs m.grows below) more (All-tail (λ (r : RowValue). length r.cells ≡ length inputs) row rows widths) in
    record {
      grows = Extends-trans ps made.pairs (rows_onto first made.pairs (lits ++ lit ∷ []) rows inputs).pairs m.grows r.grows;
      normal = r.normal;
      below = r.below;
      value = λ vs base.
          let old : List Bool = values_from vs ps in
          let new : List Bool = values_from vs made.pairs in
          r.value vs base
          ∙ ap (λ b. b && not (some_row rows (values_at inputs new))) (all_true-append lits (lit ∷ []) new)
          ∙ ap (λ b. (b && (value_of new lit.0 && true)) && not (some_row rows (values_at inputs new))) (all_true-more first ps made.pairs lits vs m.grows lits_below base)
          ∙ ap (λ b. (all_true lits old && (b && true)) && not (some_row rows (values_at inputs new))) (c.value vs base)
          ∙ ap (λ vs'. (all_true lits old && (not (matches row.cells (values_at inputs old)) && true)) && not (some_row rows vs')) (values_at-more first ps made.pairs inputs vs m.grows below base)
          ∙ join_rows (all_true lits old) (matches row.cells (values_at inputs old)) (some_row rows (values_at inputs old));
    }

-- the nodes of a list of rows are more than those before
pub rows_onto-grows : (first : ℕ) (ps : List Pair) (lits : List Lit) (rows : List RowValue) (inputs : List Lit) → Extends ps (rows_onto first ps lits rows inputs).pairs
rows_onto-grows first ps lits [] inputs = Extends-refl ps
rows_onto-grows first ps lits (row ∷ rows) inputs =
    let made : Answer = row_made first ps row.cells inputs in
    Extends-trans ps made.pairs (rows_onto first ps lits (row ∷ rows) inputs).pairs (balanced-grows first (length (row_literals row.cells inputs)) ps (row_literals row.cells inputs))
    (rows_onto-grows first made.pairs (lits ++ record { 0 = complement made.lit } ∷ []) rows inputs)

-- the rows behind no literals are the rows
rows_behind : (first : ℕ) (ps : List Pair) (lits : List Lit) (rows : List RowValue) (inputs : List Lit)
    → rows_onto first ps lits rows inputs ≡ record { pairs = (rows_made first ps rows inputs).pairs; lits = lits ++ (rows_made first ps rows inputs).lits }
rows_behind first ps lits [] inputs = ap (λ (ls : List Lit). record { pairs = ps; lits = ls }) (sym (append-nil lits))
rows_behind first ps lits (row ∷ rows) inputs =
    let made : Answer = row_made first ps row.cells inputs in
    let others : Literals = rows_made first made.pairs rows inputs in
    rows_behind first made.pairs (lits ++ record { 0 = complement made.lit } ∷ []) rows inputs
    ∙ ap (λ (ls : List Lit). record { pairs = others.pairs; lits = ls }) (append_assoc lits (record { 0 = complement made.lit } ∷ []) others.lits)

pub rows_alone : (first : ℕ) (ps : List Pair) (rows : List RowValue) (inputs : List Lit) → rows_onto first ps [] rows inputs ≡ rows_made first ps rows inputs
rows_alone first ps rows inputs = rows_behind first ps [] rows inputs

pub rows_done : (first : ℕ) (ps : List Pair) (next : ℕ) (qs : List Pair) (lits : List Lit) (rows : List RowValue) (inputs : List Lit) (i : ℕ) → length rows ≤ i
    → rows_onto next qs lits (drop i rows) inputs ≡ rows_onto first ps [] rows inputs → record { pairs = qs; lits = lits } ≡ rows_made first ps rows inputs
rows_done first ps next qs lits rows inputs i past e = sym (ap (λ rs. rows_onto next qs lits rs inputs) (drop_past rows i past)) ∙ e ∙ rows_alone first ps rows inputs

pub cover_made-grows : (first : ℕ) (ps : List Pair) (cover : CoverValue) (inputs : List Lit) → Extends ps (cover_made first ps cover inputs).pairs
cover_made-grows first ps cover inputs =
    let rows : Literals = rows_made first ps cover.rows inputs in
    let grows : Extends ps rows.pairs = subst (λ (ls : Literals). Extends ps ls.pairs) (rows_alone first ps cover.rows inputs) (rows_onto-grows first ps [] cover.rows inputs) in
    Extends-trans ps rows.pairs (cover_made first ps cover inputs).pairs grows (balanced-grows first (length rows.lits) rows.pairs rows.lits)

-- the cover's literal from that of "no row matches"
in_phase : (value none row : Bool) → none ≡ not row → cond value (not none) (not (not none)) ≡ cond value row (not row)
in_phase value none row e = grind arith

phase_below : (value : Bool) (lit n : ℕ) → lit < 2 * n → cond value (complement lit) (complement (complement lit)) < 2 * n
phase_below true lit n l = complement-below lit n l
phase_below false lit n l = complement-below (complement lit) n (complement-below lit n l)

value_of-phase : (vs : List Bool) (value : Bool) (lit : ℕ) → value_of vs (cond value (complement lit) (complement (complement lit))) ≡ cond value (not (value_of vs lit)) (not (not (value_of vs lit)))
value_of-phase vs true lit = value_of-complement vs lit
value_of-phase vs false lit = value_of-complement vs (complement lit) ∙ ap not (value_of-complement vs lit)

pub Makes-cover : (first : ℕ) (ps : List Pair) (cover : CoverValue) (inputs : List Lit) → AreNormal first ps → 1 ≤ first → AreBelow first ps inputs → HaveWidth inputs cover.rows → Makes first ps (λ values. cover_value cover (values_at inputs values)) (cover_made first ps cover inputs)
Makes-cover first ps cover inputs normal some below widths =
    let rows : Literals = rows_made first ps cover.rows inputs in
    let none : Answer = balanced_and first rows.pairs rows.lits in
    let r : MakesAll first ps (λ values. true && not (some_row cover.rows (values_at inputs values))) rows =
    subst (λ (ls : Literals). MakesAll first ps (λ values. true && not (some_row cover.rows (values_at inputs values))) ls) (rows_alone first ps cover.rows inputs)
    (MakesAll-rows first ps [] cover.rows inputs normal some below (All-nil (IsBelow first ps)) widths) in
    let m : Makes first rows.pairs (all_true rows.lits) none = Makes-balanced first (length rows.lits) rows.pairs rows.lits r.normal some r.below (omega arith) in
    record {
      grows = Extends-trans ps rows.pairs none.pairs r.grows m.grows;
      normal = m.normal;
      below = phase_below cover.value none.lit (first + length none.pairs) m.below;
      value = λ vs base.
          value_of-phase (values_from vs none.pairs) cover.value none.lit
          ∙ in_phase cover.value (value_of (values_from vs none.pairs) none.lit) (some_row cover.rows (values_at inputs (values_from vs ps))) (m.value vs base ∙ r.value vs base);
    }

-- a loop over the rows, at one more row
rows_onto-drop : (first : ℕ) (ps : List Pair) (lits : List Lit) (rows : List RowValue) (inputs : List Lit) (i : ℕ) (row : RowValue) → i < length rows → row ≡ get_or rows i row
    → rows_onto first ps lits (drop i rows) inputs ≡ rows_onto first ps lits (row ∷ drop (i + 1) rows) inputs
rows_onto-drop first ps lits rows inputs i row l e =
    ap (λ rs. rows_onto first ps lits rs inputs) (drop-cons rows i row l ∙ ap (λ r. r ∷ drop (suc i) rows) (sym e) ∙ ap (λ n. row ∷ drop n rows) (sym (add-one i)))

pub rows_onto-next : (g0 g1 : Aig) (lits : List Lit) (rows : List RowValue) (inputs : List Lit) (i : ℕ) (row : RowValue) (made : ℕ) (new : Lit) → i < length rows → row ≡ get_or rows i row
    → g1 ≡ with_pairs g0 (row_made (first_and g0) g0.pairs row.cells inputs).pairs → made ≡ (row_made (first_and g0) g0.pairs row.cells inputs).lit → new.0 ≡ complement made
    → rows_onto (first_and g1) g1.pairs (lits ++ new ∷ []) (drop (i + 1) rows) inputs ≡ rows_onto (first_and g0) g0.pairs lits (drop i rows) inputs
rows_onto-next g0 g1 lits rows inputs i row made new l e eg em en =
    let m : Answer = row_made (first_and g0) g0.pairs row.cells inputs in
    let is : new ≡ record { 0 = complement m.lit } = ap (λ n. let lit : Lit = record { 0 = n } in lit) (en ∙ ap complement em) in
    ap (λ (h : Aig). rows_onto (first_and h) h.pairs (lits ++ new ∷ []) (drop (i + 1) rows) inputs) eg
    ∙ ap (λ (lit : Lit). rows_onto (first_and g0) m.pairs (lits ++ lit ∷ []) (drop (i + 1) rows) inputs) is
    ∙ sym (rows_onto-drop (first_and g0) g0.pairs lits rows inputs i row l e)

-- a row has no more nodes than all rows
pub rows_onto-row_length : (first : ℕ) (ps : List Pair) (lits : List Lit) (rows : List RowValue) (inputs : List Lit) (i : ℕ) (row : RowValue) → i < length rows → row ≡ get_or rows i row
    → length (row_made first ps row.cells inputs).pairs ≤ length (rows_onto first ps lits (drop i rows) inputs).pairs
rows_onto-row_length first ps lits rows inputs i row l e =
    let m : Answer = row_made first ps row.cells inputs in
    rw (rows_onto-drop first ps lits rows inputs i row l e)
    (length-Extends m.pairs (rows_onto first m.pairs (lits ++ record { 0 = complement m.lit } ∷ []) (drop (i + 1) rows) inputs).pairs
    (rows_onto-grows first m.pairs (lits ++ record { 0 = complement m.lit } ∷ []) (drop (i + 1) rows) inputs))

-- the literals so far and a new one, after a row
pub AreLits-next : (g0 g1 : Aig) (ps : List Pair) (lits : List Lit) (made : ℕ) (new : Lit) → Extends g0.pairs ps → g1 ≡ with_pairs g0 ps → All (λ (lit : Lit). IsLit g0 lit.0) lits → IsLit g1 made → new.0 ≡ complement made
    → All (λ (lit : Lit). IsLit g1 lit.0) (lits ++ new ∷ [])
AreLits-next g0 g1 ps lits made new e eg are is en =
    let more : AreBelow (first_and g1) g1.pairs lits = rw eg (AreBelow-more (first_and g0) g0.pairs ps lits e are) in
    let last : IsBelow (first_and g1) g1.pairs new = rw en (complement-below made (first_and g1 + length g1.pairs) is) in
    All-push (IsBelow (first_and g1) g1.pairs) lits new more last

-- the inputs, after a row
pub AreLits-more : (g0 g1 : Aig) (ps : List Pair) (lits : List Lit) → Extends g0.pairs ps → g1 ≡ with_pairs g0 ps → All (λ (lit : Lit). IsLit g0 lit.0) lits → All (λ (lit : Lit). IsLit g1 lit.0) lits
AreLits-more g0 g1 ps lits e eg are = rw eg (AreBelow-more (first_and g0) g0.pairs ps lits e are)

-- one change of the pairs after another
pub with_pairs-again : (g g0 g1 : Aig) (ps qs : List Pair) → g0 ≡ with_pairs g ps → g1 ≡ with_pairs g0 qs → g1 ≡ with_pairs g g1.pairs
with_pairs-again g g0 g1 ps qs e0 e1 = rw (e1, e0) refl

-- a row only adds nodes
pub row_made-grows : (first : ℕ) (ps : List Pair) (cells : List Cell) (inputs : List Lit) → Extends ps (row_made first ps cells inputs).pairs
row_made-grows first ps cells inputs = balanced-grows first (length (row_literals cells inputs)) ps (row_literals cells inputs)

pub balanced-again : (first depth : ℕ) (ps qs : List Pair) (lits : List Lit) → Extends (balanced first depth ps lits).pairs qs → balanced first depth qs lits ≡ record { pairs = qs; lit = (balanced first depth ps lits).lit }
balanced-again first (suc depth) ps qs (a ∷ b ∷ rest) e =
    let lits : List Lit = a ∷ b ∷ rest in
    let x : Answer = balanced first depth ps (front_half lits) in
    let y : Answer = balanced first depth x.pairs (back_half lits) in
    let out : Answer = product_of first y.pairs x.lit y.lit in
    let ey : Extends y.pairs qs = Extends-trans y.pairs out.pairs qs (and_grows first y.pairs (min x.lit y.lit) (max x.lit y.lit)) e in
    let ex : Extends x.pairs qs = Extends-trans x.pairs y.pairs qs (balanced-grows first depth x.pairs (back_half lits)) ey in
    let after : Answer → Answer → Answer = λ v w. product_of first w.pairs v.lit w.lit in
    let rx : balanced first depth qs (front_half lits) ≡ record { pairs = qs; lit = x.lit } = balanced-again first depth ps qs (front_half lits) ex in
    let ry : balanced first depth qs (back_half lits) ≡ record { pairs = qs; lit = y.lit } = balanced-again first depth x.pairs qs (back_half lits) ey in
    ap (λ (v : Answer). after v (balanced first depth v.pairs (back_half lits))) rx
    ∙ ap (λ (w : Answer). product_of first w.pairs x.lit w.lit) ry
    ∙ and_again first y.pairs qs (min x.lit y.lit) (max x.lit y.lit) e
balanced-again first depth ps qs lits e = refl

pub row_made-again : (first : ℕ) (ps qs : List Pair) (cells : List Cell) (inputs : List Lit) → Extends (row_made first ps cells inputs).pairs qs → row_made first qs cells inputs ≡ record { pairs = qs; lit = (row_made first ps cells inputs).lit }
row_made-again first ps qs cells inputs e = balanced-again first (length (row_literals cells inputs)) ps qs (row_literals cells inputs) e

pub rows_onto-again : (first : ℕ) (ps qs : List Pair) (lits : List Lit) (rows : List RowValue) (inputs : List Lit) → Extends (rows_onto first ps lits rows inputs).pairs qs
    → rows_onto first qs lits rows inputs ≡ record { pairs = qs; lits = (rows_onto first ps lits rows inputs).lits }
rows_onto-again first ps qs lits [] inputs e = refl
rows_onto-again first ps qs lits (row ∷ rows) inputs e =
    let m : Answer = row_made first ps row.cells inputs in
    let more : List Lit = lits ++ record { 0 = complement m.lit } ∷ [] in
    let em : Extends m.pairs qs = Extends-trans m.pairs (rows_onto first m.pairs more rows inputs).pairs qs (rows_onto-grows first m.pairs more rows inputs) e in
    ap (λ (v : Answer). rows_onto first v.pairs (lits ++ record { 0 = complement v.lit } ∷ []) rows inputs) (row_made-again first ps qs row.cells inputs em)
    ∙ rows_onto-again first m.pairs qs more rows inputs e

pub rows_made-again : (first : ℕ) (ps qs : List Pair) (rows : List RowValue) (inputs : List Lit) → Extends (rows_made first ps rows inputs).pairs qs
    → rows_made first qs rows inputs ≡ record { pairs = qs; lits = (rows_made first ps rows inputs).lits }
rows_made-again first ps qs rows inputs e =
    sym (rows_alone first qs rows inputs)
    ∙ rows_onto-again first ps qs [] rows inputs (subst (λ (ls : Literals). Extends ls.pairs qs) (sym (rows_alone first ps rows inputs)) e)
    ∙ ap (λ (ls : Literals). record { pairs = qs; lits = ls.lits }) (rows_alone first ps rows inputs)

pub cover_made-again : (first : ℕ) (ps qs : List Pair) (cover : CoverValue) (inputs : List Lit) → Extends (cover_made first ps cover inputs).pairs qs → cover_made first qs cover inputs ≡ record { pairs = qs; lit = (cover_made first ps cover inputs).lit }
cover_made-again first ps qs cover inputs e =
    let rows : Literals = rows_made first ps cover.rows inputs in
    let er : Extends rows.pairs qs = Extends-trans rows.pairs (balanced_and first rows.pairs rows.lits).pairs qs (balanced-grows first (length rows.lits) rows.pairs rows.lits) e in
    rw (rows_made-again first ps qs cover.rows inputs er, balanced-again first (length rows.lits) rows.pairs qs rows.lits e) refl
