-- The sections of the items, and their lines one by one. A text that is a circuit is read as it; and one that is refused is refused as it is read: what precedes
-- the line is read, and the line is not.
use Rattle.aiger_io.proofs.Common.{◌≡◌, ℕ, suc, ◌+◌, true, List, [], ◌∷◌, ◌++◌, length, drop, None, Ok, codes, refl, sym, ap, ◌∙◌, subst, arith, lines, In, AreOnce, IsOfFormatWith, IsAigerText, Circuit, header_in, items_from, and_then, input_names, output_names, port_names, first_twice, named_circuit, circuit_behind, circuit_under, circuit_of, IsParsed, Symbol, IsComment, SymbolsValue, no_symbols, symbols_from, Header, Item, ◌≤◌, false, Option, Some, Result, Err, inl, inr, bytes_eq, cond-false, false_from_ne_true, header_of, IsHeaderRow, IsLaterRow, item_of, item_with, item_at, words_of, circuit_in, Begins, BeginsWithSymbols, IsItemHere, IsAlike, IsRefused, later, bad_header, missing, malformed, out_of_range, malformed_symbol, bad_symbol, alike, IsSymbolRow, may_stand, with_symbol, symbol_of, symbol_at, AagErr, kind_of_item, AreItemRows, item_count, kind_at, is_in_range, zero, ◌<◌, append_assoc, append-nil, length-append, slice_get, cond-true, cases_lt, cases_Bool, IsItemRow, take, length-take, length-drop, take-append-drop, drop-drop, take_all, In-get, place_in, LineKind, IsSection, AreInSections, drop-append_seam, rules}
use Rattle.aiger_io.specs.declared.item.LineKind.TheVariants as kind
use Rattle.aiger_io.proofs.Format.RowLemmas.{header_row_is, later_row_is, is_header_row, header_error, item_read, item_spelled, symbol_read, symbol_spelled}
use Rattle.aiger_io.proofs.LineLemmas.{items_full, symbols_end, items_end, items_stop, symbols_stop, items_next}
use Rattle.aiger_io.proofs.Format.SaidLemmas.{inputs_named, outputs_named, names_once, Says, nothing_said, twice_read, read_may, symbols_read, no_comment, not_c}
use Rattle.aiger_io.proofs.RoundTripLemmas.{none_twice}
use Rattle.aiger_io.specs.declared.aag_err.AagErr.TheVariants as aag_err
use Rattle.aiger_io.proofs.PlaceLemmas.{form_kind, input_here, latch_here, output_here, gate_here}
use Rattle.aiger_io.proofs.PortLemmas.{take_at, drop_at, append_at}

abbrev pub HaveKinds : Header → List Item → Type 0
HaveKinds h items = (place : ℕ) (item : Item) → slice_get items place ≡ Some item → kind_of_item item ≡ kind_at h place

module _ (h : Header) (items : List Item) (s : AreInSections h items) where
  abbrev behind_outputs : List Item
  behind_outputs = s.outputs ++ s.ands

  pub sections_count : length items ≡ item_count h
  sections_count = grind (arith, length-append)

  pub sections_kinds : HaveKinds h items
  sections_kinds p item e =
      elim (append_at s.inputs (s.latches ++ (s.outputs ++ s.ands)) p item (subst (λ xs. slice_get xs p ≡ Some item) s.are e)) [
        | inl r ↦ (let n : p < length s.inputs = r.0 in (s.inputs_are).each item (In-get s.inputs p item r.1) ∙ input_here h p (omega arith))
        | inr r ↦ (let at : p ≡ length s.inputs + r.0 = r.1 in elim (append_at s.latches (s.outputs ++ s.ands) r.0 item r.2) [
          | inl q ↦ (let n : r.0 < length s.latches = q.0 in (s.latches_are).each item (In-get s.latches r.0 item q.1) ∙ latch_here h p (omega arith) (omega arith))
          | inr q ↦ (let at2 : r.0 ≡ length s.latches + q.0 = q.1 in elim (append_at s.outputs s.ands q.0 item q.2) [
            | inl u ↦ (let n : q.0 < length s.outputs = u.0 in (s.outputs_are).each item (In-get s.outputs q.0 item u.1) ∙ output_here h p (omega arith) (omega arith))
            | inr u ↦ (let at3 : q.0 ≡ length s.outputs + u.0 = u.1 in (s.ands_are).each item (In-get s.ands u.0 item u.2) ∙ gate_here h p (omega arith))
          ])
        ])
      ]

-- and back
section_of : (k : LineKind) (from count : ℕ) (items : List Item) → from + count ≤ length items → ((p : ℕ) (item : Item) → slice_get items p ≡ Some item → from ≤ p → p < from + count → kind_of_item item ≡ k) → IsSection k count (take count (drop from items))
section_of k from count items l each = search (rules, length-take, length-drop, place_in, take_at, drop_at)

one_cut : (n m : ℕ) (items : List Item) → drop n items ≡ take m (drop n items) ++ drop (n + m) items
one_cut n m items = sym (take-append-drop m (drop n items)) ∙ ap (λ l. take m (drop n items) ++ l) (drop-drop m n items)

pub in_sections : (h : Header) (items : List Item) → length items ≡ item_count h → HaveKinds h items → AreInSections h items
in_sections h items count kinds =
    let first : items ≡ take h.inputs (drop 0 items) ++ drop h.inputs items = one_cut 0 h.inputs items ∙ ap (λ n. take h.inputs (drop 0 items) ++ drop n items) (sym (omega arith)) in
    let second : drop h.inputs items ≡ take h.latches (drop h.inputs items) ++ drop (h.inputs + h.latches) items = one_cut h.inputs h.latches items in
    let third : drop (h.inputs + h.latches) items ≡ take h.outputs (drop (h.inputs + h.latches) items) ++ drop (h.inputs + h.latches + h.outputs) items = one_cut (h.inputs + h.latches) h.outputs items in
    let last : drop (h.inputs + h.latches + h.outputs) items ≡ take h.ands (drop (h.inputs + h.latches + h.outputs) items) = grind (arith, take_all, length-drop) in
    record {
      inputs = take h.inputs (drop 0 items);
      latches = take h.latches (drop h.inputs items);
      outputs = take h.outputs (drop (h.inputs + h.latches) items);
      ands = take h.ands (drop (h.inputs + h.latches + h.outputs) items);
      are = first ∙ ap (λ x. take h.inputs (drop 0 items) ++ x) (second ∙ ap (λ x. take h.latches (drop h.inputs items) ++ x) (third ∙ ap (λ x. take h.outputs (drop (h.inputs + h.latches) items) ++ x) last));
      inputs_are = section_of kind.Input 0 h.inputs items (omega arith) (λ p item e a b. kinds p item e ∙ sym (input_here h p (omega arith)));
      latches_are = section_of kind.Latch h.inputs h.latches items (omega arith) (λ p item e a b. kinds p item e ∙ sym (latch_here h p a b));
      outputs_are = section_of kind.Output (h.inputs + h.latches) h.outputs items (omega arith) (λ p item e a b. kinds p item e ∙ sym (output_here h p a b));
      ands_are = section_of kind.And (h.inputs + h.latches + h.outputs) h.ands items (omega arith) (λ p item e a b. kinds p item e ∙ sym (gate_here h p a));
    }

-- lines that say items, the first of which stands at a place
pub record IsStretch (h : Header) (from : ℕ) (rows : List (List ℕ)) (items : List Item) : Type 0 where
  pub are : AreItemRows rows items
  pub kinds : (q : ℕ) (item : Item) → slice_get items q ≡ Some item → kind_of_item item ≡ kind_at h (from + q)
  pub range : (item : Item) → In items item → is_in_range h.variables item ≡ true

no_stretch : (h : Header) (from : ℕ) → IsStretch h from [] []
no_stretch h from = record { are = tt; kinds = λ q item e. absurd (cc); range = λ item i. absurd i }

one_kind : (h : Header) (from : ℕ) (item : Item) (items : List Item) → kind_of_item item ≡ kind_at h from → ((q : ℕ) (other : Item) → slice_get items q ≡ Some other → kind_of_item other ≡ kind_at h (from + 1 + q))
    → (q : ℕ) (other : Item) → slice_get (item ∷ items) q ≡ Some other → kind_of_item other ≡ kind_at h (from + q)
one_kind h from item items here behind zero other e = let same : item ≡ other = cc in let z : from ≡ from + 0 = omega arith in subst (λ i. kind_of_item i ≡ kind_at h (from + 0)) same (subst (λ n. kind_of_item item ≡ kind_at h n) z here)
one_kind h from item items here behind (suc q) other e = let z : from + 1 + q ≡ from + suc q = omega arith in subst (λ n. kind_of_item other ≡ kind_at h n) z (behind q other e)

stretch_more : (h : Header) (from : ℕ) (row : List ℕ) (rows : List (List ℕ)) (item : Item) (items : List Item) → IsItemRow row item → kind_of_item item ≡ kind_at h from → is_in_range h.variables item ≡ true → IsStretch h (from + 1) rows items → IsStretch h from (row ∷ rows) (item ∷ items)
stretch_more h from row rows item items is of within s = search (rules, one_kind)

stretch_tail : (h : Header) (from : ℕ) (row : List ℕ) (rows : List (List ℕ)) (item : Item) (items : List Item) → IsStretch h from (row ∷ rows) (item ∷ items) → IsStretch h (from + 1) rows items
stretch_tail h from row rows item items s = record {
  are = s.are.1;
  kinds = λ q other e. let z : from + suc q ≡ from + 1 + q = omega arith in subst (λ n. kind_of_item other ≡ kind_at h n) z (s.kinds (suc q) other e);
  range = λ other i. s.range other (inr i);
}

item_at_is : (h : Header) (place : ℕ) (row : List ℕ) (item : Item) → IsItemRow row item → kind_of_item item ≡ kind_at h place → is_in_range h.variables item ≡ true → item_at h place row ≡ Ok item
item_at_is h place row item is of within = grind (arith, item_read, cond-true)

-- what stands is read
pub items_read : (h : Header) (before : List Item) (rows : List (List ℕ)) (items : List Item) (rest : List (List ℕ)) → IsStretch h (length before) rows items → length before + length items ≤ item_count h
    → items_from h before (rows ++ rest) ≡ items_from h (before ++ items) rest
items_read h before [] [] rest s few = ap (λ b. items_from h b rest) (sym (append-nil before))
items_read h before (row ∷ rows) (item ∷ items) rest s few =
    let of : kind_of_item item ≡ kind_at h (length before) = subst (λ n. kind_of_item item ≡ kind_at h n) (omega arith) (s.kinds 0 item refl) in
    let n : length (before ++ item ∷ []) ≡ length before + length {A = Item} (item ∷ []) = length-append before (item ∷ []) in
    let y : length before + 1 ≡ length (before ++ item ∷ []) = omega arith in
    grind (arith, items_next, item_at_is, stretch_tail, append_assoc, items_read h (before ++ item ∷ []) rows items rest (subst (λ m. IsStretch h m rows items) y (stretch_tail h (length before) row rows item items s)) (omega arith))
items_read h before rows items rest s few = absurd s.are

-- where it ends: all are there, or the next line isn't, isn't of its form, or isn't in range
pub data IsItemsEnd (h : Header) (items : List Item) (rest : List (List ℕ)) : Type 0 where
  whole : item_count h ≤ length items → IsItemsEnd h items rest
  gone : length items < item_count h → rest ≡ [] → IsItemsEnd h items rest
  formless : (row : List ℕ) (more : List (List ℕ)) → length items < item_count h → rest ≡ row ∷ more → item_of (kind_at h (length items)) (words_of row) ≡ None → IsItemsEnd h items rest
  out : (row : List ℕ) (more : List (List ℕ)) (item : Item) → length items < item_count h → rest ≡ row ∷ more → item_of (kind_at h (length items)) (words_of row) ≡ Some item → is_in_range h.variables item ≡ false → IsItemsEnd h items rest

pub record IsItemsWalk (h : Header) (before : List Item) (rows : List (List ℕ)) : Type 0 where
  pub item_rows : List (List ℕ)
  pub items : List Item
  pub rest : List (List ℕ)
  pub rows_are : rows ≡ item_rows ++ rest
  pub stretch : IsStretch h (length before) item_rows items
  pub few : length before + length items ≤ item_count h
  pub ends : IsItemsEnd h (before ++ items) rest

walk_ended : (h : Header) (before : List Item) (rows : List (List ℕ)) → length before ≤ item_count h → IsItemsEnd h before rows → IsItemsWalk h before rows
walk_ended h before rows few ends = record {
  item_rows = [];
  items = [];
  rest = rows;
  rows_are = refl;
  stretch = no_stretch h (length before);
  few = omega arith;
  ends = subst (λ b. IsItemsEnd h b rows) (sym (append-nil before)) ends;
}

-- one step, where the line was looked at
walk_step : (h : Header) (before : List Item) (row : List ℕ) (rows : List (List ℕ)) (o : Option Item) → length before < item_count h → item_of (kind_at h (length before)) (words_of row) ≡ o
    → ((item : Item) → length (before ++ item ∷ []) ≤ item_count h → IsItemsWalk h (before ++ item ∷ []) rows) → IsItemsWalk h before (row ∷ rows)
walk_step h before row rows None low is behind = walk_ended h before (row ∷ rows) (omega arith) (formless row rows low refl is)
walk_step h before row rows (Some item) low is behind = elim (cases_Bool (is_in_range h.variables item)) [
  | inl t ↦ (
      let n : length (before ++ item ∷ []) ≡ length before + length {A = Item} (item ∷ []) = length-append before (item ∷ []) in
      let w = behind item (omega arith) in
      let y : length (before ++ item ∷ []) ≡ length before + 1 = omega arith in
      record {
        item_rows = row ∷ w.item_rows;
        items = item ∷ w.items;
        rest = w.rest;
        rows_are = ap (λ l. row ∷ l) w.rows_are;
        stretch = stretch_more h (length before) row w.item_rows item w.items (item_spelled row (kind_at h (length before)) item is) (form_kind (kind_at h (length before)) (words_of row) item is) t
            (subst (λ k. IsStretch h k w.item_rows w.items) y w.stretch);
        few = omega arith;
        ends = subst (λ b. IsItemsEnd h b w.rest) (append_assoc before (item ∷ []) w.items) w.ends;
      })
  | inr f ↦ walk_ended h before (row ∷ rows) (omega arith) (out row rows item low refl is f)
]

pub items_walk : (h : Header) (before : List Item) (rows : List (List ℕ)) → length before ≤ item_count h → IsItemsWalk h before rows
items_walk h before [] few = search (rules, cases_lt, walk_ended)
items_walk h before (row ∷ rows) few = elim (cases_lt (length before) (item_count h)) [
  | inl l ↦ walk_step h before row rows (item_of (kind_at h (length before)) (words_of row)) l refl (λ item more. items_walk h (before ++ item ∷ []) rows more)
  | inr l ↦ walk_ended h before (row ∷ rows) few (whole l)
]

-- as many lines as items
pub rows_count : (rows : List (List ℕ)) (items : List Item) → AreItemRows rows items → length rows ≡ length items
rows_count [] [] are = refl
rows_count (row ∷ rows) (item ∷ items) are = ap (λ n. suc n) (rows_count rows items are.1)
rows_count rows items are = absurd are

pub rows_past : (h : Header) (rows : List (List ℕ)) (items : List Item) (rest : List (List ℕ)) → AreItemRows rows items → length items ≡ item_count h → drop (item_count h) (rows ++ rest) ≡ rest
rows_past h rows items rest are count = ap (λ m. drop m (rows ++ rest)) (sym count ∙ sym (rows_count rows items are)) ∙ drop-append_seam rows rest

-- items from the first place on
pub first_stretch : (h : Header) (rows : List (List ℕ)) (items : List Item) → AreItemRows rows items → HaveKinds h items → ((item : Item) → In items item → is_in_range h.variables item ≡ true) → IsStretch h (length {A = Item} []) rows items
first_stretch h rows items are kinds range = search rules

comment_end : (h : Header) (line : ℕ) (said : SymbolsValue) (rest : List (List ℕ)) → IsComment rest → symbols_from h line said rest ≡ Ok said
comment_end h line said rest is = grind (arith, symbols_end, codes)

-- a text of the format is read, and its symbols are said
pub record IsReadFormat (text : List ℕ) (c : Circuit) (symbols : List Symbol) : Type 0 where
  pub said : SymbolsValue
  pub says : Says c.header symbols said
  pub parsed : IsParsed text c said

pub format_parsed : (text : List ℕ) (c : Circuit) (symbols : List Symbol) → IsOfFormatWith text c symbols → IsReadFormat text c symbols
format_parsed text c symbols f =
    let count : length c.items ≡ item_count c.header = sections_count c.header c.items f.sections in
    let stretch = first_stretch c.header f.item_rows c.items f.items (sections_kinds c.header c.items f.sections) f.range in
    let w = symbols_read c.header (item_count c.header + 2) (no_symbols c.header) [] f.symbol_rows symbols f.comment f.are_symbols f.stand (nothing_said c.header) in
    record {
      said = w.more;
      says = w.says;
      parsed = record {
        header = ap header_in f.rows_are ∙ header_row_is f.header_row c.header f.header;
        items = ap (λ rows. items_from c.header [] (drop 1 rows)) f.rows_are ∙ items_read c.header [] f.item_rows c.items (f.symbol_rows ++ f.comment) stretch (omega arith)
            ∙ items_full c.header c.items (f.symbol_rows ++ f.comment) (omega arith);
        symbols = grind (arith, rows_past, comment_end);
        inputs = names_once c.header symbols w.more w.says kind.Input 105 c.header.inputs c.inputs (input_names c.header w.more) f.inputs (inputs_named c.header symbols w.more w.says);
        outputs = names_once c.header symbols w.more w.says kind.Output 111 c.header.outputs c.outputs (output_names c.header w.more) f.outputs (outputs_named c.header symbols w.more w.says);
      };
    }

-- and is its circuit, where no two names are alike
pub parsed_read : (text : List ℕ) (c : Circuit) (said : SymbolsValue) → IsParsed text c said → first_twice c.header said (item_count c.header + 2) said.places ≡ None → circuit_of text ≡ Ok c
parsed_read text c said p is = grind arith

pub text_read : (text : List ℕ) (c : Circuit) → IsAigerText text c → circuit_of text ≡ Ok c
text_read text c is =
    let r = format_parsed text c (is.format).symbols (is.format).are in
    let p = r.parsed in
    let ports : c.inputs ++ c.outputs ≡ port_names c.header r.said = ap (λ l. l ++ c.outputs) p.inputs ∙ ap (λ l. input_names c.header r.said ++ l) p.outputs in
    parsed_read text c r.said p (none_twice c.header r.said (item_count c.header + 2) (r.said).places (subst AreOnce ports is.once))

pub no_header : (text : List ℕ) (rows : List (List ℕ)) (e : AagErr) → lines text ≡ rows → header_in rows ≡ Err e → circuit_of text ≡ Err e
no_header text rows e are is = ap circuit_in are ∙ ap (and_then (circuit_under (drop 1 rows))) is

-- a first line that is no header
no_header_row : (text row : List ℕ) (rest : List (List ℕ)) (r : Result Header AagErr) → lines text ≡ row ∷ rest → header_of (words_of row) ≡ r → (IsLaterRow row → ⊥) → ((h : Header) → IsHeaderRow row h → ⊥) → circuit_of text ≡ Err aag_err.Header
no_header_row text row rest (Ok h) are is not_later not_header = absurd (not_header h (is_header_row row h is))
no_header_row text row rest (Err e) are is not_later not_header = search (rules, header_error, no_header)

bad_first : (text : List ℕ) (rows : List (List ℕ)) → lines text ≡ rows → ((row : List ℕ) (rest : List (List ℕ)) → lines text ≡ row ∷ rest → IsLaterRow row → ⊥)
    → ((h : Header) (row : List ℕ) (rest : List (List ℕ)) → lines text ≡ row ∷ rest → IsHeaderRow row h → ⊥) → circuit_of text ≡ Err aag_err.Header
bad_first text [] are not_later not_header = no_header text [] aag_err.Header are refl
bad_first text (row ∷ rest) are not_later not_header = no_header_row text row rest (header_of (words_of row)) are refl (λ l. not_later row rest are l) (λ h is. not_header h row rest are is)

-- what items leave
pub begun : (text : List ℕ) (h : Header) (items : List Item) (rest : List (List ℕ)) (b : Begins text h items rest) → length items ≤ item_count h → circuit_of text ≡ and_then (circuit_behind h (b.item_rows ++ rest)) (items_from h items rest)
begun text h items rest b few =
    ap circuit_in b.rows_are ∙ ap (and_then (circuit_under (b.item_rows ++ rest))) (header_row_is b.header_row h b.header)
    ∙ ap (and_then (circuit_behind h (b.item_rows ++ rest))) (items_read h [] b.item_rows items rest (first_stretch h b.item_rows items b.items_are b.kinds b.range) (omega arith))

stopped : (text : List ℕ) (h : Header) (items : List Item) (rest : List (List ℕ)) (e : AagErr) → Begins text h items rest → length items ≤ item_count h → items_from h items rest ≡ Err e → circuit_of text ≡ Err e
stopped text h items rest e b few is = begun text h items rest b few ∙ ap (and_then (circuit_behind h (b.item_rows ++ rest))) is

no_item : (h : Header) (place : ℕ) (row : List ℕ) (o : Option Item) → item_of (kind_at h place) (words_of row) ≡ o → ((item : Item) → IsItemHere h place row item → ⊥) → item_at h place row ≡ Err (aag_err.Malformed (place + 2))
no_item h place row None is none = ap (item_with h.variables place) is
no_item h place row (Some item) is none = absurd (none item (record { is = item_spelled row (kind_at h place) item is; of_kind = form_kind (kind_at h place) (words_of row) item is }))

pub item_here : (h : Header) (place : ℕ) (row : List ℕ) (item : Item) → IsItemHere h place row item → item_of (kind_at h place) (words_of row) ≡ Some item
item_here h place row item is = ap (λ k. item_of k (words_of row)) (sym is.of_kind) ∙ item_read row item is.is

-- and what symbols leave
record IsBegun (text : List ℕ) (h : Header) (symbols : List Symbol) (rest : List (List ℕ)) : Type 0 where
  items : List Item
  said : SymbolsValue
  says : Says h symbols said
  same : circuit_of text ≡ and_then (named_circuit h items) (symbols_from h (item_count h + 2 + length symbols) said rest)

symbols_begun : (text : List ℕ) (h : Header) (symbols : List Symbol) (rest : List (List ℕ)) → BeginsWithSymbols text h symbols rest → IsBegun text h symbols rest
symbols_begun text h symbols rest b =
    let g = b.begins in
    let w = symbols_read h (item_count h + 2) (no_symbols h) [] b.symbol_rows symbols rest b.are_symbols b.stand (nothing_said h) in
    record {
      items = b.items;
      said = w.more;
      says = w.says;
      same = begun text h b.items (b.symbol_rows ++ rest) g (omega arith)
          ∙ ap (and_then (circuit_behind h (g.item_rows ++ (b.symbol_rows ++ rest)))) (items_full h b.items (b.symbol_rows ++ rest) (omega arith))
          ∙ ap (λ rows. and_then (named_circuit h b.items) (symbols_from h (item_count h + 2) (no_symbols h) rows)) (rows_past h g.item_rows b.items (b.symbol_rows ++ rest) g.items_are b.whole)
          ∙ ap (and_then (named_circuit h b.items)) w.same;
    }

symbol_stopped : (text : List ℕ) (h : Header) (symbols : List Symbol) (row : List ℕ) (rest : List (List ℕ)) (e : AagErr) (b : IsBegun text h symbols (row ∷ rest)) → bytes_eq row (codes "c") ≡ false
    → symbol_at h (item_count h + 2 + length symbols) b.said (symbol_of row) ≡ Err e → circuit_of text ≡ Err e
symbol_stopped text h symbols row rest e b f is = b.same ∙ ap (and_then (named_circuit h b.items)) (symbols_stop h (item_count h + 2 + length symbols) b.said row rest e f is)

no_symbol : (h : Header) (line : ℕ) (said : SymbolsValue) (row : List ℕ) (o : Option Symbol) → symbol_of row ≡ o → ((s : Symbol) → IsSymbolRow row s → ⊥) → symbol_at h line said (symbol_of row) ≡ Err (aag_err.Malformed line)
no_symbol h line said row None is none = ap (symbol_at h line said) is
no_symbol h line said row (Some s) is none = absurd (none s (symbol_spelled row s is))

pub named_alike : (text : List ℕ) (c : Circuit) (said : SymbolsValue) (e : AagErr) → IsParsed text c said → first_twice c.header said (item_count c.header + 2) said.places ≡ Some e → circuit_of text ≡ Err e
named_alike text c said e p is = grind arith

pub ports_of : (text : List ℕ) (c : Circuit) (said : SymbolsValue) → IsParsed text c said → c.inputs ++ c.outputs ≡ port_names c.header said
ports_of text c said p = ap (λ l. l ++ c.outputs) p.inputs ∙ ap (λ l. input_names c.header said ++ l) p.outputs

alike_named : (text : List ℕ) (c : Circuit) (before after : List Symbol) (s : Symbol) (r : IsReadFormat text c (before ++ s ∷ after)) → ((t : Symbol) → In before t → IsAlike c t → ⊥) → IsAlike c s
    → circuit_of text ≡ Err (aag_err.BadSymbol (item_count c.header + 2 + length before) s.name)
alike_named text c before after s r none is = grind (arith, named_alike, twice_read)

told : (text : List ℕ) (e f : AagErr) → f ≡ e → circuit_of text ≡ Err e → circuit_of text ≡ Err f
told text e f same is = is ∙ ap (λ (x : AagErr). Err x) (sym same)

pub refused_read : (text : List ℕ) (e : AagErr) → IsRefused text e → circuit_of text ≡ Err e
refused_read text e (later row rest are is same) = told text aag_err.Unsupported e same (no_header text (row ∷ rest) aag_err.Unsupported are (later_row_is row is))
refused_read text e (bad_header not_later not_header same) = told text aag_err.Header e same (bad_first text (lines text) refl not_later not_header)
refused_read text e (missing h items b l same) =
    told text (aag_err.Malformed (length items + 2)) e same (stopped text h items [] (aag_err.Malformed (length items + 2)) b (omega arith) (items_end h items l))
refused_read text e (malformed h items row rest b l none same) =
    told text (aag_err.Malformed (length items + 2)) e same (stopped text h items (row ∷ rest) (aag_err.Malformed (length items + 2)) b (omega arith)
    (items_stop h items row rest (aag_err.Malformed (length items + 2)) l (no_item h (length items) row (item_of (kind_at h (length items)) (words_of row)) refl none)))
refused_read text e (out_of_range h items row rest item b l is f same) =
    told text (aag_err.Range (length items + 2)) e same (stopped text h items (row ∷ rest) (aag_err.Range (length items + 2)) b (omega arith)
    (items_stop h items row rest (aag_err.Range (length items + 2)) l
    (ap (item_with h.variables (length items)) (item_here h (length items) row item is) ∙ cond-false (is_in_range h.variables item) (Ok item) (Err (aag_err.Range (length items + 2))) f)))
refused_read text e (malformed_symbol h symbols row rest b ne none same) =
    let g = symbols_begun text h symbols (row ∷ rest) b in
    grind (arith, told, symbol_stopped, not_c, no_symbol)
refused_read text e (bad_symbol h symbols row rest s b is may same) =
    let g = symbols_begun text h symbols (row ∷ rest) b in
    told text (aag_err.BadSymbol (item_count h + 2 + length symbols) s.name) e same (symbol_stopped text h symbols row rest (aag_err.BadSymbol (item_count h + 2 + length symbols) s.name) g (not_c row (λ q. no_comment row s is q))
    (ap (symbol_at h (item_count h + 2 + length symbols) g.said) (symbol_read row s is)
    ∙ cond-false (may_stand h g.said s) (Ok (with_symbol h s g.said)) (Err (aag_err.BadSymbol (item_count h + 2 + length symbols) s.name)) (false_from_ne_true (may_stand h g.said s) (λ t. may (read_may h symbols g.said g.says s t)))))
refused_read text e (alike c before after s f none is same) = search (rules, told, alike_named, format_parsed)
