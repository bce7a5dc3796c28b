-- Every text is a circuit or is refused, as it is read; so it has one reading.
use Rattle.aiger_io.proofs.Common.{◌≡◌, ◌⊎◌, ℕ, ◌+◌, ◌≤◌, true, leb, leb-true, List, [], ◌∷◌, ◌++◌, length, Some, None, Result, Ok, Err, inl, inr, refl, sym, ap, ◌∙◌, subst, arith, IfOk, IfErr, lines, LibraryValue, OrMemory, OrMemory-map, IsOfFormatWith, IsAigerText, Circuit, header_of, IsHeaderRow, words_of, first_twice, circuit_with, circuit_of, IsLibraryIn, refusal_of, Begins, BeginsWithSymbols, IsRefused, later, bad_header, missing, malformed, out_of_range, malformed_symbol, bad_symbol, alike, Symbol, IsComment, no_symbols, AagErr, Header, Item, kind_of_item, item_count, kind_at, rules}
use Rattle.aiger_io.specs.Reading.{IsLibraryOf, HasOneReading, HasCircuit, HasRefusal, HasRunsOf}
use Rattle.aiger_io.specs.declared.aag_err.AagErr.TheVariants as aag_err
use Rattle.aiger_io.proofs.Format.AigerTextLemmas.{format_parsed, parsed_read, text_read, item_here, ports_of, refused_read, IsItemsWalk, IsItemsEnd, whole, gone, formless, out, items_walk, HaveKinds, in_sections}
use Rattle.aiger_io.proofs.CleanLemmas.{text_ports_once}
use Rattle.aiger_io.proofs.Format.RowLemmas.{header_row_is, later_row_is, is_header_row, header_error, item_spelled, symbol_read, symbol_spelled}
use Rattle.aiger_io.proofs.LawLemmas.{text_fit, text_runs}
use Rattle.aiger_io.proofs.Format.SaidLemmas.{never, first, twice_end, inputs_named, outputs_named, nothing_said, IsSymbolsWalk, IsSymbolsEnd, symbols_walk}
use Rattle.aiger_io.proofs.Format.SaidLemmas as symbol
use Rattle.aiger_io.proofs.PlaceLemmas.{form_kind}

pub data IsSettled (text : List ℕ) : Type 0 where
  is_circuit : (c : Circuit) → IsAigerText text c → circuit_of text ≡ Ok c → IsSettled text
  is_refused : (e : AagErr) → IsRefused text e → circuit_of text ≡ Err e → IsSettled text

refused : (text : List ℕ) (e : AagErr) → IsRefused text e → IsSettled text
refused text e is = is_refused e is (refused_read text e is)

-- all lines are well formed: no two names are alike, or the first symbol is told that makes them so
settled_as : (text : List ℕ) (c : Circuit) → IsAigerText text c → IsSettled text
settled_as text c is = is_circuit c is (text_read text c is)

format_settled : (text : List ℕ) (c : Circuit) (symbols : List Symbol) → length text ≤ 67108864 → IsOfFormatWith text c symbols → IsSettled text
format_settled text c symbols l f =
    let r = format_parsed text c symbols f in
    elim (twice_end c symbols r.said r.says (ports_of text c r.said r.parsed) (item_count c.header + 2) symbols (λ t i. i)) [
      | never none is ↦ (
          let same : circuit_of text ≡ Ok c = parsed_read text c r.said r.parsed (ap (first_twice c.header r.said (item_count c.header + 2)) (r.says).places ∙ is) in
          settled_as text c (record { format = record { symbols = symbols; are = f }; once = text_ports_once text c l same }))
      | first before after s split none a is ↦ refused text (aag_err.BadSymbol (item_count c.header + 2 + length before) s.name) (alike c before after s (subst (IsOfFormatWith text c) split f) none a refl)
    ]

-- the first line is no header
no_first : (text row : List ℕ) (rest : List (List ℕ)) (e : AagErr) → lines text ≡ row ∷ rest → header_of (words_of row) ≡ Err e → IsSettled text
no_first text row rest e are is = elim (header_error row e is) [
  | inl same ↦ (
      refused text aag_err.Header (bad_header
      (λ r more a l. (let q : row ∷ rest ≡ r ∷ more = sym are ∙ a in let same_row : r ≡ row = cc in
      let u : header_of (words_of row) ≡ Err aag_err.Unsupported = subst (λ x. header_of (words_of x) ≡ Err aag_err.Unsupported) same_row (later_row_is r l) in
      absurd (cc)))
      (λ h r more a k. (let q : row ∷ rest ≡ r ∷ more = sym are ∙ a in let same_row : r ≡ row = cc in
      let w : header_of (words_of row) ≡ Ok h = subst (λ x. header_of (words_of x) ≡ Ok h) same_row (header_row_is r h k) in cc))
      refl))
  | inr l ↦ refused text aag_err.Unsupported (later row rest are l.1 refl)
]

-- the lines behind a header
module _ (text row : List ℕ) (rest : List (List ℕ)) (are : lines text ≡ row ∷ rest) (h : Header) (header : IsHeaderRow row h) (w : IsItemsWalk h [] rest) where
  items_kinds : HaveKinds h w.items
  items_kinds p item e = let z : length {A = Item} [] + p ≡ p = omega arith in subst (λ n. kind_of_item item ≡ kind_at h n) z ((w.stretch).kinds p item e)

  begins : Begins text h w.items w.rest
  begins = search (rules, items_kinds)

  -- all items are there, and symbols behind them
  module _ (count : length w.items ≡ item_count h) (v : IsSymbolsWalk h [] w.rest) where
    symbols_begin : BeginsWithSymbols text h v.symbols v.rest
    symbols_begin = search (rules, begins, whole)

    abbrev found : Circuit
    found = circuit_with h w.items v.said

    of_format : IsComment v.rest → IsOfFormatWith text found v.symbols
    of_format comment = record {
      header_row = row;
      item_rows = w.item_rows;
      symbol_rows = v.symbol_rows;
      comment = v.rest;
      rows_are = are ∙ ap (λ l. row ∷ l) (w.rows_are ∙ ap (λ l. w.item_rows ++ l) v.rows_are);
      header = header;
      items = (w.stretch).are;
      sections = in_sections h w.items count items_kinds;
      range = (w.stretch).range;
      are_symbols = v.are;
      stand = v.stand;
      is_comment = comment;
      inputs = inputs_named h v.symbols v.said v.says;
      outputs = outputs_named h v.symbols v.said v.says;
    }

    symbols_settled : length text ≤ 67108864 → IsSymbolsEnd h v.symbols v.rest → IsSettled text
    symbols_settled l (symbol.IsSymbolsEnd.done comment) = format_settled text found v.symbols l (of_format comment)
    symbols_settled l (symbol.IsSymbolsEnd.formless r more at ne is) = refused text (aag_err.Malformed (item_count h + 2 + length v.symbols))
        (malformed_symbol h v.symbols r more (subst (BeginsWithSymbols text h v.symbols) at symbols_begin) ne
        (λ s k. let q : None ≡ Some s = sym is ∙ symbol_read r s k in cc) refl)
    symbols_settled l (symbol.IsSymbolsEnd.bad r more s at is may) = refused text (aag_err.BadSymbol (item_count h + 2 + length v.symbols) s.name)
        (bad_symbol h v.symbols r more s (subst (BeginsWithSymbols text h v.symbols) at symbols_begin) (symbol_spelled r s is) may refl)

  items_settled : length text ≤ 67108864 → IsItemsEnd h w.items w.rest → IsSettled text
  items_settled l (whole all) =
      let v = symbols_walk h (no_symbols h) [] w.rest (nothing_said h) in
      symbols_settled (omega arith) v l v.ends
  items_settled l (gone low at) = refused text (aag_err.Malformed (length w.items + 2)) (missing h w.items (subst (Begins text h w.items) at begins) low refl)
  items_settled l (formless r more low at is) = refused text (aag_err.Malformed (length w.items + 2)) (malformed h w.items r more (subst (Begins text h w.items) at begins) low
      (λ item here. let q : None ≡ Some item = sym is ∙ item_here h (length w.items) r item here in cc) refl)
  items_settled l (out r more item low at is f) = refused text (aag_err.Range (length w.items + 2)) (out_of_range h w.items r more item (subst (Begins text h w.items) at begins) low
      (record { is = item_spelled r (kind_at h (length w.items)) item is; of_kind = form_kind (kind_at h (length w.items)) (words_of r) item is }) f refl)

header_settled : (text row : List ℕ) (rest : List (List ℕ)) (r : Result Header AagErr) → length text ≤ 67108864 → lines text ≡ row ∷ rest → header_of (words_of row) ≡ r → IsSettled text
header_settled text row rest (Err e) l are is = no_first text row rest e are is
header_settled text row rest (Ok h) l are is = let w = items_walk h [] rest (omega arith) in items_settled text row rest are h (is_header_row row h is) w l w.ends

rows_settled : (text : List ℕ) (rows : List (List ℕ)) → length text ≤ 67108864 → lines text ≡ rows → IsSettled text
rows_settled text [] l are = refused text aag_err.Header (bad_header
    (λ row rest a k. let q : [] ≡ row ∷ rest = sym are ∙ a in cc)
    (λ h row rest a k. let q : [] ≡ row ∷ rest = sym are ∙ a in cc) refl)
rows_settled text (row ∷ rest) l are = header_settled text row rest (header_of (words_of row)) l are refl

pub settled : (text : List ℕ) → length text ≤ 67108864 → IsSettled text
settled text l = rows_settled text (lines text) l refl

-- so what is read is so
circuit_as : (text : List ℕ) (c : Circuit) → circuit_of text ≡ Ok c → IsSettled text → IsAigerText text c
circuit_as text c e (is_circuit d is same) = let q : d ≡ c = cc in subst (IsAigerText text) q is
circuit_as text c e (is_refused f is same) = absurd (cc)

refused_as : (text : List ℕ) (e : AagErr) → circuit_of text ≡ Err e → IsSettled text → IsRefused text e
refused_as text e is (is_circuit c k same) = absurd (cc)
refused_as text e is (is_refused f k same) = let q : f ≡ e = cc in subst (IsRefused text) q k

pub read_refused : (text : List ℕ) (e : AagErr) → length text ≤ 67108864 → circuit_of text ≡ Err e → IsRefused text e
read_refused text e l is = refused_as text e is (settled text l)

-- the same of a text whose length is reckoned
pub is_text : (text : List ℕ) (c : Circuit) → leb (length text) 67108864 ≡ true → circuit_of text ≡ Ok c → IsAigerText text c
is_text text c short e = circuit_as text c e (settled text (leb-true (length text) 67108864 short))

pub is_told : (text : List ℕ) (e : AagErr) → leb (length text) 67108864 ≡ true → circuit_of text ≡ Err e → IsRefused text e
is_told text e short is = read_refused text e (leb-true (length text) 67108864 short) is

pub read_library : (text : List ℕ) (library : LibraryValue) → length text ≤ 67108864 → IsLibraryIn (circuit_of text) library → IsLibraryOf text library
read_library text library l made = record { circuit = made.circuit; is = circuit_as text made.circuit made.is (settled text l); made = made.made }

abbrev pub library_read : (text : List ℕ) (library : LibraryValue) → IsLibraryOf text library → IsLibraryIn (circuit_of text) library
library_read text library made = record { circuit = made.circuit; is = text_read text made.circuit made.is; made = made.made }

-- what a call answers that reads a text
pub answer_library : (text : List ℕ) (r : Result LibraryValue AagErr) → length text ≤ 67108864 → IfOk r (λ library. IsLibraryIn (circuit_of text) library) → IfOk r (λ library. IsLibraryOf text library)
answer_library text (Ok library) l made = read_library text library l made
answer_library text (Err e) l made = made

pub answer_refusal : (text : List ℕ) (r : Result LibraryValue AagErr) → length text ≤ 67108864 → IfErr r (OrMemory refusal_of (λ e. circuit_of text ≡ Err e)) → IfErr r (OrMemory refusal_of (IsRefused text))
answer_refusal text (Ok library) l told = told
answer_refusal text (Err e) l told = OrMemory-map refusal_of (λ f. circuit_of text ≡ Err f) (IsRefused text) e (λ f is. read_refused text f l is) told

-- it has the runs of the text's circuit
pub text_runs_of : (text : List ℕ) (library : LibraryValue) → length text ≤ 67108864 → IsLibraryOf text library → HasRunsOf text library
text_runs_of text library l made = record {
  circuit = made.circuit;
  is = made.is;
  fit = λ sound. text_fit text library l (library_read text library made) sound;
  runs = text_runs text library l (library_read text library made);
}

-- and a text has one reading
some_reading : (text : List ℕ) → IsSettled text → HasCircuit text ⊎ HasRefusal text
some_reading text (is_circuit c is same) = inl (record { circuit = c; is = is })
some_reading text (is_refused e is same) = inr (record { refusal = e; is = is })

pub one_reading : (text : List ℕ) → length text ≤ 67108864 → HasOneReading text
one_reading text l = record {
  some = some_reading text (settled text l);
  one_circuit = λ c d x y. cc (text_read text c x, text_read text d y);
  one_refusal = λ e f x y. cc (refused_read text e x, refused_read text f y);
  not_both = λ c e x y. cc (refused_read text e y, text_read text c x);
}
