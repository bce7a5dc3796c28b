-- The parts of a text that is written. Where the circuit goes together and has clean names, its text is of the format: each of its lines spells what it says.
use Rattle.aiger_io.proofs.Common.{◌≡◌, ℕ, zero, suc, ◌+◌, Bool, List, [], ◌∷◌, ◌++◌, length, map, take, codes, Some, refl, sym, ap, ◌∙◌, arith, append_assoc, append-nil, slice_get, flat_map, range_with_len, length-map, flat_map-append, same_Some, Aig, first_and, RootsValue, FlatValue, FlatLatch, OutPort, Param, IsAdded, added_to, line_text, words_text, input_count, input_item, latch_item, output_item, gate_item, graph_items, graph_header, input_at, graph_circuit, numbered, numbered_text, header_words, init_words, item_text, symbol_text, circuit_text, Item, lines_text, symbols_text, ◌^◌, ◌<◌, ◌≤◌, true, decimal, inl, inr, subst, slice_get_within, In, In-push, In-left, In-right, place_in, get_left, get_right, AreClean, IsClean, AreOnce, AllClean, IsOfFormat, IsOfFormatWith, IsAigerText, Circuit, by_symbol, StandsTwice, IsNameRefused, alike, Symbol, AreSymbolRows, AllStand, count_of, kind_of, item_words, Header, LineKind, AreItemRows, item_count, is_in_range}
use Rattle.std.proofs.lemmas.List.Folds.{flat_map-map}
use Rattle.tl_io.specs.Sink.{SinkSeen}
use Rattle.tl_piece.specs.declared.writer.Writer.{Writer}
use Rattle.aiger_io.specs.declared.item.LineKind.TheVariants as kind
use Rattle.aiger_io.proofs.Format.AigerTextLemmas.{format_parsed, ports_of, in_sections}
use Rattle.aiger_io.proofs.Format.RowLemmas.{is_header_row, item_spelled, symbol_spelled}
use Rattle.aiger_io.proofs.PlaceLemmas.{kind_of_item}
use Rattle.aiger_io.proofs.Format.SaidLemmas.{never, first, twice_end}
use Rattle.aiger_io.proofs.RoundTripLemmas.{IsFormed, symbol_row, symbol_back, good_name, most, few_inputs, range_of, text_rows}
use Rattle.aiger_io.proofs.RowLemmas.{row_of, header_back, item_read_back}
use Rattle.aiger_io.proofs.CleanLemmas.{default_clean}

-- one more of those by numbers
pub numbered_more : {X : Type 0} (f : ℕ → X → List ℕ) (n : ℕ) (xs : List X) (i : ℕ) (x : X) → slice_get xs i ≡ Some x → numbered_text f n (take i xs) ++ f (n + i) x ≡ numbered_text f n (take (i + 1) xs)
numbered_more f n [] i x e = absurd (cc)
numbered_more f n (y ∷ ys) zero x e = grind (arith, same_Some, append-nil)
numbered_more f n (y ∷ ys) (suc i) x e = grind (arith, append_assoc, numbered_more f (suc n) ys i x e)

-- texts of things by numbers
pub numbered_texts : {X : Type 0} (g : ℕ → X → Item) (n : ℕ) (xs : List X) → flat_map item_text (numbered g n xs) ≡ numbered_text (λ k x. item_text (g k x)) n xs
numbered_texts g n [] = refl
numbered_texts g n (x ∷ xs) = ap (λ t. item_text (g n x) ++ t) (numbered_texts g (suc n) xs)

numbered_both : {X : Type 0} (f : ℕ → X → List ℕ) (n m : ℕ) (xs ys : List X) → n + length xs ≡ m → numbered_text f n (xs ++ ys) ≡ numbered_text f n xs ++ numbered_text f m ys
numbered_both f n m [] ys e = let z : n ≡ m = omega arith in ap (λ k. numbered_text f k ys) z
numbered_both f n m (x ∷ xs) ys e = grind (arith, append_assoc, numbered_both f (suc n) m xs ys (omega arith))

numbered_named : {X : Type 0} (f : ℕ → List ℕ → List ℕ) (name : X → List ℕ) (n : ℕ) (xs : List X) → numbered_text f n (map name xs) ≡ numbered_text (λ k x. f k (name x)) n xs
numbered_named f name n [] = refl
numbered_named f name n (x ∷ xs) = ap (λ t. f n (name x) ++ t) (numbered_named f name (suc n) xs)

pub header_line : (v i l o a : List ℕ) → codes "aag" ++ ((32 ∷ v) ++ ((32 ∷ i) ++ ((32 ∷ l) ++ ((32 ∷ o) ++ ((32 ∷ a) ++ 10 ∷ []))))) ≡ line_text (codes "aag" ∷ v ∷ i ∷ l ∷ o ∷ a ∷ [])
header_line v i l o a = simp append_assoc

pub latch_line : (own next : List ℕ) (init : Bool) → own ++ ((32 ∷ next) ++ (words_text (init_words init) ++ 10 ∷ [])) ≡ line_text (own ∷ next ∷ init_words init)
latch_line own next init = simp append_assoc

pub gate_line : (own left right : List ℕ) → own ++ ((32 ∷ left) ++ ((32 ∷ right) ++ 10 ∷ [])) ≡ line_text (own ∷ left ∷ right ∷ [])
gate_line own left right = simp append_assoc

pub symbol_line : (letter : ℕ) (ordinal name : List ℕ) → (letter ∷ []) ++ (ordinal ++ ((32 ∷ []) ++ (name ++ 10 ∷ []))) ≡ line_text ((letter ∷ ordinal) ∷ name ∷ [])
symbol_line letter ordinal name = simp (append_assoc, append-nil)

-- the whole text
items_text : (inputs : ℕ) (latches : List FlatLatch) (g : Aig) (roots : RootsValue) → flat_map item_text (graph_items inputs latches g roots)
    ≡ flat_map (λ (n : ℕ). item_text (input_item n)) (range_with_len 1 inputs) ++ (numbered_text (λ k latch. item_text (latch_item inputs roots.next k latch)) 0 latches
    ++ (flat_map (λ l. item_text (output_item l)) roots.outputs ++ numbered_text (λ n pair. item_text (gate_item n pair)) (first_and g) g.pairs))
items_text inputs latches g roots = grind (arith, flat_map-append, flat_map-map, numbered_texts)

names_text : (flat : FlatValue) (params : List Param) (regular : List ℕ) → numbered_text (symbol_text 105) 0 (map (input_at flat) regular ++ map (λ (p : Param). p.name) params) ++ numbered_text (symbol_text 111) 0 (map (λ (o : OutPort). o.name) flat.outputs)
    ≡ symbols_text flat params regular
names_text flat params regular =
    ap (λ t. t ++ numbered_text (symbol_text 111) 0 (map (λ (o : OutPort). o.name) flat.outputs)) (
    numbered_both (symbol_text 105) 0 (length regular) (map (input_at flat) regular) (map (λ (p : Param). p.name) params) (omega (arith, length-map regular (input_at flat)))
    ∙ ap (λ t. t ++ numbered_text (symbol_text 105) (length regular) (map (λ (p : Param). p.name) params)) (numbered_named (symbol_text 105) (input_at flat) 0 regular)
    ∙ ap (λ t. numbered_text (λ k i. symbol_text 105 k (input_at flat i)) 0 regular ++ t) (numbered_named (symbol_text 105) (λ (p : Param). p.name) (length regular) params))
    ∙ append_assoc (numbered_text (λ k i. symbol_text 105 k (input_at flat i)) 0 regular) (numbered_text (λ k (p : Param). symbol_text 105 k p.name) (length regular) params) (numbered_text (symbol_text 111) 0 (map (λ (o : OutPort). o.name) flat.outputs))
    ∙ ap (λ t. numbered_text (λ k i. symbol_text 105 k (input_at flat i)) 0 regular ++ (numbered_text (λ k (p : Param). symbol_text 105 k p.name) (length regular) params ++ t)) (numbered_named (symbol_text 111) (λ (o : OutPort). o.name) 0 flat.outputs)

pub whole_text : (inputs : ℕ) (flat : FlatValue) (params : List Param) (regular : List ℕ) (g : Aig) (roots : RootsValue) → inputs ≡ input_count regular params → lines_text inputs flat g roots ++ symbols_text flat params regular ≡ circuit_text (graph_circuit flat params regular g roots)
whole_text inputs flat params regular g roots e =
    let names : List ℕ = numbered_text (symbol_text 105) 0 (map (input_at flat) regular ++ map (λ (p : Param). p.name) params) ++ numbered_text (symbol_text 111) 0 (map (λ (o : OutPort). o.name) flat.outputs) in
    append_assoc (line_text (header_words (graph_header inputs flat g roots))) _ (symbols_text flat params regular)
    ∙ ap (λ t. line_text (header_words (graph_header inputs flat g roots)) ++ t) (
    ap (λ t. t ++ symbols_text flat params regular) (sym (items_text inputs flat.latches g roots))
    ∙ ap (λ t. flat_map item_text (graph_items inputs flat.latches g roots) ++ t) (sym (names_text flat params regular)))
    ∙ ap (λ (n : ℕ). line_text (header_words (graph_header n flat g roots)) ++ (flat_map item_text (graph_items n flat.latches g roots) ++ names)) e

-- a loop adds the text of the next one
pub added_numbered : {O X : Type 0} {seen : O → SinkSeen} {old mid new : Writer O} (f : ℕ → X → List ℕ) (n : ℕ) (xs : List X) (i m : ℕ) (x : X) → slice_get xs i ≡ Some x → m ≡ n + i
    → IsAdded seen old (numbered_text f n (take i xs)) mid → IsAdded seen mid (f m x) new → IsAdded seen old (numbered_text f n (take (i + 1) xs)) new
added_numbered f n xs i m x at is a b = added_to (ap (λ k. numbered_text f n (take i xs) ++ f k x) is ∙ numbered_more f n xs i x at) a b

-- the symbols of names
abbrev pub symbol_by : LineKind → ℕ → List ℕ → Symbol
symbol_by k n name = record { kind = k; ordinal = n; name = name }

abbrev pub symbols_from : LineKind → ℕ → List (List ℕ) → List Symbol
symbols_from k n names = numbered (symbol_by k) n names

one_kind : (k : LineKind) (n : ℕ) (names : List (List ℕ)) (s : Symbol) → In (symbols_from k n names) s → s.kind ≡ k
one_kind k n [] s i = absurd i
one_kind k n (x ∷ xs) s (inl e) = ap (λ (t : Symbol). t.kind) e
one_kind k n (x ∷ xs) s (inr i) = one_kind k (suc n) xs s i

among : (k : LineKind) (n i : ℕ) (names : List (List ℕ)) (x : List ℕ) → slice_get names i ≡ Some x → In (symbols_from k n names) (symbol_by k (n + i) x)
among k n i [] x e = absurd (cc)
among k n zero (y ∷ ys) x e = let same : y ≡ x = cc in let z : n + zero ≡ n = omega arith in inl (ap (λ m. symbol_by k m x) z ∙ ap (symbol_by k n) (sym same))
among k n (suc i) (y ∷ ys) x e = let z : suc n + i ≡ n + suc i = omega arith in inr (subst (λ m. In (symbols_from k (suc n) ys) (symbol_by k m x)) z (among k (suc n) i ys x e))

-- each may stand behind those before it
stand_by : (h : Header) (k : LineKind) (earlier : List Symbol) (n : ℕ) (names : List (List ℕ)) → ((t : Symbol) → In earlier t → t.kind ≡ k → t.ordinal < n) → n + length names ≤ count_of h k → AllClean names → AllStand h earlier (symbols_from k n names)
stand_by h k earlier n [] before few clean = tt
stand_by h k earlier n (x ∷ xs) before few clean = grind (arith, good_name, stand_by h k (earlier ++ symbol_by k n x ∷ []) (suc n) xs (λ t i same. elim (In-push earlier (symbol_by k n x) t i) [ inl j ↦ (let l : t.ordinal < n = before t j same in omega arith) | inr e ↦ (let l : t.ordinal ≡ n = ap (λ (s : Symbol). s.ordinal) e in omega arith) ]) (omega arith) (λ y i. clean y (inr i)))

stand_both : (h : Header) (earlier xs ys : List Symbol) → AllStand h earlier xs → AllStand h (earlier ++ xs) ys → AllStand h earlier (xs ++ ys)
stand_both h earlier [] ys a b = subst (λ e. AllStand h e ys) (append-nil earlier) b
stand_both h earlier (x ∷ xs) ys a b = (a.0, stand_both h (earlier ++ x ∷ []) xs ys a.1 (subst (λ e. AllStand h e ys) (sym (append_assoc earlier (x ∷ []) xs)) b))

-- each line is its symbol
rows_by : (letter : ℕ) (k : LineKind) (n : ℕ) (names : List (List ℕ)) → kind_of letter ≡ Some k → ((m : ℕ) → m < 2 ^ 64 → IsClean (letter ∷ decimal m)) → n + length names < 2 ^ 64 → AllClean names → AreSymbolRows (numbered (symbol_row letter) n names) (symbols_from k n names)
rows_by letter k n [] is keys few clean = tt
rows_by letter k n (x ∷ xs) is keys few clean = grind (arith, symbol_spelled, symbol_row, symbol_back, rows_by letter k (suc n) xs is keys (omega arith) (λ y i. clean y (inr i)))

both_rows : (rows more : List (List ℕ)) (xs ys : List Symbol) → AreSymbolRows rows xs → AreSymbolRows more ys → AreSymbolRows (rows ++ more) (xs ++ ys)
both_rows [] more [] ys a b = b
both_rows (row ∷ rows) more (x ∷ xs) ys a b = (a.0, both_rows rows more xs ys a.1 b)
both_rows rows more xs ys a b = absurd a

module _ (h : Header) (small : h.variables ≤ 1073741824) where
  item_rows_are : (items : List Item) → ((item : Item) → In items item → is_in_range h.variables item ≡ true) → AreItemRows (map (λ (item : Item). row_of (item_words item)) items) items
  item_rows_are [] range = tt
  item_rows_are (item ∷ items) range = (
    item_spelled (row_of (item_words item)) (kind_of_item item) item (item_read_back h small item (range item (inl refl))),
    item_rows_are items (λ i j. range i (inr j)),
  )

module _ (c : Circuit) (w : IsFormed c) (clean : AreClean (c.inputs ++ c.outputs)) where
  abbrev inputs_said : List Symbol
  inputs_said = symbols_from kind.Input 0 c.inputs

  abbrev outputs_said : List Symbol
  outputs_said = symbols_from kind.Output 0 c.outputs

  clean_inputs : AllClean c.inputs
  clean_inputs x i = clean x (In-left c.inputs c.outputs x i)

  clean_outputs : AllClean c.outputs
  clean_outputs x i = clean x (In-right c.inputs c.outputs x i)

  no_output : (t : Symbol) → In inputs_said t → t.kind ≡ kind.Output → t.ordinal < 0
  no_output t i e = absurd (let q : kind.Input ≡ kind.Output = sym (one_kind kind.Input 0 c.inputs t i) ∙ e in cc)

  text_written : IsOfFormatWith (circuit_text c) c (inputs_said ++ outputs_said)
  text_written =
      let f : c.header.outputs < 2 ^ 64 = w.few in let g : c.header.inputs < 2 ^ 64 = few_inputs c w clean in
      record {
        header_row = row_of (header_words c.header);
        item_rows = map (λ (item : Item). row_of (item_words item)) c.items;
        symbol_rows = numbered (symbol_row 105) 0 c.inputs ++ numbered (symbol_row 111) 0 c.outputs;
        comment = [];
        rows_are = text_rows c w clean ∙ ap (λ l. row_of (header_words c.header) ∷ (map (λ (item : Item). row_of (item_words item)) c.items ++ l)) (sym (append_assoc (numbered (symbol_row 105) 0 c.inputs) (numbered (symbol_row 111) 0 c.outputs) []));
        header = is_header_row (row_of (header_words c.header)) c.header (header_back c.header (most c w clean) w.header w.few []);
        items = item_rows_are c.header (most c w clean) c.items (range_of c w clean);
        sections = in_sections c.header c.items w.count (λ p item e. (w.items p item e).kind);
        range = range_of c w clean;
        are_symbols = both_rows (numbered (symbol_row 105) 0 c.inputs) (numbered (symbol_row 111) 0 c.outputs) inputs_said outputs_said
            (rows_by 105 kind.Input 0 c.inputs refl (λ k l. default_clean 105 k (inl refl) l) (omega arith) clean_inputs) (rows_by 111 kind.Output 0 c.outputs refl (λ k l. default_clean 111 k (inr refl) l) (omega arith) clean_outputs);
        stand = stand_both c.header [] inputs_said outputs_said (stand_by c.header kind.Input [] 0 c.inputs (λ t i e. absurd i) (omega arith) clean_inputs)
            (stand_by c.header kind.Output inputs_said 0 c.outputs no_output (omega arith) clean_outputs);
        is_comment = tt;
        inputs = record { count_is = w.inputs; each = λ i x e. let z : 0 + i ≡ i = omega arith in by_symbol (In-left inputs_said outputs_said (symbol_by kind.Input i x) (subst (λ k. In inputs_said (symbol_by kind.Input k x)) z (among kind.Input 0 i c.inputs x e))) };
        outputs = record { count_is = w.outputs; each = λ i x e. let z : 0 + i ≡ i = omega arith in by_symbol (In-right inputs_said outputs_said (symbol_by kind.Output i x) (subst (λ k. In outputs_said (symbol_by kind.Output k x)) z (among kind.Output 0 i c.outputs x e))) };
      }

  pub text_format : IsOfFormat (circuit_text c) c
  text_format = record { symbols = inputs_said ++ outputs_said; are = text_written }

  pub text_is : AreOnce (c.inputs ++ c.outputs) → IsAigerText (circuit_text c) c
  text_is once = record { format = text_format; once = once }

  -- and where an output has the name of an input, the text is refused for it
  both_named : (name : List ℕ) → In c.inputs name → In c.outputs name → StandsTwice (c.inputs ++ c.outputs) name
  both_named name i o =
      let p = place_in c.inputs name i in
      let q = place_in c.outputs name o in
      let low : p.0 < length c.inputs = slice_get_within c.inputs p.0 name p.1 in
      record { first = p.0; second = length c.inputs + q.0; order = omega arith; here = get_left c.inputs c.outputs p.0 name p.1; there = get_right c.inputs c.outputs q.0 name q.1 }

  pub alike_refused : (name : List ℕ) → In c.inputs name → In c.outputs name → IsNameRefused (circuit_text c)
  alike_refused name i o =
      let p = place_in c.inputs name i in
      let z : 0 + p.0 ≡ p.0 = omega arith in
      let symbol : In (inputs_said ++ outputs_said) (symbol_by kind.Input p.0 name) = In-left inputs_said outputs_said (symbol_by kind.Input p.0 name) (subst (λ k. In inputs_said (symbol_by kind.Input k name)) z (among kind.Input 0 p.0 c.inputs name p.1)) in
      let r = format_parsed (circuit_text c) c (inputs_said ++ outputs_said) text_written in
      elim (twice_end c (inputs_said ++ outputs_said) r.said r.says (ports_of (circuit_text c) c r.said r.parsed) (item_count c.header + 2) (inputs_said ++ outputs_said) (λ t j. j)) [
        | never none is ↦ absurd (none (symbol_by kind.Input p.0 name) symbol (record { port = tt; twice = both_named name i o }))
        | first before after s split none a is ↦ record {
          line = item_count c.header + 2 + length before;
          name = s.name;
          refused = alike c before after s (subst (IsOfFormatWith (circuit_text c) c) split text_written) none a refl;
        }
      ]
