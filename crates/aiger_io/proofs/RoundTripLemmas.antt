-- A circuit's text: where its names are clean it is read, part by part, as the circuit that was written.
use Rattle.aiger_io.proofs.Common.{◌≡◌, ℕ, suc, ◌+◌, ◌^◌, ◌<◌, ◌≤◌, true, false, eqb, List, [], ◌∷◌, ◌++◌, length, map, Some, None, decimal, codes, inl, inr, refl, sym, ap, ◌∙◌, arith, append_assoc, append-nil, list_any, lines, In, In-left, In-right, place_in, IsClean, ends_in, AreOnce, has_in, AreClean, Circuit, is_header, item_count, is_in_range, port_names, is_twice, first_twice, SymbolsValue, kind_of, symbol_with, symbol_of, is_bad_byte, is_bad_name, numbered, numbered_text, header_words, item_words, symbol_text, circuit_text, Header, Item, LineKind, AllClean, one_clean, more_clean, nat_tests, and_parts, or_from, and_right, cond-false, cases_Bool, rules}
use Rattle.aiger_io.specs.declared.item.LineKind.TheVariants as kind
use Rattle.aiger_io.proofs.CleanLemmas.{default_clean}
use Rattle.aiger_io.proofs.LineLemmas.{header_small}
use Rattle.aiger_io.proofs.Format.RowLemmas.{symbol_split}
use Rattle.aiger_io.proofs.PlaceLemmas.{AreItems}
use Rattle.aiger_io.proofs.RowLemmas.{number_back, word_byte, row_of, line_back, item_lines, header_clean}

abbrev pub symbol_row : ℕ → ℕ → List ℕ → List ℕ
symbol_row letter k name = row_of ((letter ∷ decimal k) ∷ name ∷ [])

with_back : (letter k : ℕ) (name : List ℕ) (kd : LineKind) → kind_of letter ≡ Some kd → k < 2 ^ 64 → 0 < length name → symbol_with (letter ∷ decimal k) name ≡ Some (record { kind = kd; ordinal = k; name = name })
with_back letter k name kd e l some = grind (arith, number_back)

pub symbol_back : (letter k : ℕ) (name : List ℕ) (kd : LineKind) → kind_of letter ≡ Some kd → k < 2 ^ 64 → IsClean (letter ∷ decimal k) → IsClean name → symbol_of (symbol_row letter k name) ≡ Some (record { kind = kd; ordinal = k; name = name })
symbol_back letter k name kd e l key clean =
    ap (λ n. symbol_of ((letter ∷ decimal k) ++ 32 ∷ n)) (append-nil name)
    ∙ symbol_split (letter ∷ decimal k) name (λ b i. (word_byte (letter ∷ decimal k) b key i).no_blank)
    ∙ with_back letter k name kd e l clean.bytes.some

-- a clean name may stand
none_bad : (name : List ℕ) → ((b : ℕ) → In name b → is_bad_byte b ≡ false) → list_any is_bad_byte name ≡ false
none_bad [] h = refl
none_bad (b ∷ bs) h = or_from (is_bad_byte b) (list_any is_bad_byte bs) (h b (inl refl)) (none_bad bs (λ c i. h c (inr i)))

pub good_name : (name : List ℕ) → IsClean name → is_bad_name name ≡ false
good_name name c = or_from (list_any is_bad_byte name) (ends_in 92 name) (none_bad name (λ b i. (grind (arith, nat_tests)))) c.no_slash

module _ (h : Header) (letter : ℕ) (kd : LineKind) (is : kind_of letter ≡ Some kd) (keys : (k : ℕ) → k < 2 ^ 64 → IsClean (letter ∷ decimal k)) (no_c : eqb letter 99 ≡ false) where
  symbol_lines : (k : ℕ) (names : List (List ℕ)) (rest : List ℕ) → k + length names < 2 ^ 64 → AllClean names → lines (numbered_text (symbol_text letter) k names ++ rest) ≡ numbered (symbol_row letter) k names ++ lines rest
  symbol_lines k [] rest few clean = refl
  symbol_lines k (x ∷ xs) rest few clean =
      ap lines (append_assoc (symbol_text letter k x) (numbered_text (symbol_text letter) (suc k) xs) rest)
      ∙ line_back (letter ∷ decimal k) (x ∷ []) (numbered_text (symbol_text letter) (suc k) xs ++ rest) (more_clean (letter ∷ decimal k) (x ∷ []) (keys k (omega arith)) (one_clean x (clean x (inl refl))))
      ∙ ap (λ l. symbol_row letter k x ∷ l) (symbol_lines (suc k) xs rest (omega arith) (λ y i. clean y (inr i)))

-- names of which none stands twice
not_twice : (names : List (List ℕ)) (x : List ℕ) → AreOnce names → is_twice names x ≡ false
not_twice [] x once = refl
not_twice (n ∷ names) x once = search (rules, or_from, cases_Bool, and_parts, has_in, not_twice names x once.1)

pub none_twice : (h : Header) (said : SymbolsValue) (line : ℕ) (places : List ℕ) → AreOnce (port_names h said) → first_twice h said line places ≡ None
none_twice h said line [] once = refl
none_twice h said line (p ∷ ps) once = grind (arith, cond-false, and_right, not_twice, none_twice h said (line + 1) ps once)

-- A circuit that goes together: its header does, its items are as many as the header says, of the kinds of their places and in range, and it has a name for
-- each input and each output.
pub record IsFormed (c : Circuit) : Type 0 where
  pub header : is_header c.header ≡ true
  pub few : c.header.outputs < 2 ^ 64
  pub count : length c.items ≡ item_count c.header
  pub items : AreItems c.header c.items
  pub inputs : length c.inputs ≡ c.header.inputs
  pub outputs : length c.outputs ≡ c.header.outputs

module _ (c : Circuit) (w : IsFormed c) (clean : AreClean (c.inputs ++ c.outputs)) where
  pub most : c.header.variables ≤ 1073741824
  most = (header_small c.header w.header).most

  pub few_inputs : c.header.inputs < 2 ^ 64
  few_inputs = let h = header_small c.header w.header in let s : c.header.inputs + c.header.latches + c.header.ands ≤ c.header.variables = h.sum in let m : c.header.variables ≤ 1073741824 = h.most in omega arith

  abbrev item_rows : List (List ℕ)
  item_rows = map (λ (item : Item). row_of (item_words item)) c.items

  abbrev symbol_rows : List (List ℕ)
  symbol_rows = numbered (symbol_row 105) 0 c.inputs ++ (numbered (symbol_row 111) 0 c.outputs ++ [])

  inputs_clean : AllClean c.inputs
  inputs_clean x i = clean x (In-left c.inputs c.outputs x i)

  outputs_clean : AllClean c.outputs
  outputs_clean x i = clean x (In-right c.inputs c.outputs x i)

  pub range_of : (item : Item) → In c.items item → is_in_range c.header.variables item ≡ true
  range_of item i = let p = place_in c.items item i in (w.items p.0 item p.1).range

  output_rows : lines (numbered_text (symbol_text 111) 0 c.outputs) ≡ numbered (symbol_row 111) 0 c.outputs ++ []
  output_rows =
      ap lines (sym (append-nil (numbered_text (symbol_text 111) 0 c.outputs)))
      ∙ symbol_lines c.header 111 kind.Output refl (λ k l. default_clean 111 k (inr refl) l) refl 0 c.outputs [] (omega arith) outputs_clean

  pub text_rows : lines (circuit_text c) ≡ row_of (header_words c.header) ∷ (item_rows ++ symbol_rows)
  text_rows =
      let n : length c.inputs ≡ c.header.inputs = w.inputs in let f : c.header.inputs < 2 ^ 64 = few_inputs in
      line_back (codes "aag") (decimal c.header.variables ∷ decimal c.header.inputs ∷ decimal c.header.latches ∷ decimal c.header.outputs ∷ decimal c.header.ands ∷ []) _ (header_clean c.header most w.header w.few)
      ∙ ap (λ l. row_of (header_words c.header) ∷ l) (
      item_lines c.header most c.items (numbered_text (symbol_text 105) 0 c.inputs ++ numbered_text (symbol_text 111) 0 c.outputs) range_of
      ∙ ap (λ l. item_rows ++ l) (symbol_lines c.header 105 kind.Input refl (λ k l. default_clean 105 k (inl refl) l) refl 0 c.inputs (numbered_text (symbol_text 111) 0 c.outputs) (omega arith) inputs_clean
      ∙ ap (λ l. numbered (symbol_row 105) 0 c.inputs ++ l) output_rows))
