-- The generated netlist as it is read: its lines are those that are written, and no flat circuit of it has more outputs than their `.outputs` lines name.
use Rattle.cmd_run.proofs.Common.{◌≡◌, ℕ, ◌+◌, ◌-◌, ◌*◌, ◌≤◌, Bool, true, false, ◌&&◌, not, eqb, leb, ltb, List, [], ◌∷◌, ◌++◌, length, map, get_or, slice_get, codes, Some, Ok, refl, sym, ap, ◌∙◌, inl, inr, arith, append_assoc, append-nil, length-append, flat_map, list_all, and_parts, and_left, or_from, leb-true, eqb-false, le-ltb, ne_eqb, not-true, length-map, map-append, length-map-range_with_len, none-some, same_Some, In, In-get_or, LineValue, words_line, line_text, text_of, below}
use Rattle.gen_case.specs.Netlist.{netlist_lines, bus_names, head_lines, partial_lines, adder_lines, output_lines, end_lines, all_partials, all_adders, all_outputs, net_name}
use Rattle.tl_text.specs.Clean.{IsClean}
use Rattle.tl_text.specs.Lines.{is_bad, lines_of}
use Rattle.tl_text.specs.Tokens.{is_blank}
use Rattle.tl_text.specs.WrittenText as written
use Rattle.tl_text.proofs.WrittenLineLemmas.{IsCleanLine, AreCleanLines, numbered, numbered-append, ReadsAgain, reads_again}
use Rattle.netlist.specs.declared.flat.OutPort.{OutPort}
use Rattle.netlist.specs.FlatValue.{FlatValue}
use Rattle.netlist.specs.Flat.{IsFlat}
use Rattle.netlist.specs.LibraryValue.{ModelValue, LibraryValue, output_ports}
use Rattle.blif_read.specs.Denotes.{port_names, names_in, AreModels, none, model, Denotes}
use Rattle.blif_read.specs.Statement.{StatementValue, statement_of, statements}
use Rattle.blif_read.proofs.PortLemmas.{names_in-append}
use Rattle.gen_case.specs.declared.net.Bus.TheVariants.{Product}
use Rattle.gen_case.specs.declared.net.CaseNet.TheVariants.{Digit}
use Rattle.gen_case.specs.Steps.{after_blanks}
use Rattle.gen_case.proofs.LineLemmas.{joined}
use Rattle.gen_case.proofs.PlainLemmas.{is_plain, is_plain_word, is_plain_line, netlist_plain}

-- words of plain bytes are clean
record IsPlain (b : ℕ) : Type 0 where
  low : 45 ≤ b
  high : b ≤ 122
  other : b ≡ 92 → ⊥

plain_byte : (b : ℕ) → is_plain b ≡ true → IsPlain b
plain_byte b t =
    let p = and_parts (leb 45 b && leb b 122) (not (eqb b 92)) t in
    let q = and_parts (leb 45 b) (leb b 122) p.0 in
    record { low = leb-true 45 b q.0; high = leb-true b 122 q.1; other = eqb-false b 92 (not-true (eqb b 92) p.1) }

each_plain : {A : Type 0} (test : A → Bool) (xs : List A) → list_all test xs ≡ true → (x : A) → In xs x → test x ≡ true
each_plain test [] h x i = absurd i
each_plain test (y ∷ ys) h x (inl e) = ap test e ∙ (and_parts (test y) (list_all test ys) h).0
each_plain test (y ∷ ys) h x (inr i) = each_plain test ys (and_parts (test y) (list_all test ys) h).1 x i

not_blank : (b : ℕ) → IsPlain b → is_blank b ≡ false
not_blank b p = let l : 45 ≤ b = p.low in or_from (eqb b 32) (eqb b 9) (ne_eqb b 32 (λ e. let q : b ≡ 32 = e in omega arith)) (ne_eqb b 9 (λ e. let q : b ≡ 9 = e in omega arith))

not_bad : (b : ℕ) → IsPlain b → is_bad b ≡ false
not_bad b p =
    let l : 45 ≤ b = p.low in
    let h : b ≤ 122 = p.high in
    or_from (ltb b 32 && not (eqb b 9)) (eqb b 127) (and_left (ltb b 32) (not (eqb b 9)) (le-ltb b 32 (omega arith))) (ne_eqb b 127 (λ e. let q : b ≡ 127 = e in omega arith))

word_clean : (w : List ℕ) → is_plain_word w ≡ true → IsClean w
word_clean [] h = absurd (let wrong : ⊥ = cc in wrong)
word_clean (c ∷ w) h =
    let plain : (b : ℕ) → In (c ∷ w) b → IsPlain b = λ b i. plain_byte b (each_plain is_plain (c ∷ w) h b i) in
    record {
      bytes = record {
        some = omega arith;
        no_blank = λ b i. not_blank b (plain b i);
        no_bad = λ b i. not_bad b (plain b i);
        no_comment = λ b i e. let l : 45 ≤ b = (plain b i).low in let q : b ≡ 35 = e in omega arith;
      };
      no_slash = ne_eqb (get_or (c ∷ w) (length (c ∷ w) - 1) 0) 92 (plain (get_or (c ∷ w) (length (c ∷ w) - 1) 0) (In-get_or (c ∷ w) (length (c ∷ w) - 1) 0 (omega arith))).other;
    }

line_clean : (line : List (List ℕ)) → is_plain_line line ≡ true → IsCleanLine line
line_clean [] h = absurd (let wrong : ⊥ = cc in wrong)
line_clean (w ∷ ws) h = λ u i. word_clean u (each_plain is_plain_word (w ∷ ws) h u i)

lines_clean : (lines : List (List (List ℕ))) → list_all is_plain_line lines ≡ true → AreCleanLines lines
lines_clean lines h = λ line i. line_clean line (each_plain is_plain_line lines h line i)

-- the lines are read as they are written
same_line : (words : List (List ℕ)) → line_text words ≡ written.line_text words
same_line [] = refl
same_line (w ∷ ws) = ap (λ (t : List ℕ). t ++ codes "\n") (joined w ws) ∙ append_assoc w (after_blanks ws) (codes "\n")

same_text : (lines : List (List (List ℕ))) → text_of lines ≡ flat_map written.line_text lines
same_text [] = refl
same_text (line ∷ lines) = ap (λ (t : List ℕ). t ++ text_of lines) (same_line line) ∙ ap (λ (t : List ℕ). written.line_text line ++ t) (same_text lines)

abbrev statements_of : ℕ → List (List (List ℕ)) → List StatementValue
statements_of number lines = map statement_of (numbered number lines)

statements_words : (text : List ℕ) (lines : List LineValue) → statements text lines ≡ map statement_of (map (words_line text) lines)
statements_words text [] = refl
statements_words text (line ∷ lines) = ap (λ (t : List StatementValue). statement_of (words_line text line) ∷ t) (statements_words text lines)

text_read : (lines : List (List (List ℕ))) (logical : List LineValue) → AreCleanLines lines → lines_of (text_of lines) ≡ Ok logical → statements (text_of lines) logical ≡ statements_of 1 lines
text_read lines logical clean is =
    let r : ReadsAgain lines = reads_again lines clean in
    let again : lines_of (text_of lines) ≡ Ok r.logical = ap lines_of (same_text lines) ∙ r.are in
    let same : logical ≡ r.logical = cc (is, again) in
    ap (λ ls. statements (text_of lines) ls) same
    ∙ ap (λ t. statements t r.logical) (same_text lines)
    ∙ statements_words (flat_map written.line_text lines) r.logical
    ∙ ap (λ ls. map statement_of ls) r.words

-- the names of its outputs
abbrev outputs_in : ℕ → List (List (List ℕ)) → List (List ℕ)
outputs_in number lines = names_in output_ports (statements_of number lines)

outputs_joined : (number : ℕ) (xs ys : List (List (List ℕ))) → outputs_in number (xs ++ ys) ≡ outputs_in number xs ++ outputs_in (number + length xs) ys
outputs_joined number xs ys =
    ap (λ ls. names_in output_ports (map statement_of ls)) (numbered-append number xs ys)
    ∙ ap (names_in output_ports) (map-append statement_of (numbered number xs) (numbered (number + length xs) ys))
    ∙ names_in-append output_ports (statements_of number xs) (statements_of (number + length xs) ys)

none_named : (f : ℕ → List (List (List ℕ))) → ((number x : ℕ) → outputs_in number (f x) ≡ []) → (number : ℕ) (xs : List ℕ) → outputs_in number (flat_map f xs) ≡ []
none_named f h number [] = refl
none_named f h number (x ∷ xs) =
    outputs_joined number (f x) (flat_map f xs)
    ∙ ap (λ (names : List (List ℕ)). names ++ outputs_in (number + length (f x)) (flat_map f xs)) (h number x)
    ∙ none_named f h (number + length (f x)) xs

passed_by : (number : ℕ) (xs ys : List (List (List ℕ))) (count : ℕ) → outputs_in number xs ≡ [] → ((next : ℕ) → length (outputs_in next ys) ≡ count) → length (outputs_in number (xs ++ ys)) ≡ count
passed_by number xs ys count quiet rest =
    ap length (outputs_joined number xs ys ∙ ap (λ (names : List (List ℕ)). names ++ outputs_in (number + length xs) ys) quiet) ∙ rest (number + length xs)

outputs_counted : (n number : ℕ) → length (outputs_in number (netlist_lines n)) ≡ 2 * n + 2
unfolding netlist_lines
outputs_counted n number =
    let rest : List (List (List ℕ)) = all_partials n ++ (all_adders n ++ (all_outputs n ++ end_lines)) in
    let tail : (next : ℕ) → length (outputs_in next rest) ≡ 2 =
    λ next. passed_by next (all_partials n) (all_adders n ++ (all_outputs n ++ end_lines)) 2
    (none_named (λ j. flat_map (partial_lines j) (below n)) (λ k j. none_named (partial_lines j) (λ l i. refl) k (below n)) next (below n))
    (λ k. passed_by k (all_adders n) (all_outputs n ++ end_lines) 2
    (none_named (λ j. flat_map (adder_lines n j) (below n)) (λ l j. none_named (adder_lines n j) (λ m i. refl) l (below n)) k _)
    (λ l. passed_by l (all_outputs n) end_lines 2 (none_named (output_lines n) (λ m t. refl) l (below (2 * n))) (λ m. refl))) in
    let head : length (outputs_in number (head_lines n)) ≡ 2 * n = ap length (append-nil (bus_names Product (2 * n))) ∙ length-map-range_with_len (λ place. net_name (Digit Product place)) 0 (2 * n) in
    let all : length (outputs_in number (head_lines n ++ rest)) ≡ length (outputs_in number (head_lines n)) + length (outputs_in (number + 4) rest) =
    ap length (outputs_joined number (head_lines n) rest) ∙ length-append (outputs_in number (head_lines n)) (outputs_in (number + 4) rest) in
    omega (arith, all, head, tail (number + 4))

-- The main model has no other names among its outputs than those of all lines.
main_outputs : {ss : List StatementValue} {models : List ModelValue} (main : ModelValue) → AreModels ss models → slice_get models 0 ≡ Some main → length main.outputs ≤ length (names_in output_ports ss)
main_outputs main none e = absurd (none-some main e)
main_outputs main (model header body rest ss first models is split others) e =
    let same : main ≡ first = sym (same_Some first main e) in
    let named : main.outputs ≡ names_in output_ports body = ap (λ (m : ModelValue). m.outputs) same ∙ is.ports output_ports in
    let few : length main.outputs ≡ length (names_in output_ports body) = ap length named in
    let all : length (names_in output_ports ss) ≡ length (names_in output_ports body) + length (names_in output_ports rest) =
    ap (λ (t : List StatementValue). length (names_in output_ports t)) split ∙ ap length (names_in-append output_ports body rest) ∙ length-append (names_in output_ports body) (names_in output_ports rest) in
    let more : length (names_in output_ports (header ∷ ss)) ≡ length (port_names output_ports header.keyword header.arguments) + length (names_in output_ports ss) =
    length-append (port_names output_ports header.keyword header.arguments) (names_in output_ports ss) in
    omega (arith, few, all, more)

pub few_outputs : (n : ℕ) (library : LibraryValue) (flat : FlatValue) → n ≤ 32 → Denotes (text_of (netlist_lines n)) library → IsFlat library flat → length flat.outputs ≤ 2 * n + 2
few_outputs n library flat h denotes is =
    let read = text_read (netlist_lines n) denotes.lines (lines_clean (netlist_lines n) (netlist_plain n h)) denotes.lines_are in
    let main : length (is.main).outputs ≤ length (names_in output_ports (statements (text_of (netlist_lines n)) denotes.lines)) = main_outputs is.main denotes.models_are.models is.is_main in
    let named : length (names_in output_ports (statements (text_of (netlist_lines n)) denotes.lines)) ≡ 2 * n + 2 = ap (λ (ss : List StatementValue). length (names_in output_ports ss)) read ∙ outputs_counted n 1 in
    let same : length flat.outputs ≡ length (is.main).outputs = sym (length-map flat.outputs (λ (o : OutPort). o.name)) ∙ ap length is.output_names in
    omega (arith, main, named, same)
