-- The text of a netlist without hierarchy denotes its one model.
use Rattle.blif_write.proofs.Common.{◌≡◌, ℕ, suc, ◌+◌, ◌-◌, Bool, true, false, cond, List, [], ◌∷◌, ◌++◌, length, map, codes, bytes_eq, Option, Some, None, refl, sym, ap, subst, ◌∙◌, inl, inr, arith, append_assoc, append-nil, list_any, flat_map, map-append, length-map, bytes_eq-Decides, In, In-append, from_map, IsClean, AreOnce, Cell, Zero, LatchValue, Command, RowValue, CoverValue, Ports, input_ports, output_ports, clock_ports, ports_of, cell_character, output_token, IsRow, behind, AreRows, names_in, IsCoverLine, AreCommands, IsModel, AreLibrary, Denotes, IsCleanBody, is_special, one_clean, word_clean, Cover, Latch, rules}
use Rattle.tl_text.specs.LineValue.{LineValue, words_line}
use Rattle.blif_read.specs.Statement.{StatementValue, statement_at, statement_of, statements}
use Rattle.blif_read.specs.Rows.{none, more}
use Rattle.blif_read.specs.Latches.{Starts, one, Controls, IsLatch, with_init, whole}
use Rattle.blif_read.specs.Denotes as denotes
use Rattle.blif_read.proofs.PortLemmas.{names_in-append}
use Rattle.blif_write.specs.PlainNetlist.{PlainNetlist, IsPlain, control_words, latch_line, row_line, cover_lines, netlist_lines, netlist_text, read_control, read_latch, latch_commands, cover_commands, model_of, library_of}
use Rattle.tl_text.proofs.WrittenLineLemmas.{IsCleanLine as IsWritable, AreCleanLines as AreWritable, numbered, numbered-append, ReadsAgain, reads_again}

-- statements of lines, the first of which has this number
abbrev statements_of : ℕ → List (List (List ℕ)) → List StatementValue
statements_of number lines = map statement_of (numbered number lines)

statements_append : (number : ℕ) (xs ys : List (List (List ℕ))) → statements_of number (xs ++ ys) ≡ statements_of number xs ++ statements_of (number + length xs) ys
statements_append number xs ys = ap (map statement_of) (numbered-append number xs ys) ∙ map-append statement_of (numbered number xs) (numbered (number + length xs) ys)

row_is : (inputs number : ℕ) (value : Bool) (cells : List Cell) → value ≡ true → length cells ≡ inputs → IsRow inputs value (statement_at number (row_line cells)) (record { cells = cells })
row_is inputs number value cells on count = search rules

rows_are : (inputs number : ℕ) (value : Bool) (rows : List RowValue) → value ≡ true → ((row : RowValue) → In rows row → length row.cells ≡ inputs)
    → AreRows inputs value (statements_of number (map (λ row. row_line row.cells) rows)) rows
rows_are inputs number value [] on count = none
rows_are inputs number value (row ∷ rows) on count =
    more (statement_at number (row_line row.cells)) (statements_of (suc number) (map (λ row. row_line row.cells) rows)) row rows (row_is inputs number value row.cells on (count row (inl refl))) (rows_are inputs (suc number) value rows on (λ r i. count r (inr i)))

-- latches
starts : (init : Bool) → Starts (output_token init) init
starts init = search rules

controls_by : (control : List ℕ) (is : Bool) → bytes_eq control (codes "NIL") ≡ is → Controls control (cond is None (Some control))
controls_by control is e = search (rules, bytes_eq-Decides, codes, bytes_eq)

latch_is : (l : LatchValue) → (control : Option (List ℕ)) → l.control ≡ control → IsLatch (l.input ∷ l.output ∷ (control_words control ++ output_token l.init ∷ [])) (read_latch l)
latch_is l None e = with_init (output_token l.init) refl (ap read_control e) (starts l.init)
latch_is l (Some control) e = whole control (output_token l.init) refl (subst (Controls control) (sym (ap read_control e)) (controls_by control (bytes_eq control (codes "NIL")) refl)) (starts l.init)

-- commands
cover_line_is : (number : ℕ) (c : CoverValue) → c.value ≡ true → IsCoverLine (statement_at number (codes ".names" ∷ (c.inputs ++ c.output ∷ []))) c
cover_line_is number c on = record { is = refl; names = refl; no_rows = λ e. on }

end_is : (number : ℕ) → AreCommands (statements_of number ((codes ".end" ∷ []) ∷ [])) []
end_is number = denotes.end (statement_at number (codes ".end" ∷ [])) refl refl

covers_are : (number : ℕ) (cs : List CoverValue) → ((c : CoverValue) → In cs c → c.value ≡ true) → ((c : CoverValue) → In cs c → (row : RowValue) → In c.rows row → length row.cells ≡ length c.inputs)
    → AreCommands (statements_of number (flat_map cover_lines cs ++ (codes ".end" ∷ []) ∷ [])) (cover_commands number cs)
covers_are number [] on count = end_is number
covers_are number (c ∷ cs) on count =
    let rows : List (List (List ℕ)) = map (λ (row : RowValue). row_line row.cells) c.rows in
    let others : List (List (List ℕ)) = flat_map cover_lines cs ++ (codes ".end" ∷ []) ∷ [] in
    let long : suc number + length rows ≡ suc number + length c.rows = ap (λ (k : ℕ). suc number + k) (length-map c.rows (λ (row : RowValue). row_line row.cells)) in
    let rest : AreCommands (statements_of (suc number + length c.rows) others) (cover_commands (suc number + length c.rows) cs) = covers_are (suc number + length c.rows) cs (λ d i. on d (inr i)) (λ d i. count d (inr i)) in
    let parts = statements_append (suc number) rows others ∙ ap (λ (k : ℕ). statements_of (suc number) rows ++ statements_of k others) long in
    let shape = ap (λ (t : List (List (List ℕ))). statements_of number t) (append_assoc (cover_lines c) (flat_map cover_lines cs) ((codes ".end" ∷ []) ∷ [])) in
    subst (λ (t : List StatementValue). AreCommands t (cover_commands number (c ∷ cs))) (sym shape)
    (denotes.cover _ (statements_of (suc number) rows) (statements_of (suc number + length c.rows) others) (statements_of (suc number) (rows ++ others)) c (cover_commands (suc number + length c.rows) cs)
    (cover_line_is number c (on c (inl refl))) (rows_are (length c.inputs) (suc number) c.value c.rows (on c (inl refl)) (count c (inl refl))) parts rest)

latches_are : (number : ℕ) (ls : List LatchValue) (lines : List (List (List ℕ))) (commands : List Command) → AreCommands (statements_of (number + length ls) lines) commands
    → AreCommands (statements_of number (map latch_line ls ++ lines)) (latch_commands number ls ++ commands)
latches_are number [] lines commands rest = grind arith
latches_are number (l ∷ ls) lines commands rest =
    let later = latches_are (suc number) ls lines commands (subst (λ (k : ℕ). AreCommands (statements_of k lines) commands) (omega arith) rest) in
    denotes.latch (statement_at number (latch_line l)) (statements_of (suc number) (map latch_line ls ++ lines)) (read_latch l) (latch_commands (suc number) ls ++ commands) refl (latch_is l l.control refl) later

inputs_are : (number : ℕ) (inputs lines : List (List (List ℕ))) (commands : List Command) → AreCommands (statements_of (number + length inputs) lines) commands
    → AreCommands (statements_of number (map (λ names. codes ".inputs" ∷ names) inputs ++ lines)) commands
inputs_are number [] lines commands rest = grind arith
inputs_are number (names ∷ inputs) lines commands rest =
    let e : number + length (names ∷ inputs) ≡ suc number + length inputs = omega arith in
    denotes.ports (statement_at number (codes ".inputs" ∷ names)) (statements_of (suc number) (map (λ names. codes ".inputs" ∷ names) inputs ++ lines)) commands (inl refl)
    (inputs_are (suc number) inputs lines commands (subst (λ (k : ℕ). AreCommands (statements_of k lines) commands) e rest))

-- the lines behind the first one
abbrev body_lines : PlainNetlist → List (List (List ℕ))
body_lines n = map (λ (names : List (List ℕ)). codes ".inputs" ∷ names) n.inputs ++ ((codes ".outputs" ∷ n.outputs) ∷ (map latch_line n.latches ++ (flat_map cover_lines n.covers ++ (codes ".end" ∷ []) ∷ [])))

commands_are : (n : PlainNetlist) → IsPlain n → AreCommands (statements_of 2 (body_lines n)) (model_of n).commands
commands_are n h =
    let at : ℕ = 2 + length n.inputs in
    let covers = covers_are (suc at + length n.latches) n.covers h.on h.cells in
    let latches : AreCommands (statements_of (suc at) (map latch_line n.latches ++ (flat_map cover_lines n.covers ++ (codes ".end" ∷ []) ∷ []))) (latch_commands (suc at) n.latches ++ cover_commands (suc at + length n.latches) n.covers) = grind (arith, latches_are, codes) in
    let all : AreCommands (statements_of at ((codes ".outputs" ∷ n.outputs) ∷ (map latch_line n.latches ++ (flat_map cover_lines n.covers ++ (codes ".end" ∷ []) ∷ [])))) (latch_commands (suc at) n.latches ++ cover_commands (suc at + length n.latches) n.covers) =
    denotes.ports (statement_at at (codes ".outputs" ∷ n.outputs)) _ _ (inr (inl refl)) latches in
    grind (arith, statements_of, body_lines, inputs_are, codes)

no_port : (p : Ports) (k : Ports → List (List ℕ)) → k input_ports ≡ [] → k output_ports ≡ [] → k clock_ports ≡ [] → k p ≡ []
no_port p k i o c = search rules

row_portless : (p : Ports) (number : ℕ) (cells : List Cell) → names_in p (statement_at number (row_line cells) ∷ []) ≡ []
row_portless p number cells = grind arith

first_portless : (p : Ports) (s : StatementValue) (ss : List StatementValue) → names_in p (s ∷ []) ≡ [] → names_in p (s ∷ ss) ≡ names_in p ss
first_portless p s ss h = names_in-append p (s ∷ []) ss ∙ ap (λ (t : List (List ℕ)). t ++ names_in p ss) h

-- lines without ports
each_portless : {X : Type 0} (p : Ports) (line : X → List (List ℕ)) → ((k : ℕ) (x : X) → names_in p (statement_at k (line x) ∷ []) ≡ []) → (number : ℕ) (xs : List X) (lines : List (List (List ℕ)))
    → ((k : ℕ) → names_in p (statements_of k lines) ≡ []) → names_in p (statements_of number (map line xs ++ lines)) ≡ []
each_portless p line own number [] lines rest = rest number
each_portless p line own number (x ∷ xs) lines rest = grind (arith, first_portless, statements_of, each_portless p line own (suc number) xs lines rest)

covers_portless : (p : Ports) (number : ℕ) (cs : List CoverValue) → names_in p (statements_of number (flat_map cover_lines cs ++ (codes ".end" ∷ []) ∷ [])) ≡ []
covers_portless p number [] = no_port p (λ q. names_in q (statements_of number ((codes ".end" ∷ []) ∷ []))) refl refl refl
covers_portless p number (c ∷ cs) =
    let head : StatementValue = statement_at number (codes ".names" ∷ (c.inputs ++ c.output ∷ [])) in
    ap (λ (t : List (List (List ℕ))). names_in p (statements_of number t)) (append_assoc (cover_lines c) (flat_map cover_lines cs) ((codes ".end" ∷ []) ∷ []))
    ∙ first_portless p head (statements_of (suc number) ((map (λ (row : RowValue). row_line row.cells) c.rows) ++ _)) (no_port p (λ q. names_in q (head ∷ [])) refl refl refl)
    ∙ each_portless p (λ (row : RowValue). row_line row.cells) (λ k row. row_portless p k row.cells) (suc number) c.rows _ (λ k. covers_portless p k cs)

-- the names of the `.inputs` lines, and what other lines have
abbrev own_ports : Ports → List (List (List ℕ)) → List (List ℕ)
own_ports input_ports inputs = flat_map (λ (names : List (List ℕ)). names) inputs
own_ports p inputs = []

inputs_named : (p : Ports) (number : ℕ) (inputs : List (List (List ℕ))) → names_in p (statements_of number (map (λ names. codes ".inputs" ∷ names) inputs)) ≡ own_ports p inputs
inputs_named p number [] = search rules
inputs_named p number (names ∷ inputs) = search (rules, inputs_named input_ports (suc number) inputs, inputs_named p (suc number) inputs)

abbrev outputs_ports : Ports → List (List ℕ) → List (List ℕ)
outputs_ports output_ports outputs = outputs
outputs_ports p outputs = []

outputs_named : (p : Ports) (number : ℕ) (outputs : List (List ℕ)) (lines : List (List (List ℕ))) → ((k : ℕ) → names_in p (statements_of k lines) ≡ []) → names_in p (statements_of number ((codes ".outputs" ∷ outputs) ∷ lines)) ≡ outputs_ports p outputs
outputs_named p number outputs lines rest = search (rules, append-nil)

ports_both : (p : Ports) (n : PlainNetlist) → own_ports p n.inputs ++ outputs_ports p n.outputs ≡ ports_of p (model_of n)
ports_both p n = search (rules, append-nil)

ports_are : (n : PlainNetlist) (p : Ports) → ports_of p (model_of n) ≡ names_in p (statements_of 2 (body_lines n))
ports_are n p =
    let behind_inputs : List (List (List ℕ)) = (codes ".outputs" ∷ n.outputs) ∷ (map latch_line n.latches ++ (flat_map cover_lines n.covers ++ (codes ".end" ∷ []) ∷ [])) in
    let inputs : List (List (List ℕ)) = map (λ (names : List (List ℕ)). codes ".inputs" ∷ names) n.inputs in
    sym (ap (names_in p) (statements_append 2 inputs behind_inputs) ∙ names_in-append p (statements_of 2 inputs) (statements_of (2 + length inputs) behind_inputs)
    ∙ ap (λ (t : List (List ℕ)). t ++ names_in p (statements_of (2 + length inputs) behind_inputs)) (inputs_named p 2 n.inputs)
    ∙ ap (λ (t : List (List ℕ)). own_ports p n.inputs ++ t) (outputs_named p (2 + length inputs) n.outputs (map latch_line n.latches ++ (flat_map cover_lines n.covers ++ (codes ".end" ∷ []) ∷ []))
    (λ k. each_portless p latch_line (λ m l. no_port p (λ q. names_in q (statement_at m (latch_line l) ∷ [])) refl refl refl) k n.latches (flat_map cover_lines n.covers ++ (codes ".end" ∷ []) ∷ []) (λ j. covers_portless p j n.covers)))
    ∙ ports_both p n)

pub ports_once : (n : PlainNetlist) → IsPlain n → (p : Ports) → AreOnce (ports_of p (model_of n))
ports_once n h p = search rules

model_is : (n : PlainNetlist) → IsPlain n → IsModel (statement_at 1 (codes ".model" ∷ n.name ∷ [])) (statements_of 2 (body_lines n)) (model_of n)
model_is n h = record { is = refl; name = refl; line = refl; ports = ports_are n; once = ports_once n h; commands = commands_are n h }

library_is : (n : PlainNetlist) → IsPlain n → AreLibrary (statements_of 1 (netlist_lines n)) (library_of n)
library_is n h = record {
  models = denotes.model (statement_at 1 (codes ".model" ∷ n.name ∷ [])) (statements_of 2 (body_lines n)) [] (statements_of 2 (body_lines n)) (model_of n) [] (model_is n h) (sym (append-nil (statements_of 2 (body_lines n)))) denotes.none;
  some = omega arith;
  once = (λ i. i, tt);
}

-- the words are clean
output_clean : (b : Bool) → IsClean (output_token b)
output_clean b = grind arith

cells_ordinary : (cells : List Cell) → list_any is_special (map cell_character cells) ≡ false
cells_ordinary [] = refl
cells_ordinary (Zero ∷ cells) = cells_ordinary cells
cells_ordinary (cell ∷ cells) = cells_ordinary cells

headed : (word : List ℕ) (words : List (List ℕ)) → IsClean word → ((w : List ℕ) → In words w → IsClean w) → IsWritable (word ∷ words)
headed word words c h w h' = search rules

row_writable : (cells : List Cell) → IsWritable (row_line cells)
row_writable [] = one_clean (codes "1") (output_clean true)
row_writable (cell ∷ cells) = headed (map cell_character (cell ∷ cells)) (codes "1" ∷ []) (word_clean (map cell_character (cell ∷ cells)) (omega arith) (cells_ordinary (cell ∷ cells))) (one_clean (codes "1") (output_clean true))

each_writable : {X : Type 0} (line : X → List (List ℕ)) (xs : List X) → ((x : X) → In xs x → IsWritable (line x)) → AreWritable (map line xs)
each_writable {X = X} line xs h words i = let r : (x : X) × In xs x × (words ≡ line x) = from_map line xs words i in subst IsWritable (sym r.2) (h r.0 r.1)

either_writable : (xs ys : List (List (List ℕ))) → AreWritable xs → AreWritable ys → AreWritable (xs ++ ys)
either_writable xs ys a b words i = elim (In-append xs ys words i) [ inl j ↦ a words j | inr j ↦ b words j ]

either_clean : (xs ys : List (List ℕ)) → ((w : List ℕ) → In xs w → IsClean w) → ((w : List ℕ) → In ys w → IsClean w) → (w : List ℕ) → In (xs ++ ys) w → IsClean w
either_clean xs ys a b w i = elim (In-append xs ys w i) [ inl j ↦ a w j | inr j ↦ b w j ]

cover_writable : (c : CoverValue) → IsCleanBody (Cover c) → AreWritable (cover_lines c)
cover_writable c h words h' = search (rules, headed, codes, word_clean, either_clean, one_clean, each_writable, row_writable)

covers_writable : (cs : List CoverValue) → ((c : CoverValue) → In cs c → IsCleanBody (Cover c)) → AreWritable (flat_map cover_lines cs)
covers_writable [] h words i = elim i [ ]
covers_writable (c ∷ cs) h words i = either_writable (cover_lines c) (flat_map cover_lines cs) (cover_writable c (h c (inl refl))) (covers_writable cs (λ d j. h d (inr j))) words i

control_clean : (control : Option (List ℕ)) → ((name : List ℕ) → control ≡ Some name → IsClean name) → (w : List ℕ) → In (control_words control) w → IsClean w
control_clean None h w i = elim i [ ]
control_clean (Some name) h w (inl e) = subst IsClean (sym e) (word_clean (codes "re") (omega arith) refl)
control_clean (Some name) h w (inr (inl e)) = subst IsClean (sym e) (h name refl)
control_clean (Some name) h w (inr (inr i)) = elim i [ ]

latch_writable : (l : LatchValue) → IsCleanBody (Latch l) → IsWritable (latch_line l)
latch_writable l h =
    headed (codes ".latch") (l.input ∷ l.output ∷ (control_words l.control ++ output_token l.init ∷ [])) (word_clean (codes ".latch") (omega arith) refl)
    (either_clean (l.input ∷ l.output ∷ []) (control_words l.control ++ output_token l.init ∷ []) (either_clean (l.input ∷ []) (l.output ∷ []) (one_clean l.input h.0) (one_clean l.output h.1))
    (either_clean (control_words l.control) (output_token l.init ∷ []) (control_clean l.control h.2) (one_clean (output_token l.init) (output_clean l.init))))

one_writable : (words : List (List ℕ)) → IsWritable words → AreWritable (words ∷ [])
one_writable words h other h' = search rules

lines_writable : (n : PlainNetlist) → IsPlain n → AreWritable (netlist_lines n)
lines_writable n h =
    either_writable ((codes ".model" ∷ n.name ∷ []) ∷ []) (body_lines n) (one_writable (codes ".model" ∷ n.name ∷ []) (headed (codes ".model") (n.name ∷ []) (word_clean (codes ".model") (omega arith) refl) (one_clean n.name h.name)))
    (either_writable (map (λ (names : List (List ℕ)). codes ".inputs" ∷ names) n.inputs) _ (each_writable (λ (names : List (List ℕ)). codes ".inputs" ∷ names) n.inputs (λ names i. headed (codes ".inputs") names (word_clean (codes ".inputs") (omega arith) refl) (h.inputs names i)))
    (either_writable ((codes ".outputs" ∷ n.outputs) ∷ []) _ (one_writable (codes ".outputs" ∷ n.outputs) (headed (codes ".outputs") n.outputs (word_clean (codes ".outputs") (omega arith) refl) h.outputs))
    (either_writable (map latch_line n.latches) _ (each_writable latch_line n.latches (λ l i. latch_writable l (h.latches l i)))
    (either_writable (flat_map cover_lines n.covers) ((codes ".end" ∷ []) ∷ []) (covers_writable n.covers h.covers)
    (one_writable (codes ".end" ∷ []) (headed (codes ".end") [] (word_clean (codes ".end") (omega arith) refl) (λ w i. elim i [ ])))))))

statements_words : (text : List ℕ) (lines : List LineValue) → statements text lines ≡ map statement_of (map (words_line text) lines)
statements_words text [] = refl
statements_words text (line ∷ lines) = ap (λ (t : List StatementValue). statement_of (words_line text line) ∷ t) (statements_words text lines)

-- the text denotes its model
pub denotes_plain : (n : PlainNetlist) → IsPlain n → Denotes (netlist_text n) (library_of n)
denotes_plain n h =
    let r : ReadsAgain (netlist_lines n) = reads_again (netlist_lines n) (lines_writable n h) in
    record {
      lines = r.logical;
      lines_are = r.are;
      models_are = subst (λ (t : List StatementValue). AreLibrary t (library_of n)) (sym (statements_words (netlist_text n) r.logical ∙ ap (map statement_of) r.words)) (library_is n h);
    }
