-- What a text denotes, the reader reads.
use Rattle.blif_read.proofs.Common.{◌≡◌, ℕ, ◌<◌, Bool, true, List, [], ◌∷◌, ◌++◌, length, map, Some, None, Ok, refl, sym, ap, ◌∙◌, subst, arith, append_assoc, append-nil, cond-false, DuplicateModel, Body, Cover, Latch, Subckt, Command, CoverValue, RowValue, ModelValue, LibraryValue, Ports, input_ports, output_ports, clock_ports, ports_of, StatementValue, AreOnce, AreRows, names_in, IsCoverLine, AreCommands, IsModel, AreModels, Denotes, has, ports_fault, fault_by, State, ModelRead, with_command, flushed, ended, context, with_ports, ports_read, body_read, next_by, steps, library_at_end, finished, lines_read, text_read, fresh, rules, cond, eqb, Keyword, IsRow, row_of, mixed_fault, false, ltb, take, get_or, bytes_eq, codes, Option, inl, inr, length-append, position_or_len, cond-true, lt-ltb, ne_eqb, eq-eqb, and_from, or_from, not_from_false, false_from_ne_true, bytes_eq-Decides, In, bit_of, length-map, Cell, Zero, Connection, SubcktValue, alone, behind, cell_character, output_token, IsLatch, plain, with_init, with_control, whole, Starts, one, zero_, Controls, nil, net, connection_token, IsConnection, IsSubckt, formals, cells_of, init_fault, latch_fault, connection_of, connections_fault, subckt_fault, names_fault, cover_of, control_of, init_of, latch_of, pairs_of, subckt_of, not_in_both, has_in}
use Rattle.blif_read.proofs.PortLemmas.{keyword_for, ports_line, which_ports, own_names, names_ports, skipped, rows_skipped, ports_grown, ports_keep, ports_commanded, ports_flushed, row_keyword}
use Rattle.std.proofs.Math.Seq.{take-append_seam, drop-append-add, get_or-append_seam}
use Rattle.netlist.specs.declared.latch.Latch.{Latch as LatchValue}
use Rattle.blif_read.specs.declared.keyword.Keyword.TheVariants as keyword
use Rattle.blif_read.specs.Denotes as denotes
use Rattle.blif_read.specs.Rows as lines_rows

-- A line of the right form has no fault and is read as it is.
pub has_none : (names : List (List ℕ)) (name : List ℕ) → (In names name → ⊥) → has names name ≡ false
has_none names name apart = false_from_ne_true (has names name) (λ t. apart (has_in names name t))

pub once_has : (names : List (List ℕ)) (name : List ℕ) (more : List (List ℕ)) → AreOnce (names ++ name ∷ more) → has names name ≡ false
once_has names name more once = has_none names name (λ i. not_in_both names (name ∷ more) name once i (inl refl))

pub ports_fit : (number : ℕ) (seen names more : List (List ℕ)) → AreOnce (seen ++ (names ++ more)) → ports_fault number seen names ≡ None
ports_fit number seen [] more once = refl
ports_fit number seen (name ∷ names) more once = grind (arith, once_has, append_assoc, ports_fit number (seen ++ name ∷ []) names more (subst AreOnce (sym (append_assoc seen (name ∷ []) (names ++ more))) once))

cells_fit : (cells : List Cell) → cells_of (map cell_character cells) ≡ Some cells
cells_fit [] = refl
cells_fit (Zero ∷ cells) = rw (cells_fit cells) refl
cells_fit (cell ∷ cells) = rw (cells_fit cells) refl

bit_fits : (value : Bool) → bit_of (output_token value) ≡ Some value
bit_fits true = refl
bit_fits false = refl

pub row_fits : (inputs : ℕ) (value : Bool) (s : StatementValue) (row : RowValue) → IsRow inputs value s row → row_of inputs s.arguments ≡ Some (record { cells = row.cells; value = value })
row_fits inputs value s row (alone e k words cells) = grind arith
row_fits inputs value s row (behind some k words count) = grind (arith, length-map, eqb, and_from, not_from_false, ne_eqb, eq-eqb, cond-true, cells_fit, bit_fits)

latch_is : (l : LatchValue) (control : Option (List ℕ)) (init : Bool) → l.control ≡ control → l.init ≡ init → record { input = l.input; output = l.output; control = control; init = init } ≡ l
latch_is l control init c i = grind arith

init_fits : (number : ℕ) (init : List ℕ) (value : Bool) → Starts init value → (init_fault number init ≡ None) × (value ≡ init_of init)
init_fits number init value (one e v) = (ap (init_fault number) e, v ∙ sym (ap init_of e))
init_fits number init value (zero_ (inl e) v) = (ap (init_fault number) e, v ∙ sym (ap init_of e))
init_fits number init value (zero_ (inr (inl e)) v) = (ap (init_fault number) e, v ∙ sym (ap init_of e))
init_fits number init value (zero_ (inr (inr e)) v) = (ap (init_fault number) e, v ∙ sym (ap init_of e))

control_fits : (token : List ℕ) (control : Option (List ℕ)) → Controls token control → control ≡ control_of token
control_fits token control (nil e c) = c ∙ sym (ap control_of e)
control_fits token control (net other c) = c ∙ sym (cond-false (bytes_eq token (codes "NIL")) None (Some token) (false_from_ne_true (bytes_eq token (codes "NIL")) (λ t. other ((bytes_eq-Decides token (codes "NIL")).0 t))))

pub latch_fits : (number : ℕ) (words : List (List ℕ)) (l : LatchValue) → IsLatch words l → (latch_fault number words ≡ None) × (latch_of words ≡ l)
latch_fits number words l (plain w c i) = (ap (latch_fault number) w, ap latch_of w ∙ latch_is l None false c i)
latch_fits number words l (with_init init w c s) = grind arith
latch_fits number words l (with_control control w c i) = (ap (latch_fault number) w, ap latch_of w ∙ latch_is l (control_of control) false (control_fits control l.control c) i)
latch_fits number words l (whole control init w c s) = search (rules, init_fits, latch_is, control_fits)

first_equals : (front more : List ℕ) → (In front 61 → ⊥) → position_or_len (λ b. eqb b 61) (front ++ 61 ∷ more) ≡ length front
first_equals [] more apart = refl
first_equals (b ∷ bs) more apart = grind (arith, eqb, ne_eqb, cond, first_equals bs more (λ i. apart (inr i)))

pub connection_fits : (pair : Connection) → IsConnection pair → connection_of (connection_token pair) ≡ Some pair
connection_fits pair is = grind (arith, length-append, eqb, cond, ltb, first_equals, cond-true, lt-ltb, take-append_seam, drop-append-add, cond-false, or_from, ne_eqb)

connections_fit : (number : ℕ) (seen : List (List ℕ)) (pairs : List Connection) → ((pair : Connection) → In pairs pair → IsConnection pair) → AreOnce (seen ++ formals pairs)
    → (connections_fault number seen (map connection_token pairs) ≡ None) × (pairs_of (map connection_token pairs) ≡ pairs)
connections_fit number seen [] each once = (refl, refl)
connections_fit number seen (pair ∷ pairs) each once = grind (arith, connection_fits, append_assoc, cond, once_has, connections_fit number (seen ++ pair.formal ∷ []) pairs (λ p i. each p (inr i)) (subst AreOnce (sym (append_assoc seen (pair.formal ∷ []) (formals pairs))) once))

pub subckt_fits : (number : ℕ) (words : List (List ℕ)) (s : SubcktValue) → IsSubckt words s → (subckt_fault number words ≡ None) × (subckt_of words ≡ s)
subckt_fits number words s is =
    let f = connections_fit number [] s.pairs is.each is.once in
    (ap (subckt_fault number) is.words_are ∙ f.0, ap subckt_of is.words_are ∙ ap (λ ps. record { model = s.model; pairs = ps }) f.1)

pub cover_fits : (inputs : List (List ℕ)) (output : List ℕ) → cover_of (inputs ++ output ∷ []) ≡ record { inputs = inputs; output = output; value = true; rows = [] }
cover_fits inputs output =
    let names : List (List ℕ) = inputs ++ output ∷ [] in
    ap (λ k. record { inputs = take k names; output = get_or names k []; value = true; rows = [] }) (omega (arith, length-append inputs (output ∷ [])))
    ∙ ap (λ xs. record { inputs = xs; output = get_or names (length inputs) []; value = true; rows = [] }) (take-append_seam inputs (output ∷ []))
    ∙ ap (λ x. record { inputs = inputs; output = x; value = true; rows = [] }) (get_or-append_seam inputs output [] [])

pub names_fit : (number : ℕ) (inputs : List (List ℕ)) (output : List ℕ) → names_fault number (inputs ++ output ∷ []) ≡ None
names_fit number [] output = refl
names_fit number (x ∷ xs) output = refl

-- The reader's steps over a line without a fault, and over the rows of a cover.
-- a line that has no fault
pub step_over : (s : State) (l : StatementValue) (k : Keyword) (words : List (List ℕ)) (ls : List StatementValue) → l.keyword ≡ k → l.arguments ≡ words → fault_by k (context s) l.number words ≡ None
    → steps s (l ∷ ls) ≡ steps (next_by k s l.number words) ls
step_over s l k words ls e a f = grind arith

-- states with an open model, and without one
abbrev pub within : List (List ℕ) → List ModelValue → ModelRead → State
within names done r = record { names = names; done = done; current = Some r }

abbrev pub between : List (List ℕ) → List ModelValue → State
between names done = record { names = names; done = done; current = None }

abbrev pub value_after : Bool → Bool → List RowValue → Bool
value_after old value [] = old
value_after old value (row ∷ rows) = value

value_after_same : (value : Bool) (rows : List RowValue) → value_after value value rows ≡ value
value_after_same value [] = refl
value_after_same value (row ∷ rows) = refl

abbrev pub with_last : ModelValue → ℕ → CoverValue → ModelRead
with_last m line cover = record { model = m; cover = Some (record { line = line; cover = cover }) }

same_outputs : (number : ℕ) (done : List RowValue) (old value : Bool) → (0 < length done → old ≡ value) → mixed_fault number (cond (eqb (length done) 0) None (Some old)) value ≡ None
same_outputs number done old value same = grind arith

row_step : (names : List (List ℕ)) (done : List ModelValue) (m : ModelValue) (line : ℕ) (c : CoverValue) (value : Bool) (s : StatementValue) (row : RowValue) (rest : List StatementValue)
    → (0 < length c.rows → c.value ≡ value) → IsRow (length c.inputs) value s row
    → steps (within names done (with_last m line c)) (s ∷ rest) ≡ steps (within names done (with_last m line (record c { value = value; rows = c.rows ++ row ∷ [] }))) rest
row_step names done m line c value s row rest same is =
    let r : row_of (length c.inputs) s.arguments ≡ Some (record { cells = row.cells; value = value }) = row_fits (length c.inputs) value s row is in
    grind (arith, step_over, within, with_last, row_keyword, same_outputs)

abbrev pub cover_with : List (List ℕ) → List ℕ → Bool → List RowValue → CoverValue
cover_with inputs output value rows = record { inputs = inputs; output = output; value = value; rows = rows }

pub rows_steps : (names : List (List ℕ)) (done : List ModelValue) (m : ModelValue) (line : ℕ) (inputs : List (List ℕ)) (output : List ℕ) (value : Bool) (rest : List StatementValue) {ss : List StatementValue} {rows : List RowValue}
    → AreRows (length inputs) value ss rows → (old : Bool) (before : List RowValue) → (0 < length before → old ≡ value)
    → steps (within names done (with_last m line (cover_with inputs output old before))) (ss ++ rest)
    ≡ steps (within names done (with_last m line (cover_with inputs output (value_after old value rows) (before ++ rows)))) rest
rows_steps names done m line inputs output value rest lines_rows.none old before same = grind (arith, within, with_last, cover_with, append-nil)
rows_steps names done m line inputs output value rest (lines_rows.more s ss row rows is are) old before same =
    row_step names done m line (cover_with inputs output old before) value s row (ss ++ rest) same is
    ∙ rows_steps names done m line inputs output value rest are value (before ++ row ∷ []) (λ _. refl)
    ∙ ap (λ v. steps (within names done (with_last m line (cover_with inputs output v ((before ++ row ∷ []) ++ rows)))) rest) (value_after_same value rows)
    ∙ ap (λ rs. steps (within names done (with_last m line (cover_with inputs output value rs))) rest) (append_assoc before (row ∷ []) rows)

-- what follows the lines of a model: nothing, or a `.model` line
data BeginsModel : List StatementValue → Type 0 where
  nothing : BeginsModel []
  header : (s : StatementValue) (ss : List StatementValue) → s.keyword ≡ keyword.Model → BeginsModel (s ∷ ss)

-- what follows goes on in the same way from an open model as from the model that it became
same_rest : (s t : State) → s.names ≡ t.names → ended s ≡ ended t → {rest : List StatementValue} → BeginsModel rest → finished (steps s rest) ≡ finished (steps t rest)
same_rest s t n e nothing = ap library_at_end e
same_rest s t n e (header h ss k) = grind arith

-- a model becomes another by lines with these commands
record Becomes (m : ModelValue) (ss : List StatementValue) (more : List Command) (t : ModelValue) : Type 0 where
  name : t.name ≡ m.name
  line : t.line ≡ m.line
  ports : (p : Ports) → ports_of p t ≡ ports_of p m ++ names_in p ss
  commands : t.commands ≡ m.commands ++ more

abbrev model_with : List ℕ → ℕ → List (List ℕ) → List (List ℕ) → List (List ℕ) → List Command → ModelValue
model_with name line inputs outputs clocks commands = record { name = name; line = line; inputs = inputs; outputs = outputs; clocks = clocks; commands = commands }

same_fields : (n n' : List ℕ) (l l' : ℕ) (i i' o o' c c' : List (List ℕ)) (ks ks' : List Command) → n ≡ n' → l ≡ l' → i ≡ i' → o ≡ o' → c ≡ c' → ks ≡ ks'
    → model_with n l i o c ks ≡ model_with n' l' i' o' c' ks'
same_fields n n' l l' i i' o o' c c' ks ks' en el ei eo ec ek = cc

becomes_itself : (m t : ModelValue) (ss : List StatementValue) → ((p : Ports) → names_in p ss ≡ []) → Becomes m ss [] t → m ≡ t
becomes_itself m t ss none b =
    same_fields m.name t.name m.line t.line m.inputs t.inputs m.outputs t.outputs m.clocks t.clocks m.commands t.commands
    (sym b.name) (sym b.line) (same input_ports) (same output_ports) (same clock_ports) (sym (append-nil m.commands) ∙ sym b.commands)
  where
    same : (p : Ports) → ports_of p m ≡ ports_of p t
    same p = sym (b.ports p ∙ ap (λ names. ports_of p m ++ names) (none p) ∙ append-nil (ports_of p m))

becomes_command : (m t : ModelValue) (line : ℕ) (body : Body) (ss rest : List StatementValue) (commands : List Command) → ((p : Ports) → names_in p ss ≡ names_in p rest)
    → Becomes m ss (record { line = line; body = body } ∷ commands) t → Becomes (with_command m line body) rest commands t
becomes_command m t line body ss rest commands same b = search (rules, ports_commanded, append_assoc)

-- a line of ports adds its names to its list
becomes_ports : (q : Ports) (m t : ModelValue) (s : StatementValue) (ss : List StatementValue) (commands : List Command) → s.keyword ≡ keyword_for q → Becomes m (s ∷ ss) commands t → Becomes (with_ports q s.arguments m) ss commands t
becomes_ports q m t s ss commands k b = search (rules, ports_keep, append_assoc, keyword_for, ports_grown)

ports_no_fault : (q : Ports) (names : List (List ℕ)) (done : List ModelValue) (r : ModelRead) (number : ℕ) (words : List (List ℕ)) → ports_fault number (ports_of q r.model) words ≡ None
    → fault_by (keyword_for q) (context (within names done r)) number words ≡ None
ports_no_fault input_ports names done r number words h = h
ports_no_fault q names done r number words h = h

ports_next : (q : Ports) (names : List (List ℕ)) (done : List ModelValue) (r : ModelRead) (number : ℕ) (words : List (List ℕ)) → next_by (keyword_for q) (within names done r) number words ≡ within names done (ports_read q words r)
ports_next input_ports names done r number words = refl
ports_next q names done r number words = refl

value_last : (value : Bool) (rows : List RowValue) → (rows ≡ [] → value ≡ true) → value_after true value rows ≡ value
value_last value [] none = sym (none refl)
value_last value (row ∷ rows) none = refl

-- the lines of a model: the open model becomes it
ports_step : (names : List (List ℕ)) (done : List ModelValue) (t : ModelValue) (r : ModelRead) (q : Ports) (s : StatementValue) (ss more : List StatementValue) (commands : List Command) → s.keyword ≡ keyword_for q → AreOnce (ports_of q t)
    → Becomes (flushed r) (s ∷ ss) commands t → steps (within names done r) (s ∷ more) ≡ steps (within names done (ports_read q s.arguments r)) more
ports_step names done t r q s ss more commands k once b = grind (arith, ports_flushed, own_names, step_over, within, keyword_for, ports_no_fault, ports_fit, ports_next)

cover_steps : (names : List (List ℕ)) (done : List ModelValue) (r : ModelRead) (s : StatementValue) (rows more : List StatementValue) (c : CoverValue) → IsCoverLine s c → AreRows (length c.inputs) c.value rows c.rows
    → steps (within names done r) (s ∷ (rows ++ more)) ≡ steps (within names done (with_last (flushed r) s.number c)) more
cover_steps names done r s rows more c is are =
    let at : CoverValue → State = λ d. within names done (with_last (flushed r) s.number d) in
    step_over (within names done r) s keyword.Names (c.inputs ++ c.output ∷ []) (rows ++ more) is.is is.names (names_fit s.number c.inputs c.output)
    ∙ ap (λ d. steps (at d) (rows ++ more)) (cover_fits c.inputs c.output)
    ∙ rows_steps names done (flushed r) s.number c.inputs c.output c.value more are true [] (λ l. absurd (omega arith))
    ∙ ap (λ v. steps (at (cover_with c.inputs c.output v c.rows)) more) (value_last c.value c.rows is.no_rows)

lines_steps : (names : List (List ℕ)) (done : List ModelValue) (t : ModelValue) → ((p : Ports) → AreOnce (ports_of p t)) → (rest : List StatementValue) → BeginsModel rest → {ss : List StatementValue} {commands : List Command}
    → AreCommands ss commands → (r : ModelRead) → Becomes (flushed r) ss commands t → finished (steps (within names done r) (ss ++ rest)) ≡ finished (steps (between names (done ++ t ∷ [])) rest)
lines_steps names done t once rest follows denotes.none r b =
    same_rest (within names done r) (between names (done ++ t ∷ [])) refl (ap (λ m. done ++ m ∷ []) (becomes_itself (flushed r) t [] (λ p. refl) b)) follows
lines_steps names done t once rest follows (denotes.end s k a) r b =
    ap finished (step_over (within names done r) s keyword.End [] rest k a refl)
    ∙ ap (λ m. finished (steps (between names (done ++ m ∷ [])) rest)) (becomes_itself (flushed r) t (s ∷ []) (λ p. skipped s [] (ap names_ports k) p) b)
lines_steps names done t once rest follows (denotes.ports s ss commands which are) r b = elim (which_ports s.keyword which) [
  | ports_line q k ↦ ap finished (ports_step names done t r q s ss (ss ++ rest) commands k (once q) b) ∙ lines_steps names done t once rest follows are (ports_read q s.arguments r) (becomes_ports q (flushed r) t s ss commands k b)
]
lines_steps names done t once rest follows (denotes.cover s rows later ss c commands is rows_are split are) r b =
    let same : (p : Ports) → names_in p (s ∷ ss) ≡ names_in p later = grind (arith, skipped, names_ports, rows_skipped) in
    ap (λ xs. finished (steps (within names done r) (s ∷ xs))) (ap (λ xs. xs ++ rest) split ∙ append_assoc rows later rest)
    ∙ ap finished (cover_steps names done r s rows (later ++ rest) c is rows_are)
    ∙ lines_steps names done t once rest follows are (with_last (flushed r) s.number c) (becomes_command (flushed r) t s.number (Cover c) (s ∷ ss) later commands same b)
lines_steps names done t once rest follows (denotes.latch s ss l commands k is are) r b =
    let f = latch_fits s.number s.arguments l is in
    grind (arith, step_over, within, becomes_command, skipped, names_ports, lines_steps names done t once rest follows are (body_read s.number (Latch l) r) (becomes_command (flushed r) t s.number (Latch l) (s ∷ ss) ss commands (skipped s ss (ap names_ports k)) b))
lines_steps names done t once rest follows (denotes.subckt s ss l commands k is are) r b = grind (arith, subckt_fits, step_over, within, becomes_command, skipped, names_ports, lines_steps names done t once rest follows are (body_read s.number (Subckt l) r) (becomes_command (flushed r) t s.number (Subckt l) (s ∷ ss) ss commands (skipped s ss (ap names_ports k)) b))

begins : {ss : List StatementValue} {ms : List ModelValue} → AreModels ss ms → BeginsModel ss
begins denotes.none = nothing
begins (denotes.model s body rest ss m ms is split are) = header s ss is.is

begun : (s : StatementValue) (body : List StatementValue) (m : ModelValue) → IsModel s body m → Becomes (flushed (fresh (m.name ∷ []) s.number)) body m.commands m
begun s body m is = search rules

models_steps : {ss : List StatementValue} {ms : List ModelValue} → AreModels ss ms → (names : List (List ℕ)) (done : List ModelValue) → AreOnce (names ++ map (λ (m : ModelValue). m.name) ms)
    → finished (steps (between names done) ss) ≡ library_at_end (done ++ ms)
models_steps denotes.none names done once = ap library_at_end (sym (append-nil done))
models_steps (denotes.model s body rest ss m ms is split are) names done once =
    let later : List (List ℕ) = map (λ (x : ModelValue). x.name) ms in
    let all : List (List ℕ) = names ++ m.name ∷ [] in
    ap finished (step_over (between names done) s keyword.Model (m.name ∷ []) ss is.is is.name
    (cond-false (has names m.name) (Some (DuplicateModel s.number m.name)) None (once_has names m.name later once)))
    ∙ ap (λ xs. finished (steps (within all done (fresh (m.name ∷ []) s.number)) xs)) split
    ∙ lines_steps all done m is.once rest (begins are) is.commands (fresh (m.name ∷ []) s.number) (begun s body m is)
    ∙ models_steps are all (done ++ m ∷ []) (subst AreOnce (sym (append_assoc names (m.name ∷ []) later)) once)
    ∙ ap library_at_end (append_assoc done (m ∷ []) ms)

at_end : (ms : List ModelValue) → 0 < length ms → library_at_end ms ≡ Ok (record { models = ms })
at_end [] some = absurd (omega arith)
at_end (m ∷ ms) some = refl

-- what a text denotes is read
pub denotes_read : (bytes : List ℕ) (library : LibraryValue) → Denotes bytes library → text_read bytes ≡ Ok library
denotes_read bytes library d =
    ap (lines_read bytes) d.lines_are ∙ models_steps d.models_are.models [] [] d.models_are.once ∙ at_end library.models d.models_are.some
