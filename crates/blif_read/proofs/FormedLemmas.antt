-- Lines without a refusal have the form of their command.
use Rattle.blif_read.proofs.Common.{In-place, ◌≡◌, ℕ, ◌+◌, ◌-◌, ◌<◌, Bool, true, false, ◌||◌, cond, eqb, List, [], ◌∷◌, ◌++◌, length, take, drop, map, get_or, bytes_eq, codes, Option, Some, None, refl, sym, ap, ◌∙◌, subst, inl, inr, arith, position, both_ways, and_parts, or_cases, or_parts, not-true, eqb-true, eqb-false, none-some, same_Some, bytes_eq-Decides, pushed_apart, In, none_else, none_both, some_then, some_else, bit_of, BlifErr, BadConnection, Cell, Plain, Connection, StatementValue, AreOnce, cell_character, output_token, IsRow, Starts, Controls, IsLatch, plain, with_init, with_control, whole, connection_token, IsConnection, IsSubckt, formals, RowRead, cell_of, put_cell, cells_of, row_with, row_of, or_later, names_fault, init_fault, kind_fault, latch_fault, split_at, connection_of, repeats_formal, with_formal, connections_fault, subckt_fault, cover_of, control_of, init_of, latch_of, put_pair, pairs_of, subckt_of, append-nil, append_assoc, length-map, length-take-le, take-append-drop, drop_more, drop_all, get_or-take, rules, Command, RowValue, ModelValue, LibraryValue, alone, behind, AreRows, AreCommands, AreModels, Denotes}
use Rattle.std.proofs.lemmas.List.Quantifiers.{position-Some}
use Rattle.tl_text.proofs.NameLemmas.{not_there as name_not_there}
use Rattle.netlist.specs.WellFormed.{IsWellFormedBody, IsWellFormedModel, IsWellFormed}
use Rattle.blif_read.specs.Rows as lines_rows
use Rattle.blif_read.specs.Denotes as denotes

-- two words that the test finds alike
same_word : (a b : List ℕ) → bytes_eq a b ≡ true → a ≡ b
same_word a b h = (bytes_eq-Decides a b).0 h

-- a latch: its init, its type, its control
init_is : (n : ℕ) (init : List ℕ) → init_fault n init ≡ None → Starts init (init_of init)
init_is n init h = search (rules, or_cases, none_else, codes, same_word)

no_kind : (a b : Bool) (e f : BlifErr) → cond a None (cond b (Some e) (Some f)) ≡ None → a ≡ true
no_kind true b e f h = refl
no_kind false true e f h = absurd (none-some e (sym h))
no_kind false false e f h = absurd (none-some f (sym h))

kind_is : (n : ℕ) (kind : List ℕ) → kind_fault n kind ≡ None → kind ≡ codes "re"
kind_is n kind h = same_word kind (codes "re") (no_kind (bytes_eq kind (codes "re")) _ _ _ h)

control_is : (token : List ℕ) → Controls token (control_of token)
control_is token = grind (arith, bytes_eq, codes, same_word, both_ways, bytes_eq-Decides)

neither : (a b : Option BlifErr) → or_later a b ≡ None → (a ≡ None) × (b ≡ None)
neither None b h = (refl, h)
neither (Some e) b h = absurd (none-some e (sym h))

pub latch_is : (n : ℕ) (words : List (List ℕ)) → latch_fault n words ≡ None → IsLatch words (latch_of words)
latch_is n (input ∷ output ∷ []) h = plain refl refl refl
latch_is n (input ∷ output ∷ init ∷ []) h = with_init init refl refl (init_is n init h)
latch_is n (input ∷ output ∷ kind ∷ control ∷ []) h = with_control control (ap (λ k. input ∷ output ∷ k ∷ control ∷ []) (kind_is n kind h)) (control_is control) refl
latch_is n (input ∷ output ∷ kind ∷ control ∷ init ∷ []) h =
    let p = neither (kind_fault n kind) (init_fault n init) h in
    whole control init (ap (λ k. input ∷ output ∷ k ∷ control ∷ init ∷ []) (kind_is n kind p.0)) (control_is control) (init_is n init p.1)
latch_is n words h = absurd (none-some _ (sym h))

-- a row: its cells and its output
cell_is : (b : ℕ) (cell : Cell) → cell_of b ≡ Some cell → b ≡ cell_character cell
cell_is b cell = grind arith

put_is : (o : Option Cell) (os : Option (List Cell)) (cells : List Cell) → put_cell o os ≡ Some cells → (c : Cell) × (cs : List Cell) × (o ≡ Some c) × (os ≡ Some cs) × (c ∷ cs ≡ cells)
put_is (Some c) (Some cs) cells h = (c, cs, refl, refl, same_Some (c ∷ cs) cells h)
put_is o os cells h = absurd (none-some cells h)

cells_are : (bs : List ℕ) (cells : List Cell) → cells_of bs ≡ Some cells → bs ≡ map cell_character cells
cells_are [] cells h = ap (map cell_character) (same_Some [] cells h)
cells_are (b ∷ bs) cells h =
    let p = put_is (cell_of b) (cells_of bs) cells h in
    ap (λ c. c ∷ bs) (cell_is b p.0 p.2) ∙ ap (λ cs. cell_character p.0 ∷ cs) (cells_are bs p.1 p.3) ∙ ap (map cell_character) p.4

bit_is : (word : List ℕ) (value : Bool) → bit_of word ≡ Some value → word ≡ output_token value
bit_is word value = grind (arith, bytes_eq, codes, cond, same_word, same_Some, none-some)

row_parts : (cells : Option (List Cell)) (value : Option Bool) (row : RowRead) → row_with cells value ≡ Some row → (cells ≡ Some row.cells) × (value ≡ Some row.value)
row_parts (Some cells) (Some value) row h = let e : record { cells = cells; value = value } ≡ row = same_Some _ row h in (ap (λ (r : RowRead). Some r.cells) e, ap (λ (r : RowRead). Some r.value) e)
row_parts cells value row h = absurd (none-some row h)

pub row_is : (inputs : ℕ) (words : List (List ℕ)) (row : RowRead) (s : StatementValue) → s.keyword ≡ Plain → s.arguments ≡ words → row_of inputs words ≡ Some row → IsRow inputs row.value s (record { cells = row.cells })
row_is inputs (output ∷ []) row s k a h = grind (arith, some_then, eqb, row_parts, eqb-true, bit_is, same_Some)
row_is inputs (cells ∷ output ∷ []) row s k a h = grind (arith, some_then, eqb, and_parts, row_parts, cells_are, eqb-false, not-true, bit_is, length-map, eqb-true)
row_is inputs words row s k a h = absurd (none-some row h)

-- the words behind `.names` are inputs and, last, an output
pub names_are : (n : ℕ) (words : List (List ℕ)) → names_fault n words ≡ None → words ≡ (cover_of words).inputs ++ (cover_of words).output ∷ []
names_are n [] h = absurd (none-some _ (sym h))
names_are n (w ∷ ws) h =
    let l : List (List ℕ) = w ∷ ws in
    let k : ℕ = length l - 1 in
    sym (take-append-drop k l) ∙ ap (λ t. take k l ++ t) (drop_more l k [] (omega arith) ∙ ap (λ t. get_or l k [] ∷ t) (drop_all (k + 1) l (omega arith)))

-- a connection: split at its first `=`
not_there : (xs : List ℕ) (x : ℕ) → ((j : ℕ) → j < length xs → (eqb (get_or xs j 0) x) ≡ false) → In xs x → ⊥
not_there xs x apart i = let r = In-place xs x i in eqb-false (get_or xs r.0 0) x (apart r.0 r.1) r.2

abbrev split_pair : List ℕ → ℕ → Connection
split_pair word k = record { formal = take k word; actual = drop (k + 1) word }

record IsSplit (word : List ℕ) (pair : Connection) : Type 0 where
  word_is : word ≡ connection_token pair
  connection : IsConnection pair

split_pair_is : (word : List ℕ) (k : ℕ) → position (λ b. eqb b 61) word ≡ Some k → (eqb (length (take k word)) 0 || eqb (length (drop (k + 1) word)) 0) ≡ false → IsSplit word (split_pair word k)
split_pair_is word k at apart =
    let p = position-Some (λ b. eqb b 61) word k 0 at in
    let count : length (take k word) ≡ k = length-take-le k word (omega arith) in
    let t = or_parts (eqb (length (take k word)) 0) (eqb (length (drop (k + 1) word)) 0) apart in
    let some_formal : length (take k word) ≡ 0 → ⊥ = eqb-false (length (take k word)) 0 t.0 in
    let some_actual : length (drop (k + 1) word) ≡ 0 → ⊥ = eqb-false (length (drop (k + 1) word)) 0 t.1 in
    record {
      word_is = sym (take-append-drop k word) ∙ ap (λ t. take k word ++ t) (drop_more word k 0 p.0) ∙ ap (λ c. take k word ++ c ∷ drop (k + 1) word) (eqb-true (get_or word k 0) 61 p.1);
      connection = record {
        formal = omega arith;
        first = not_there (take k word) 61 (λ j l. ap (λ c. eqb c 61) (get_or-take k word j 0 (omega arith)) ∙ p.2 j (omega arith));
        actual = omega arith;
      };
    }

split_is : (word : List ℕ) (o : Option ℕ) (pair : Connection) → position (λ b. eqb b 61) word ≡ o → split_at word o ≡ Some pair → IsSplit word pair
split_is word None pair at h = absurd (none-some pair h)
split_is word (Some k) pair at h =
    let p = some_else (eqb (length (take k word)) 0 || eqb (length (drop (k + 1) word)) 0) (Some (split_pair word k)) pair h in
    subst (IsSplit word) (same_Some (split_pair word k) pair p.1) (split_pair_is word k at p.0)

-- the connections of a line, of which no formal stood earlier
record AreConnections (before words : List (List ℕ)) (pairs : List Connection) : Type 0 where
  words_are : words ≡ map connection_token pairs
  each : (pair : Connection) → In pairs pair → IsConnection pair
  once : AreOnce (before ++ formals pairs)

connection_more : (before : List (List ℕ)) (word : List ℕ) (words : List (List ℕ)) (pair : Connection) (pairs : List Connection) → IsSplit word pair → AreConnections (before ++ pair.formal ∷ []) words pairs → AreConnections before (word ∷ words) (pair ∷ pairs)
connection_more before word words pair pairs is are = search (rules, append_assoc)

connection_put : (before : List (List ℕ)) (word : List ℕ) (words : List (List ℕ)) (o : Option Connection) (pairs : List Connection) → connection_of word ≡ o → repeats_formal before o ≡ false → AreOnce before
    → ((pair : Connection) → o ≡ Some pair → AreOnce (before ++ pair.formal ∷ []) → AreConnections (before ++ pair.formal ∷ []) words pairs) → AreConnections before (word ∷ words) (put_pair o pairs)
connection_put before word words None pairs at new once more = absurd (let f : ⊥ = cc in f)
connection_put before word words (Some pair) pairs at new once more = search (rules, connection_more, split_is, eqb, pushed_apart, name_not_there)

connections_are : (n : ℕ) (words before : List (List ℕ)) → AreOnce before → connections_fault n before words ≡ None → AreConnections before words (pairs_of words)
connections_are n [] before once h = record { words_are = refl; each = λ p i. absurd i; once = subst AreOnce (sym (append-nil before)) once }
connections_are n (w ∷ ws) before once h =
    let p = none_both (repeats_formal before (connection_of w)) (BadConnection n) (connections_fault n (with_formal before (connection_of w)) ws) h in
    connection_put before w ws (connection_of w) (pairs_of ws) refl p.0 once
    (λ pair e new. connections_are n ws (before ++ pair.formal ∷ []) new (subst (λ o. connections_fault n (with_formal before o) ws ≡ None) e p.1))

pub subckt_is : (n : ℕ) (words : List (List ℕ)) → subckt_fault n words ≡ None → IsSubckt words (subckt_of words)
subckt_is n [] h = absurd (none-some _ (sym h))
subckt_is n (model ∷ words) h = grind (arith, connections_are)

-- Every library that a text denotes is well formed.
row_width : (inputs : ℕ) (value : Bool) (s : StatementValue) (row : RowValue) → IsRow inputs value s row → length row.cells ≡ inputs
row_width inputs value s row (alone none k words cells) = ap length cells ∙ sym none
row_width inputs value s row (behind some k words count) = count

rows_width : (inputs : ℕ) (value : Bool) {ss : List StatementValue} {rows : List RowValue} → AreRows inputs value ss rows → (row : RowValue) → In rows row → length row.cells ≡ inputs
rows_width inputs value lines_rows.none row i = absurd i
rows_width inputs value (lines_rows.more s ss first rows is are) row (inl e) = ap (λ (r : RowValue). length r.cells) e ∙ row_width inputs value s first is
rows_width inputs value (lines_rows.more s ss first rows is are) row (inr i) = rows_width inputs value are row i

commands_formed : {ss : List StatementValue} {commands : List Command} → AreCommands ss commands → (command : Command) → In commands command → IsWellFormedBody command.body
commands_formed (denotes.ports s ss commands k are) command i = commands_formed are command i
commands_formed (denotes.cover s rows rest ss c commands is rows_are split are) command (inl e) = grind (arith, rows_width)
commands_formed (denotes.cover s rows rest ss c commands is rows_are split are) command (inr i) = commands_formed are command i
commands_formed (denotes.latch s ss l commands k is are) command (inl e) = subst (λ (x : Command). IsWellFormedBody x.body) (sym e) tt
commands_formed (denotes.latch s ss l commands k is are) command (inr i) = commands_formed are command i
commands_formed (denotes.subckt s ss l commands k is are) command (inl e) = subst (λ (x : Command). IsWellFormedBody x.body) (sym e) is.once
commands_formed (denotes.subckt s ss l commands k is are) command (inr i) = commands_formed are command i
commands_formed o command i = absurd i

models_formed : {ss : List StatementValue} {models : List ModelValue} → AreModels ss models → (m : ModelValue) → In models m → IsWellFormedModel m
models_formed denotes.none m i = absurd i
models_formed (denotes.model s body rest ss first models is split are) m (inl e) = subst IsWellFormedModel (sym e) (record { ports = is.once; commands = commands_formed is.commands })
models_formed (denotes.model s body rest ss first models is split are) m (inr i) = models_formed are m i

pub denotes_formed : (bytes : List ℕ) (library : LibraryValue) → Denotes bytes library → IsWellFormed library
denotes_formed bytes library d = record { some = d.models_are.some; once = d.models_are.once; each = models_formed d.models_are.models }
