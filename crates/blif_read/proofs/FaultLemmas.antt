-- The reader's state has the place that the earlier lines say, so its refusal is the text's.
use Rattle.blif_read.proofs.Common.{◌≡◌, ℕ, ◌+◌, ◌-◌, ◌<◌, Bool, true, false, cond, eqb, List, [], ◌∷◌, ◌++◌, length, Option, Some, None, Result, Ok, Err, refl, sym, ap, ◌∙◌, subst, inl, inr, ◌⊎◌, arith, option_map, append-nil, length-take-le, length_push, cond-false, ne_eqb, none-some, LineValue, TextErr, lines_of, BlifErr, NoModel, Keyword, CoverValue, RowValue, ModelValue, LibraryValue, Ports, input_ports, output_ports, clock_ports, ports_of, StatementValue, statements, Context, CoverPlace, RowRead, row_of, first_value, row_place, place_after, open_after, models_after, ports_after, context_of, or_later, mixed_fault, row_read_fault, row_fault, fault_by, line_fault, first_fault, has_model, statements_fault, blif_err, lines_fault, read_fault, CoverRead, ModelRead, State, start, with_cover, ended, value_so_far, place_of_cover, context, cover_of, with_row, with_row_words, next_by, next, or_fault, steps, library_at_end, finished, library_read, lines_read, text_read, Model, Inputs, Outputs, Clock, Names, End, Unknown, Plain}
use Rattle.blif_read.proofs.PortLemmas.{ports_flushed}

-- contexts with the same parts are the same
same_context : (a b : Context) → a.is_open ≡ b.is_open → a.models ≡ b.models → a.inputs ≡ b.inputs → a.outputs ≡ b.outputs → a.clocks ≡ b.clocks → a.cover ≡ b.cover → a ≡ b
same_context a b opens models inputs outputs clocks cover = λ i. record { is_open = opens i; models = models i; inputs = inputs i; outputs = outputs i; clocks = clocks i; cover = cover i }

-- the place behind a line, from the line's own place
abbrev place_behind : Keyword → Context → List (List ℕ) → Context
place_behind k c words = record {
  is_open = open_after k c.is_open;
  models = models_after k words c.models;
  inputs = ports_after input_ports k words c.inputs;
  outputs = ports_after output_ports k words c.outputs;
  clocks = ports_after clock_ports k words c.clocks;
  cover = place_after k words c.cover;
}

-- the ports of a model with its last cover
ports_kept : (p : Ports) (m : ModelValue) (c : Option CoverRead) → ports_of p (with_cover m c) ≡ ports_of p m ++ []
ports_kept p m c = ports_flushed p m c ∙ sym (append-nil (ports_of p m))

ports_added : (p : Ports) (m : ModelValue) (c : Option CoverRead) (words : List (List ℕ)) → ports_of p (with_cover m c) ++ words ≡ ports_of p m ++ words
ports_added p m c words = ap (λ ports. ports ++ words) (ports_flushed p m c)

-- the place of a cover behind its row: a row that isn't mixed has the value of the first one
pub same_value : (n : ℕ) (first value : Bool) → mixed_fault n (Some first) value ≡ None → value ≡ first
same_value n true false h = absurd (none-some _ (sym h))
same_value n false true h = absurd (none-some _ (sym h))
same_value n first value h = refl

pub some_push : {A : Type 0} (xs : List A) (x : A) → 0 < length (xs ++ x ∷ [])
some_push xs x = let e : length (xs ++ x ∷ []) ≡ length xs + 1 = length_push xs x in omega arith

pub value_there : (value : Bool) (rows : List RowValue) → 0 < length rows → cond (eqb (length rows) 0) None (Some value) ≡ Some value
value_there value rows some = cond-false (eqb (length rows) 0) None (Some value) (ne_eqb (length rows) 0 (λ e. omega arith))

place_value : (n : ℕ) (cover : CoverValue) (rows : List RowValue) (row : RowRead) → mixed_fault n (value_so_far (record cover { rows = rows })) row.value ≡ None
    → value_so_far (with_row (record cover { rows = rows }) (Some row)) ≡ first_value (value_so_far (record cover { rows = rows })) (Some row)
place_value n cover [] row h = value_there row.value (record { cells = row.cells } ∷ []) (omega arith)
place_value n cover (r ∷ rs) row h = grind arith

abbrev place_at : ℕ → Option Bool → Option CoverPlace
place_at inputs value = Some (record { inputs = inputs; value = value })

row_place_is : (n : ℕ) (cover : CoverValue) (row : Option RowRead) → row_read_fault n (value_so_far cover) row ≡ None
    → place_at (length (with_row cover row).inputs) (value_so_far (with_row cover row)) ≡ place_at (length cover.inputs) (first_value (value_so_far cover) row)
row_place_is n cover None h = absurd (none-some _ (sym h))
row_place_is n cover (Some row) h = ap (λ v. place_at (length cover.inputs) v) (place_value n cover cover.rows row h)

plain_place : (n : ℕ) (c : Option CoverRead) (words : List (List ℕ)) → row_fault n (place_of_cover c) words ≡ None → place_of_cover (option_map (with_row_words words) c) ≡ row_place words (place_of_cover c)
plain_place n None words h = absurd (none-some _ (sym h))
plain_place n (Some c) words h = row_place_is n c.cover (row_of (length c.cover.inputs) words) h

-- and behind a `.names` line
names_place : (words : List (List ℕ)) → place_at (length (cover_of words).inputs) None ≡ place_at (length words - 1) None
names_place words = ap (λ k. place_at k None) (length-take-le (length words - 1) words (omega arith))

-- the place behind a line without a refusal
abbrev pub state_of : List (List ℕ) → List ModelValue → Option ModelRead → State
state_of names done current = record { names = names; done = done; current = current }

next_place : (k : Keyword) (names : List (List ℕ)) (done : List ModelValue) (current : Option ModelRead) (n : ℕ) (words : List (List ℕ)) → fault_by k (context (state_of names done current)) n words ≡ None
    → context (next_by k (state_of names done current) n words) ≡ place_behind k (context (state_of names done current)) words
next_place Model names done current n words h = refl
next_place End names done current n words h = refl
next_place Unknown names done current n words h = absurd (none-some _ (sym h))
next_place k names done None n words h = absurd (none-some _ (sym h))
next_place Inputs names done (Some r) n words h = same_context _ _ refl refl (ports_added input_ports r.model r.cover words) (ports_kept output_ports r.model r.cover) (ports_kept clock_ports r.model r.cover) refl
next_place Outputs names done (Some r) n words h = same_context _ _ refl refl (ports_kept input_ports r.model r.cover) (ports_added output_ports r.model r.cover words) (ports_kept clock_ports r.model r.cover) refl
next_place Clock names done (Some r) n words h = same_context _ _ refl refl (ports_kept input_ports r.model r.cover) (ports_kept output_ports r.model r.cover) (ports_added clock_ports r.model r.cover words) refl
next_place Names names done (Some r) n words h = same_context _ _ refl refl (ports_kept input_ports r.model r.cover) (ports_kept output_ports r.model r.cover) (ports_kept clock_ports r.model r.cover) (names_place words)
next_place Plain names done (Some r) n words h = grind (arith, same_context, append-nil, plain_place)
next_place k names done (Some r) n words h = same_context _ _ refl refl (ports_kept input_ports r.model r.cover) (ports_kept output_ports r.model r.cover) (ports_kept clock_ports r.model r.cover) refl

-- the reader's place behind a line is what the lines up to it say
pub context_next : (s : State) (l : StatementValue) (earlier : List StatementValue) → context s ≡ context_of earlier → line_fault (context s) l ≡ None → context (next s l) ≡ context_of (l ∷ earlier)
context_next s l earlier same none = next_place l.keyword s.names s.done s.current l.number l.arguments none ∙ ap (λ c. place_behind l.keyword c l.arguments) same

-- a step without a refusal, and with one
pub or_fault_ok : (o : Option BlifErr) (r : Result State BlifErr) (t : State) → or_fault o r ≡ Ok t → (o ≡ None) × (r ≡ Ok t)
or_fault_ok None r t h = (refl, h)
or_fault_ok (Some e) r t h = absurd (let f : ⊥ = cc in f)

or_fault_err : (o : Option BlifErr) (r : Result State BlifErr) (e : BlifErr) → or_fault o r ≡ Err e → (o ≡ Some e) ⊎ ((o ≡ None) × (r ≡ Err e))
or_fault_err None r e h = inr (refl, h)
or_fault_err (Some f) r e h = inl (let g : f ≡ e = cc in ap (λ x. Some x) g)

-- the first refusal is the reader's
steps_fault_ok : (ss : List StatementValue) (s : State) (earlier : List StatementValue) (t : State) → context s ≡ context_of earlier → steps s ss ≡ Ok t → first_fault earlier ss ≡ None
steps_fault_ok [] s earlier t same h = refl
steps_fault_ok (l ∷ ls) s earlier t same h =
    let p = or_fault_ok (line_fault (context s) l) (steps (next s l) ls) t h in
    grind (arith, context_next, steps_fault_ok ls (next s l) (l ∷ earlier) t (context_next s l earlier same p.0) p.1)

steps_fault_err : (ss : List StatementValue) (s : State) (earlier : List StatementValue) (e : BlifErr) → context s ≡ context_of earlier → steps s ss ≡ Err e → first_fault earlier ss ≡ Some e
steps_fault_err [] s earlier e same h = absurd (let f : ⊥ = cc in f)
steps_fault_err (l ∷ ls) s earlier e same h =
    ap (λ c. or_later (line_fault c l) (first_fault (l ∷ earlier) ls)) (sym same)
    ∙ elim (or_fault_err (line_fault (context s) l) (steps (next s l) ls) e h) as (λ m. or_later (line_fault (context s) l) (first_fault (l ∷ earlier) ls) ≡ Some e) [
      | inl f ↦ ap (λ o. or_later o (first_fault (l ∷ earlier) ls)) f
      | inr p ↦ ap (λ o. or_later o (first_fault (l ∷ earlier) ls)) p.0 ∙ steps_fault_err ls (next s l) (l ∷ earlier) e (context_next s l earlier same p.0) p.1
    ]

has_model_first : (l : StatementValue) (ls : List StatementValue) (t : State) → steps start (l ∷ ls) ≡ Ok t → has_model (l ∷ ls) ≡ true
has_model_first l ls t h = grind arith

-- models that were read stay
next_some : (k : Keyword) (names : List (List ℕ)) (done : List ModelValue) (current : Option ModelRead) (n : ℕ) (words : List (List ℕ)) → 0 < length (ended (state_of names done current)) → 0 < length (ended (next_by k (state_of names done current) n words))
next_some Model names done current n words h = some_push _ _
next_some k names done (Some r) n words h = some_push _ _
next_some k names done current n words h = h

steps_some : (ss : List StatementValue) (s t : State) → 0 < length (ended s) → steps s ss ≡ Ok t → 0 < length (ended t)
steps_some [] s t some h = let e : s ≡ t = cc in subst (λ u. 0 < length (ended u)) e some
steps_some (l ∷ ls) s t some h =
    steps_some ls (next s l) t (next_some l.keyword s.names s.done s.current l.number l.arguments some) (or_fault_ok (line_fault (context s) l) (steps (next s l) ls) t h).1

begins_some : (k : Keyword) (n : ℕ) (words : List (List ℕ)) → fault_by k (context start) n words ≡ None → 0 < length (ended (next_by k start n words))
begins_some Model n words h = omega arith
begins_some k n words h = absurd (none-some _ (sym h))

-- so without a model there was no line
no_lines : (ss : List StatementValue) (t : State) → steps start ss ≡ Ok t → ended t ≡ [] → ss ≡ []
no_lines [] t h none = refl
no_lines (l ∷ ls) t h none =
    let p = or_fault_ok (line_fault (context start) l) (steps (next start l) ls) t h in
    absurd (omega (arith, steps_some ls (next start l) t (begins_some l.keyword l.number l.arguments p.0) p.1, ap length none))

-- the refusal of the statements
end_ok : (ss : List StatementValue) (t : State) (library : LibraryValue) → steps start ss ≡ Ok t → library_at_end (ended t) ≡ Ok library → has_model ss ≡ true
end_ok [] t library h e = let same : start ≡ t = cc in absurd (let f : library_at_end (ended start) ≡ Ok library = ap (λ u. library_at_end (ended u)) same ∙ e in let g : ⊥ = cc in g)
end_ok (l ∷ ls) t library h e = has_model_first l ls t h

pub finished_ok : (r : Result State BlifErr) (library : LibraryValue) → finished r ≡ Ok library → (t : State) × (r ≡ Ok t) × (library_at_end (ended t) ≡ Ok library)
finished_ok (Ok t) library h = (t, refl, h)
finished_ok (Err e) library h = absurd (let f : ⊥ = cc in f)

library_no_fault : (ss : List StatementValue) (library : LibraryValue) → library_read ss ≡ Ok library → statements_fault ss ≡ None
library_no_fault ss library h = grind (arith, finished_ok, cond, steps_fault_ok, end_ok)

end_err : (ms : List ModelValue) (e : BlifErr) → library_at_end ms ≡ Err e → (ms ≡ []) × (e ≡ NoModel)
end_err [] e h = (refl, let f : e ≡ NoModel = cc in f)
end_err (m ∷ ms) e h = absurd (let f : ⊥ = cc in f)

-- an end without a model, or a refusal of a line
data EndsBadly (r : Result State BlifErr) (e : BlifErr) : Type 0 where
  no_model : (t : State) → r ≡ Ok t → ended t ≡ [] → e ≡ NoModel → EndsBadly r e
  line : r ≡ Err e → EndsBadly r e

finished_err : (r : Result State BlifErr) (e : BlifErr) → finished r ≡ Err e → EndsBadly r e
finished_err (Ok t) e h = let q = end_err (ended t) e h in no_model t refl q.0 q.1
finished_err (Err f) e h = line (let g : f ≡ e = cc in ap (λ x. Err x) g)

library_fault_is : (ss : List StatementValue) (e : BlifErr) → EndsBadly (steps start ss) e → statements_fault ss ≡ Some e
library_fault_is ss e (no_model t h none is) = grind (arith, cond, steps_fault_ok, no_lines)
library_fault_is ss e (line h) = ap (λ o. or_later o (cond (has_model ss) None (Some NoModel))) (steps_fault_err ss start [] e refl h)

lines_no_fault : (bytes : List ℕ) (r : Result (List LineValue) TextErr) (library : LibraryValue) → lines_read bytes r ≡ Ok library → lines_fault bytes r ≡ None
lines_no_fault bytes (Ok lines) library h = library_no_fault (statements bytes lines) library h
lines_no_fault bytes (Err e) library h = absurd (let f : ⊥ = cc in f)

lines_fault_is : (bytes : List ℕ) (r : Result (List LineValue) TextErr) (e : BlifErr) → lines_read bytes r ≡ Err e → lines_fault bytes r ≡ Some e
lines_fault_is bytes (Ok lines) e h = library_fault_is (statements bytes lines) e (finished_err (steps start (statements bytes lines)) e h)
lines_fault_is bytes (Err f) e h = let g : blif_err f ≡ e = cc in ap (λ x. Some x) g

-- A text that is read has no refusal.
pub read_no_fault : (bytes : List ℕ) (library : LibraryValue) → text_read bytes ≡ Ok library → read_fault bytes ≡ None
read_no_fault bytes library h = lines_no_fault bytes (lines_of bytes) library h

-- The reader's refusal is the text's.
pub read_fault_is : (bytes : List ℕ) (e : BlifErr) → text_read bytes ≡ Err e → read_fault bytes ≡ Some e
read_fault_is bytes e h = lines_fault_is bytes (lines_of bytes) e h
