-- What the reader makes of lines without a refusal is what they denote.
use Rattle.blif_read.proofs.Common.{◌≡◌, ℕ, ◌<◌, List, [], ◌∷◌, ◌++◌, length, Some, None, Result, Ok, Err, refl, sym, ap, ◌∙◌, subst, arith, none-some, LineValue, lines_of, TextErr, BlifErr, Keyword, Body, ModelValue, LibraryValue, input_ports, output_ports, clock_ports, ports_of, StatementValue, statements, AreOnce, none, end_fault, fault_by, CoverRead, State, start, with_command, ended, context, fresh, with_ports, cover_of, latch_of, subckt_of, next_by, steps, library_at_end, library_read, lines_read, text_read, append-nil, append_assoc, rules, map, Option, map_push, Model, Plain, pushed_apart, line_fault, ModelRead, with_cover, flushed, model_after, next}
use Rattle.blif_read.specs.declared.keyword.Keyword.TheVariants.{Model, Inputs, Outputs, Clock, Names, Latch, Subckt, End, Unknown, Plain}
use Rattle.blif_read.specs.Denotes.{AreModels, AreLibrary, Denotes, none, end as end_line, latch as latch_line, subckt as subckt_line}
use Rattle.blif_read.proofs.FaultLemmas.{state_of, or_fault_ok, finished_ok}
use Rattle.blif_read.proofs.PortLemmas.{model_new, line_of, HasOnce, once_grown, once_commanded, quiet_line}
use Rattle.blif_read.proofs.FormedLemmas.{latch_is, names_are, subckt_is}
use Rattle.blif_read.proofs.EndsLemmas.{EndsClosed, EndsOpen, EndsCover, header_once, header_denoted, open_ports, open_command, open_cover, cover_row, cover_end, open_end}
use Rattle.netlist.specs.declared.command.Body.TheVariants as body

-- The names of the models that were read are those that began, and none stands twice.
abbrev pub names_of : List ModelValue → List (List ℕ)
names_of ms = map (λ (m : ModelValue). m.name) ms

pub record AreNamed (s : State) : Type 0 where
  pub names_are : s.names ≡ names_of (ended s)
  pub once : AreOnce s.names

-- a line within a model keeps its name
name_kept : (k : Keyword) (n : ℕ) (words : List (List ℕ)) (m : ModelValue) (c : Option CoverRead) → (flushed (model_after k n words (record { model = m; cover = c }))).name ≡ (with_cover m c).name
name_kept Plain n words m None = refl
name_kept Plain n words m (Some c) = refl
name_kept k n words m c = refl

names_pushed : (done : List ModelValue) (m other : ModelValue) → m.name ≡ other.name → names_of (done ++ m ∷ []) ≡ names_of (done ++ other ∷ [])
names_pushed done m other e = grind (arith, map_push, names_of)

next_named : (k : Keyword) (names : List (List ℕ)) (done : List ModelValue) (current : Option ModelRead) (n : ℕ) (words : List (List ℕ)) → AreNamed (state_of names done current) → fault_by k (context (state_of names done current)) n words ≡ None
    → AreNamed (next_by k (state_of names done current) n words)
next_named Model names done current n words named h = grind (arith, model_new, names_of, state_of, map_push, pushed_apart)
next_named k names done (Some r) n words named h = search (rules, names_pushed, name_kept)
next_named k names done current n words named h = record { names_are = named.names_are; once = named.once }

pub steps_named : (ss : List StatementValue) (s t : State) → AreNamed s → steps s ss ≡ Ok t → AreNamed t
steps_named [] s t named h = let e : s ≡ t = cc in subst AreNamed e named
steps_named (l ∷ ls) s t named h =
    let p = or_fault_ok (line_fault (context s) l) (steps (next s l) ls) t h in
    steps_named ls (next s l) t (next_named l.keyword s.names s.done s.current l.number l.arguments named p.0) p.1

-- what the reader makes of the lines in each state
record Reads (ss : List StatementValue) : Type 0 where
  closed : (names : List (List ℕ)) (done : List ModelValue) (t : State) → steps (state_of names done None) ss ≡ Ok t → EndsClosed done ss t
  opened : (names : List (List ℕ)) (done : List ModelValue) (m : ModelValue) (t : State) → HasOnce m → steps (state_of names done (Some (record { model = m; cover = None }))) ss ≡ Ok t → EndsOpen done m ss t
  covered : (names : List (List ℕ)) (done : List ModelValue) (m : ModelValue) (c : CoverRead) (t : State) → HasOnce m → steps (state_of names done (Some (record { model = m; cover = Some c }))) ss ≡ Ok t → EndsCover done m c ss t

abbrev opened_at : List (List ℕ) → List ModelValue → ModelValue → State
opened_at names done m = state_of names done (Some (record { model = m; cover = None }))

end_alone : (n : ℕ) (words : List (List ℕ)) → end_fault n words ≡ None → words ≡ []
end_alone n [] h = refl
end_alone n (w ∷ ws) h = absurd (none-some _ (sym h))

-- a line where a model is open, with no cover that may have further rows
open_step : (k : Keyword) (n : ℕ) (words : List (List ℕ)) (ls : List StatementValue) → Reads ls → (names : List (List ℕ)) (done : List ModelValue) (m : ModelValue) (t : State) → HasOnce m
    → fault_by k (context (opened_at names done m)) n words ≡ None → steps (next_by k (opened_at names done m) n words) ls ≡ Ok t → EndsOpen done m (line_of k n words ∷ ls) t
open_step Inputs n words ls reads names done m t o h g = open_ports input_ports n words ls done m t (reads.opened names done (with_ports input_ports words m) t (λ p. once_grown p input_ports n m words o h) g)
open_step Outputs n words ls reads names done m t o h g = open_ports output_ports n words ls done m t (reads.opened names done (with_ports output_ports words m) t (λ p. once_grown p output_ports n m words o h) g)
open_step Clock n words ls reads names done m t o h g = open_ports clock_ports n words ls done m t (reads.opened names done (with_ports clock_ports words m) t (λ p. once_grown p clock_ports n m words o h) g)
open_step Names n words ls reads names done m t o h g = open_cover n words ls done m t (names_are n words h) (reads.covered names done m (record { line = n; cover = cover_of words }) t o g)
open_step Latch n words ls reads names done m t o h g =
    let l : StatementValue = line_of Latch n words in
    let made : Body = body.Latch (latch_of words) in
    open_command done m n made (l ∷ []) ls (l ∷ ls) t refl (λ p. quiet_line p Latch n words [] refl refl) (λ lines commands are. latch_line l lines (latch_of words) commands refl (latch_is n words h) are)
    (reads.opened names done (with_command m n made) t (once_commanded m n made o) g)
open_step Subckt n words ls reads names done m t o h g =
    let l : StatementValue = line_of Subckt n words in
    let made : Body = body.Subckt (subckt_of words) in
    open_command done m n made (l ∷ []) ls (l ∷ ls) t refl (λ p. quiet_line p Subckt n words [] refl refl) (λ lines commands are. subckt_line l lines (subckt_of words) commands refl (subckt_is n words h) are)
    (reads.opened names done (with_command m n made) t (once_commanded m n made o) g)
open_step Model n words ls reads names done m t o h g =
    let e : EndsOpen (done ++ m ∷ []) (fresh words n).model ls t = reads.opened (names ++ words) (done ++ m ∷ []) (fresh words n).model t (header_once words n) g in
    record {
      lines = [];
      rest = line_of Model n words ∷ ls;
      whole = m;
      made = e.whole ∷ e.made;
      commands = [];
      split = refl;
      ended_is = e.ended_is ∙ append_assoc done (m ∷ []) (e.whole ∷ e.made);
      denoted = header_denoted names words n (done ++ m ∷ []) ls t (model_new n names words h) e;
      name_is = refl;
      line_is = refl;
      ports_are = λ p. sym (append-nil (ports_of p m));
      once = o;
      commands_are = sym (append-nil m.commands);
      commanded = none;
    }
open_step End n words ls reads names done m t o h g =
    let e : EndsClosed (done ++ m ∷ []) ls t = reads.closed names (done ++ m ∷ []) t g in
    record {
      lines = (line_of End n words) ∷ [];
      rest = ls;
      whole = m;
      made = e.made;
      commands = [];
      split = refl;
      ended_is = e.ended_is ∙ append_assoc done (m ∷ []) e.made;
      denoted = e.denoted;
      name_is = refl;
      line_is = refl;
      ports_are = λ p. sym (append-nil (ports_of p m)) ∙ ap (λ x. ports_of p m ++ x) (sym (quiet_line p End n words [] refl refl));
      once = o;
      commands_are = sym (append-nil m.commands);
      commanded = end_line (line_of End n words) refl (end_alone n words h);
    }
open_step k n words ls reads names done m t o h g = absurd (none-some _ (sym h))

-- a line where no model is open
closed_step : (k : Keyword) (n : ℕ) (words : List (List ℕ)) (ls : List StatementValue) → Reads ls → (names : List (List ℕ)) (done : List ModelValue) (t : State) → fault_by k (context (state_of names done None)) n words ≡ None
    → steps (next_by k (state_of names done None) n words) ls ≡ Ok t → EndsClosed done (line_of k n words ∷ ls) t
closed_step Model n words ls reads names done t h g =
    let e : EndsOpen done (fresh words n).model ls t = reads.opened (names ++ words) done (fresh words n).model t (header_once words n) g in
    record { made = e.whole ∷ e.made; ended_is = e.ended_is; denoted = header_denoted names words n done ls t (model_new n names words h) e }
closed_step k n words ls reads names done t h g = absurd (none-some _ (sym h))

-- a line where the last cover may have further rows
cover_step : (k : Keyword) (n : ℕ) (words : List (List ℕ)) (ls : List StatementValue) → Reads ls → (names : List (List ℕ)) (done : List ModelValue) (m : ModelValue) (c : CoverRead) (t : State) → HasOnce m
    → fault_by k (context (state_of names done (Some (record { model = m; cover = Some c })))) n words ≡ None → steps (next_by k (state_of names done (Some (record { model = m; cover = Some c }))) n words) ls ≡ Ok t
    → EndsCover done m c (line_of k n words ∷ ls) t
cover_step Plain n words ls reads names done m c t o h g = grind (arith, cover_row)
cover_step Unknown n words ls reads names done m c t o h g = absurd (none-some _ (sym h))
cover_step k n words ls reads names done m c t o h g = search (rules, cover_end, line_of, open_step, once_commanded)

same_end : (s t : State) → ◌≡◌ {A = Result State BlifErr} (Ok s) (Ok t) → ended t ≡ ended s
same_end s t h = let e : s ≡ t = cc in ap ended (sym e)

reads_all : (ss : List StatementValue) → Reads ss
reads_all [] = record {
  closed = λ names done t h. record { made = []; ended_is = same_end _ t h ∙ sym (append-nil done); denoted = none };
  opened = λ names done m t o h. open_end done m t o (same_end _ t h);
  covered = λ names done m c t o h. cover_end [] done m c t (open_end done (with_command m c.line (body.Cover c.cover)) t (once_commanded m c.line (body.Cover c.cover) o) (same_end _ t h));
}
reads_all (l ∷ ls) = grind (arith, or_fault_ok, state_of, closed_step, opened_at, open_step, cover_step, reads_all ls)

-- the library at the end has the models, and at least one
end_is : (ms : List ModelValue) (library : LibraryValue) → library_at_end ms ≡ Ok library → (ms ≡ library.models) × (0 < length ms)
end_is [] library h = absurd (let f : ⊥ = cc in f)
end_is (m ∷ ms) library h = (let e : record { models = m ∷ ms } ≡ library = cc in ap (λ (l : LibraryValue). l.models) e, omega arith)

library_denoted : (ss : List StatementValue) (library : LibraryValue) → library_read ss ≡ Ok library → AreLibrary ss library
library_denoted ss library h =
    let q = finished_ok (steps start ss) library h in
    let e : EndsClosed [] ss q.0 = (reads_all ss).closed [] [] q.0 q.1 in
    let n : AreNamed q.0 = steps_named ss start q.0 (record { names_are = refl; once = tt }) q.1 in
    let is = end_is (ended q.0) library q.2 in
    record {
      models = subst (AreModels ss) (sym e.ended_is ∙ is.0) e.denoted;
      some = subst (λ ms. 0 < length ms) is.0 is.1;
      once = subst AreOnce (n.names_are ∙ ap names_of is.0) n.once;
    }

lines_denoted : (bytes : List ℕ) (r : Result (List LineValue) TextErr) (library : LibraryValue) → lines_of bytes ≡ r → lines_read bytes r ≡ Ok library → Denotes bytes library
lines_denoted bytes (Ok lines) library is h = record { lines = lines; lines_are = is; models_are = library_denoted (statements bytes lines) library h }
lines_denoted bytes (Err e) library is h = absurd (let f : ⊥ = cc in f)

-- A text that is read denotes the library that was read.
pub read_denotes : (bytes : List ℕ) (library : LibraryValue) → text_read bytes ≡ Ok library → Denotes bytes library
read_denotes bytes library h = lines_denoted bytes (lines_of bytes) library refl h
