-- A text is one script or has one refusal, and not both.
use Rattle.run_text.proofs.Common.{◌≡◌, ℕ, suc, ◌≤◌, Bool, true, false, List, [], ◌∷◌, ◌++◌, Option, Some, None, refl, sym, ap, ◌∙◌, inl, inr, is_some, slice_get, none-some, option_map, option_and_then, WordsLine, text_settled, NamesValue, script_err, IsFirstRefusal, AreEventsOf, HasOneReading}
use Rattle.std.proofs.Common.{not, ◌⊎◌}
use Rattle.std.proofs.lemmas.Bool.{false≢true}
use Rattle.std.proofs.lemmas.Option.{slice_get_past}
use Rattle.std.specs.Prelude.{nat_le, length}
use Rattle.tl_fault.specs.Settled.{IsSettled, HasAnswer, has_value, has_fault}
use Rattle.tl_io.specs.declared.Assign.{Assign}
use Rattle.tl_text.proofs.FirstLemmas.{one_first, none_first, first_or_none}
use Rattle.tl_text.proofs.NameSetLemmas.{place_some}
use Rattle.list_laws.proofs.Choice.{none_both}
use Rattle.tl_text.specs.NameIndex.{place_of}
use Rattle.tl_text.specs.NameSets.{has_name}
use Rattle.run_text.specs.EventValue.{each_of, in_front, EventValue, Set, Cycle, Upset, Scrub, Image}
use Rattle.run_text.specs.Sayings.{Saying, sets, cycles, upsets, scrubs, images, said_of}
use Rattle.run_text.specs.ScriptText.{settings_refusal, saying_refusal, line_refusal, refusal_at, assigned, assign_of, event_of, line_event}
use Rattle.run_text.specs.declared.event.TheConstants.{MOST_EVENTS}
use Rattle.run_text.specs.declared.setting.Setting.{Setting}
use Rattle.run_text.specs.declared.script_err.ScriptErr.{ScriptErr}
use Rattle.run_text.specs.declared.script_err.ScriptErr.TheVariants.{Malformed, NotParameter, RepeatedInSet, Events}
use Rattle.run_text.proofs.EachLemmas.{each_once}

-- what a line without a refusal says is an event
not_false : (b : Bool) → not b ≡ false → b ≡ true
not_false true e = refl
not_false false e = absurd (false≢true (sym e))

value_there : {A : Type 0} (o : Option A) → is_some o ≡ true → (x : A) × (o ≡ Some x)
value_there None e = absurd (false≢true e)
value_there (Some x) e = (x, refl)

settings_some : (params : List (List ℕ)) (number : ℕ) (earlier : List (List ℕ)) (settings : List Setting) → settings_refusal params number earlier settings ≡ None
    → (assigns : List Assign) × (each_of (assign_of params) settings ≡ Some assigns)
settings_some params number earlier [] h = ([], refl)
settings_some params number earlier (s ∷ ss) h =
    let a = none_both (not (has_name params s.name)) (NotParameter number s.name) _ h in
    let b = none_both (has_name earlier s.name) (RepeatedInSet number s.name) _ a.1 in
    let rest = settings_some params number (earlier ++ s.name ∷ []) ss b.1 in
    let place = value_there (place_of params s.name) (place_some params s.name ∙ not_false (has_name params s.name) a.0) in
    (assigned s.bit place.0 ∷ rest.0, ap (λ o. in_front (option_map (assigned s.bit) o) (each_of (assign_of params) ss)) place.1 ∙ ap (in_front (Some (assigned s.bit place.0))) rest.1)

saying_some : (names : NamesValue) (number : ℕ) (said : Option Saying) → saying_refusal names number said ≡ None → (event : EventValue) × (option_and_then (event_of names.params) said ≡ Some event)
saying_some names number None h = absurd (none-some (Malformed number) (sym h))
saying_some names number (Some (sets settings)) h = let assigns = settings_some names.params number [] settings h in (Set assigns.0, ap (option_map Set) assigns.1)
saying_some names number (Some (cycles values)) h = (Cycle values, refl)
saying_some names number (Some (upsets address)) h = (Upset address, refl)
saying_some names number (Some scrubs) h = (Scrub, refl)
saying_some names number (Some images) h = (Image, refl)

line_some : (names : NamesValue) (lines : List WordsLine) (i : ℕ) (line : WordsLine) → slice_get lines i ≡ Some line → refusal_at names lines i ≡ None → (event : EventValue) × (line_event names line ≡ Some event)
line_some names lines i line at none =
    let there : line_refusal names i line ≡ None = sym (ap (option_and_then (line_refusal names i)) at) ∙ none in
    saying_some names line.number (said_of names.forms line.words) (none_both (nat_le MOST_EVENTS i) (Events line.number) _ there).1

each_some : {A B : Type 0} (f : A → Option B) (xs : List A) → ((i : ℕ) (x : A) → slice_get xs i ≡ Some x → (y : B) × (f x ≡ Some y)) → (ys : List B) × (each_of f xs ≡ Some ys)
each_some f [] h = ([], refl)
each_some f (x ∷ xs) h =
    let y = h 0 x refl in
    let ys = each_some f xs (λ i z at. h (suc i) z at) in
    (y.0 ∷ ys.0, ap (λ o. in_front o (each_of f xs)) y.1 ∙ ap (in_front (Some y.0)) ys.1)

past_lines : (names : NamesValue) (lines : List WordsLine) (i : ℕ) → length lines ≤ i → refusal_at names lines i ≡ None
past_lines names lines i past = ap (option_and_then (line_refusal names i)) (slice_get_past lines i past)

lines_some : (names : NamesValue) (lines : List WordsLine) → ((i : ℕ) → refusal_at names lines i ≡ None) ⊎ ((e : ScriptErr) × IsFirstRefusal names lines e) → HasAnswer (AreEventsOf names lines) (IsFirstRefusal names lines)
lines_some names lines (inl none) = let events = each_some (line_event names) lines (λ i line at. line_some names lines i line at (none i)) in has_value events.0 (record { no_refusal = none; are = events.1 })
lines_some names lines (inr first) = has_fault first.0 first.1

lines_settled : (names : NamesValue) (lines : List WordsLine) → IsSettled (AreEventsOf names lines) (IsFirstRefusal names lines)
lines_settled names lines = record {
  some = lines_some names lines (first_or_none (refusal_at names lines) (length lines) (past_lines names lines));
  one_value = λ v w a b. each_once (line_event names) lines v w a.are b.are;
  one_fault = one_first (refusal_at names lines);
  not_both = λ events e are first. none_first (refusal_at names lines) e are.no_refusal first;
}

pub one_reading : (names : NamesValue) (text : List ℕ) → HasOneReading names text
one_reading names text = text_settled script_err (λ lines. AreEventsOf names lines) (λ lines. IsFirstRefusal names lines) text (lines_settled names)
