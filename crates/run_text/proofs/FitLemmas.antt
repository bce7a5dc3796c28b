-- The events of a script fit what it may name.
use Rattle.run_text.proofs.Common.{◌≡◌, ℕ, zero, suc, Bool, true, false, eqb, ltb, leb, List, [], ◌∷◌, ◌++◌, length, Option, Some, None, bytes_eq, refl, sym, ap, ◌∙◌, slice_get, option_map, option_and_then, or_parts, eqb-true, ltb-true, none-some, same_Some, slice_get_within, In, place_in, Assign, WordsLine, place_of, has_name, place_is, has_one_more, each_of, EventValue, Set, Fits, NamesValue, Saying, said_of, settings_refusal, cycle_refusal, saying_refusal, line_refusal, assigned, assign_of, event_of, line_event, AreEventsOf, Setting, Events, arith}
use Rattle.list_laws.proofs.Choice.{none_both, none_else}
use Rattle.tl_io.specs.Assigns.{AreAssigned}
use Rattle.run_text.proofs.EachLemmas.{each_at}
use Rattle.param_list.proofs.MarkLemmas.{has_this}

-- settings without a refusal: none has an earlier name, and each name stands once
module _ (params : List (List ℕ)) (number : ℕ) where
  later : (earlier : List (List ℕ)) (s : Setting) (rest : List Setting) → settings_refusal params number earlier (s ∷ rest) ≡ None
      → (has_name earlier s.name ≡ false) × (settings_refusal params number (earlier ++ s.name ∷ []) rest ≡ None)
  later earlier s rest none = grind (arith, none_both)

  not_earlier : (earlier : List (List ℕ)) (settings : List Setting) (i : ℕ) (s : Setting) → settings_refusal params number earlier settings ≡ None → slice_get settings i ≡ Some s → has_name earlier s.name ≡ false
  not_earlier earlier [] i s none at = absurd (none-some s at)
  not_earlier earlier (x ∷ xs) zero s none at = ap (λ (t : Setting). has_name earlier t.name) (sym (same_Some x s at)) ∙ (later earlier x xs none).0
  not_earlier earlier (x ∷ xs) (suc i) s none at = grind (arith, or_parts, bytes_eq, has_one_more, later, not_earlier (earlier ++ x.name ∷ []) xs i s (later earlier x xs none).1 at)

  differ : (earlier : List (List ℕ)) (x : Setting) (xs : List Setting) (i : ℕ) (s : Setting) → settings_refusal params number earlier (x ∷ xs) ≡ None → slice_get xs i ≡ Some s → s.name ≡ x.name → ⊥
  differ earlier x xs i s none at same =
      let wrong : true ≡ false = sym (ap (has_name (earlier ++ x.name ∷ [])) same ∙ has_this earlier x.name) ∙ (not_earlier (earlier ++ x.name ∷ []) xs i s (later earlier x xs none).1 at) in cc

  one_place : (earlier : List (List ℕ)) (settings : List Setting) (i j : ℕ) (s t : Setting) → settings_refusal params number earlier settings ≡ None → slice_get settings i ≡ Some s → slice_get settings j ≡ Some t → s.name ≡ t.name → i ≡ j
  one_place earlier [] i j s t none a b same = absurd (none-some s a)
  one_place earlier (x ∷ xs) zero zero s t none a b same = refl
  one_place earlier (x ∷ xs) zero (suc j) s t none a b same = absurd (differ earlier x xs j t none b (sym same ∙ ap (λ (u : Setting). u.name) (sym (same_Some x s a))))
  one_place earlier (x ∷ xs) (suc i) zero s t none a b same = absurd (differ earlier x xs i s none a (same ∙ ap (λ (u : Setting). u.name) (sym (same_Some x t b))))
  one_place earlier (x ∷ xs) (suc i) (suc j) s t none a b same = ap suc (one_place (earlier ++ x.name ∷ []) xs i j s t (later earlier x xs none).1 a b same)

-- the parameter of a setting
place_there : (bit : Bool) (o : Option ℕ) (a : Assign) → option_map (assigned bit) o ≡ Some a → o ≡ Some a.param
place_there bit o a e = grind (arith, none-some, same_Some)

named_there : (params : List (List ℕ)) (s : Setting) (a : Assign) → assign_of params s ≡ Some a → slice_get params a.param ≡ Some s.name
named_there params s a e = place_is params s.name a.param (place_there s.bit (place_of params s.name) a e)

assigned_fit : (params : List (List ℕ)) (number : ℕ) (settings : List Setting) (assigns : List Assign) → settings_refusal params number [] settings ≡ None → each_of (assign_of params) settings ≡ Some assigns → AreAssigned (length params) assigns
assigned_fit params number settings assigns none are = record {
  below = λ a i.
      let p = place_in assigns a i in
      let s = each_at (assign_of params) settings assigns p.0 a are p.1 in
      slice_get_within params a.param s.source.name (named_there params s.source a s.is);
  once = λ i j a b at bt same.
      let s = each_at (assign_of params) settings assigns i a are at in
      let t = each_at (assign_of params) settings assigns j b are bt in
      one_place params number [] settings i j s.source t.source none s.there t.there
      (same_Some s.source.name t.source.name (sym (named_there params s.source a s.is) ∙ ap (slice_get params) same ∙ named_there params t.source b t.is));
}

-- a line without a refusal
width_fits : (width : Option ℕ) (number : ℕ) (values : List Bool) → cycle_refusal width number values ≡ None → width ≡ Some (length values)
width_fits width number values none = grind (arith, none-some, eqb-true, none_else, eqb)

set_is : (o : Option (List Assign)) (event : EventValue) → option_map Set o ≡ Some event → (assigns : List Assign) × (o ≡ Some assigns) × (Set assigns ≡ event)
set_is o event e = grind (arith, none-some, same_Some)

said_fits : (names : NamesValue) (number : ℕ) (said : Option Saying) (event : EventValue) → saying_refusal names number said ≡ None → option_and_then (event_of names.params) said ≡ Some event → Fits names event
said_fits names number said event none is = grind (arith, none-some, set_is, assigned_fit, same_Some, width_fits, ltb-true, none_else, ltb)

-- the events of lines
pub events_fit : (names : NamesValue) (lines : List WordsLine) (events : List EventValue) → AreEventsOf names lines events → (event : EventValue) → In events event → Fits names event
events_fit names lines events are event i =
    let p = place_in events event i in
    let l = each_at (line_event names) lines events p.0 event are.are p.1 in
    let none : line_refusal names p.0 l.source ≡ None = sym (ap (option_and_then (line_refusal names p.0)) l.there) ∙ are.no_refusal p.0 in
    said_fits names (l.source).number (said_of names.forms (l.source).words) event (none_both (leb 1048576 p.0) (Events (l.source).number) _ none).1 l.is
