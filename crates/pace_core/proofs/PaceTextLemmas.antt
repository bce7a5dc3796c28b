-- A script by the forms of `ask` and `tick` has no other event, and each of its events fits.
use Rattle.pace_core.proofs.Common.{◌≡◌, ◌⊎◌, ℕ, Bool, List, [], ◌∷◌, length, map, Option, Some, None, codes, bytes_eq, if◌then◌else◌, refl, sym, ap, ◌∙◌, subst, inl, inr, cons_option, none-some, same_Some, Assign, In, In-get, place_in, EventValue, Set, Cycle, Upset, Scrub, Image, PaceValue, Ask, Tick, pace_of, asks_and_ticks, Fits, AreAsksAndTicks, HasOneReading}
use Rattle.std.specs.Option.{option_map, option_and_then}
use Rattle.list_laws.proofs.Choice.{choose}
use Rattle.tl_text.specs.LineValue.{words_line}
use Rattle.run_text.specs.EventValue.{in_front, each_of}
use Rattle.run_text.specs.Fits.{Fits as RunFits}
use Rattle.run_text.specs.NamesValue.{NamesValue}
use Rattle.run_text.specs.Sayings.{sets, cycles, form_of, said_by, said_of, settings_of, bits_of, only}
use Rattle.tl_fault.specs.Settled.{HasAnswer, has_value, has_fault}
use Rattle.run_text.specs.ScriptText.{assign_of, event_of, line_event, IsScript, IsScriptFault}
use Rattle.pace_core.specs.PaceText.{IsPaceScript}
use Rattle.run_text.specs.declared.event.Forms.TheVariants.{Pace}
use Rattle.run_text.specs.declared.setting.Setting.{Setting}
use Rattle.run_text.proofs.EachLemmas.{each_at, each_once}
use Rattle.run_text.proofs.ScriptOnceLemmas.{one_reading}

-- an event that is an ask or a tick
pub record HasPace (event : EventValue) : Type 0 where
  pub pace : PaceValue
  pub is : pace_of event ≡ Some pace

-- a set is an ask
assigns_paced : (o : Option (List Assign)) (event : EventValue) → option_map Set o ≡ Some event → HasPace event
assigns_paced None event is = absurd (none-some event is)
assigns_paced (Some assigns) event is = subst HasPace (same_Some (Set assigns) event is) (record { pace = Ask assigns; is = refl })

-- so the settings of a line are an ask
settings_paced : (params : List (List ℕ)) (o : Option (List Setting)) (event : EventValue) → option_and_then (event_of params) (option_map sets o) ≡ Some event → HasPace event
settings_paced params None event is = absurd (none-some event is)
settings_paced params (Some settings) event is = assigns_paced (each_of (assign_of params) settings) event is

-- a cycle is a tick
values_paced : (params : List (List ℕ)) (o : Option (List Bool)) (event : EventValue) → option_and_then (event_of params) (option_map cycles o) ≡ Some event → HasPace event
values_paced params None event is = absurd (none-some event is)
values_paced params (Some values) event is = subst HasPace (same_Some (Cycle values) event is) (record { pace = Tick values; is = refl })

-- what such a line says by its form is an ask or a tick
abbrev Says : List (List ℕ) → List (List ℕ) → List ℕ → Type 0
Says params rest form = (event : EventValue) → option_and_then (event_of params) (said_by form rest) ≡ Some event → HasPace event

-- by these forms each word says one of them, or nothing
form_paced : (params rest : List (List ℕ)) (word : List ℕ) → Says params rest (form_of Pace word)
form_paced params rest word = choose (Says params rest) (bytes_eq word (codes "ask")) (codes "set") (if bytes_eq word (codes "tick") then codes "cycle" else [])
    (λ ask event is. settings_paced params (settings_of rest) event is)
    (λ other. choose (Says params rest) (bytes_eq word (codes "tick")) (codes "cycle") []
    (λ tick event is. values_paced params (option_and_then bits_of (only rest)) event is)
    (λ none event is. absurd (none-some event is)))

-- so do the words of a line
words_paced : (params words : List (List ℕ)) (event : EventValue) → option_and_then (event_of params) (said_of Pace words) ≡ Some event → HasPace event
words_paced params [] event is = absurd (none-some event is)
words_paced params (word ∷ rest) event is = form_paced params rest word event is

-- where each event is an ask or a tick, those that are are all of them
front_kept : (o : Option PaceValue) (rest : Option (List PaceValue)) (kept : List PaceValue) (pace : PaceValue) → o ≡ Some pace → rest ≡ Some kept → in_front o rest ≡ Some (cons_option o kept)
front_kept None rest kept pace is later = absurd (none-some pace is)
front_kept (Some first) rest kept pace is later = ap (in_front (Some first)) later

each_paced : (events : List EventValue) → ((event : EventValue) → In events event → HasPace event) → AreAsksAndTicks events (asks_and_ticks events)
each_paced [] all = refl
each_paced (event ∷ events) all =
    let first = all event (inl refl) in
    front_kept (pace_of event) (each_of pace_of events) (asks_and_ticks events) first.pace first.is (each_paced events (λ e i. all e (inr i)))

-- and so are those of a script by these forms
pub script_paced : (names : NamesValue) (text : List ℕ) (read : List EventValue) → names.forms ≡ Pace → IsScript names text read → AreAsksAndTicks read (asks_and_ticks read)
script_paced names text read forms script = each_paced read (λ event i.
    let l = each_at (line_event names) (map (words_line text) script.lines) read (place_in read event i).0 event (script.are).are (place_in read event i).1 in
    words_paced names.params l.source.words event (ap (λ f. option_and_then (event_of names.params) (said_of f l.source.words)) (sym forms) ∙ l.is))

-- an event of a script that fits what may be named fits so many parameters and regular inputs
event_fits : (names : NamesValue) (width : ℕ) (event : EventValue) (pace : PaceValue) → names.width ≡ Some width → pace_of event ≡ Some pace → RunFits names event → Fits (length names.params) width pace
event_fits names width (Set assigns) pace wide is fits = subst (Fits (length names.params) width) (same_Some (Ask assigns) pace is) fits
event_fits names width (Cycle values) pace wide is fits = subst (Fits (length names.params) width) (same_Some (Tick values) pace is) (same_Some (length values) width (sym fits ∙ wide))
event_fits names width event pace wide is fits = absurd (none-some pace is)

-- so do all of them
-- so the asks and the ticks among events that fit do
front_from : (o : Option PaceValue) (kept : List PaceValue) (pace : PaceValue) → In (cons_option o kept) pace → (o ≡ Some pace) ⊎ In kept pace
front_from None kept pace i = inr i
front_from (Some first) kept pace (inl e) = inl (ap (λ p. Some p) (sym e))
front_from (Some first) kept pace (inr i) = inr i

pub kept_fit : (names : NamesValue) (width : ℕ) (read : List EventValue) → names.width ≡ Some width → ((event : EventValue) → In read event → RunFits names event)
    → (pace : PaceValue) → In (asks_and_ticks read) pace → Fits (length names.params) width pace
kept_fit names width [] wide fits pace i = absurd i
kept_fit names width (event ∷ read) wide fits pace i = elim (front_from (pace_of event) (asks_and_ticks read) pace i) [
  | inl e ↦ event_fits names width event pace wide e (fits event (inl refl))
  | inr j ↦ kept_fit names width read wide (λ e k. fits e (inr k)) pace j
]

-- and those of a script
pub events_fit : (names : NamesValue) (width : ℕ) (read : List EventValue) (paced : List PaceValue) → names.width ≡ Some width → AreAsksAndTicks read paced → ((event : EventValue) → In read event → RunFits names event)
    → (pace : PaceValue) → In paced pace → Fits (length names.params) width pace
events_fit names width read paced wide are fits pace i =
    let p = place_in paced pace i in
    let e = each_at pace_of read paced p.0 pace are p.1 in
    event_fits names width e.source pace wide e.is (fits e.source (In-get read p.0 e.source e.there))

-- a text is one script or has one refusal, and not both
pace_some : (names : NamesValue) (text : List ℕ) → names.forms ≡ Pace → HasAnswer (IsScript names text) (IsScriptFault names text) → HasAnswer (IsPaceScript names text) (IsScriptFault names text)
pace_some names text forms (has_value read is) = has_value (asks_and_ticks read) (record { read = read; is = is; are = script_paced names text read forms is })
pace_some names text forms (has_fault e is) = has_fault e is

one_script : (names : NamesValue) (text : List ℕ) (v w : List PaceValue) → IsPaceScript names text v → IsPaceScript names text w → v ≡ w
one_script names text v w a b =
    let same = (one_reading names text).one_value a.read b.read a.is b.is in
    each_once pace_of a.read v w a.are (ap (each_of pace_of) same ∙ b.are)

pub one_pace_reading : (names : NamesValue) (text : List ℕ) → names.forms ≡ Pace → HasOneReading names text
one_pace_reading names text forms = record {
  some = pace_some names text forms (one_reading names text).some;
  one_value = one_script names text;
  one_fault = (one_reading names text).one_fault;
  not_both = λ v e a fault. (one_reading names text).not_both a.read e a.is fault;
}
