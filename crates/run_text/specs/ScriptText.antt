-- A script as a text: the events of its lines, and its refusal, that of the first line that has one.
use Rattle.std.specs.Prelude.{◌≡◌, ℕ, Bool, not, nat_lt, nat_le, ◌==◌, if◌then◌else◌, List, [], ◌∷◌, ◌++◌, length, Option, Some, None, slice_get, Result, MatchResult}
use Rattle.std.specs.Option.{option_map, option_and_then}
use Rattle.tl_io.specs.declared.Assign.{Assign}
use Rattle.tl_fault.specs.Settled.{IsSettled}
use Rattle.tl_text.specs.FirstRefusal.{IsFirst}
use Rattle.tl_text.specs.LineValue.{WordsLine}
use Rattle.tl_text.specs.NameIndex.{place_of}
use Rattle.tl_text.specs.TextOf.{IsTextOf, IsTextFault}
use Rattle.tl_text.specs.declared.text_err.TextErr.{TextErr}
use Rattle.tl_text.specs.declared.text_err.TextErr.TheVariants as text_err
use Rattle.tl_text.specs.NameSets.{has_name}
use Rattle.run_text.specs.EventValue.{each_of, EventValue, Set, Cycle, Upset, Scrub, Image, event_value}
use Rattle.run_text.specs.NamesValue.{NamesValue}
use Rattle.run_text.specs.Sayings.{Saying, sets, cycles, upsets, scrubs, images, said_of}
use Rattle.run_text.specs.declared.event.TheConstants.{MOST_EVENTS}
use Rattle.run_text.specs.declared.setting.Setting.{Setting}
use Rattle.run_text.specs.declared.script_err.ScriptErr.{ScriptErr}
use Rattle.run_text.specs.declared.script_err.ScriptErr.TheVariants.{BadByte, TrailingSlash, Malformed, NotHere, Width, NotParameter, RepeatedInSet, Address, Events, Memory}
use Rattle.tl_fault.specs.OrMemory.{OrMemory}
use Rattle.run_text.specs.ScriptRefusals.{refusal_of}
use Rattle.run_text.specs.declared.event.Event.{Event}

-- a refusal of a text's lines as one of a script
abbrev pub script_err : TextErr → ScriptErr
script_err (text_err.BadByte line) = BadByte line
script_err (text_err.TrailingSlash line) = TrailingSlash line
script_err text_err.Memory = Memory

-- the refusal of settings, one by one, where a line's settings before them have these names
abbrev pub settings_refusal : List (List ℕ) → ℕ → List (List ℕ) → List Setting → Option ScriptErr
settings_refusal params number earlier [] = None
settings_refusal params number earlier (setting ∷ settings) =
    if not (has_name params setting.name) then Some (NotParameter number setting.name)
    else if has_name earlier setting.name then Some (RepeatedInSet number setting.name)
    else settings_refusal params number (earlier ++ setting.name ∷ []) settings

-- the refusal of a cycle with these values, where cycles have this many
abbrev pub cycle_refusal : Option ℕ → ℕ → List Bool → Option ScriptErr
cycle_refusal None number values = Some (NotHere number)
cycle_refusal (Some width) number values = if length values == width then None else Some (Width number width)

abbrev pub upset_refusal : ℕ → ℕ → ℕ → Option ScriptErr
upset_refusal bits number address = if nat_lt address bits then None else Some (Address number bits)

-- the refusal of a line by what it says
abbrev pub saying_refusal : NamesValue → ℕ → Option Saying → Option ScriptErr
saying_refusal names number None = Some (Malformed number)
saying_refusal names number (Some (sets settings)) = settings_refusal names.params number [] settings
saying_refusal names number (Some (cycles values)) = cycle_refusal names.width number values
saying_refusal names number (Some (upsets address)) = upset_refusal names.bits number address
saying_refusal names number (Some scrubs) = None
saying_refusal names number (Some images) = None

-- the refusal of a line after so many others
abbrev pub line_refusal : NamesValue → ℕ → WordsLine → Option ScriptErr
line_refusal names earlier line =
    if nat_le MOST_EVENTS earlier then Some (Events line.number)
    else saying_refusal names line.number (said_of names.forms line.words)

-- the refusal of the line at a place
abbrev pub refusal_at : NamesValue → List WordsLine → ℕ → Option ScriptErr
refusal_at names lines i = option_and_then (line_refusal names i) (slice_get lines i)

-- the first line that has a refusal
abbrev pub IsFirstRefusal : NamesValue → List WordsLine → ScriptErr → Type 0
IsFirstRefusal names lines e = IsFirst (refusal_at names lines) e

-- a setting, by the number of the parameter of its name
abbrev pub assigned : Bool → ℕ → Assign
assigned bit param = record { param = param; bit = bit }

abbrev pub assign_of : List (List ℕ) → Setting → Option Assign
assign_of params setting = option_map (assigned setting.bit) (place_of params setting.name)

-- the event that a line says
abbrev pub event_of : List (List ℕ) → Saying → Option EventValue
event_of params (sets settings) = option_map Set (each_of (assign_of params) settings)
event_of params (cycles values) = Some (Cycle values)
event_of params (upsets address) = Some (Upset address)
event_of params scrubs = Some Scrub
event_of params images = Some Image

abbrev pub line_event : NamesValue → WordsLine → Option EventValue
line_event names line = option_and_then (event_of names.params) (said_of names.forms line.words)

-- the events of lines without a refusal, line by line
pub record AreEventsOf (names : NamesValue) (lines : List WordsLine) (events : List EventValue) : Type 0 where
  pub no_refusal : (i : ℕ) → refusal_at names lines i ≡ None
  pub are : each_of (line_event names) lines ≡ Some events

-- a text is a script of these events
abbrev pub IsScript : NamesValue → List ℕ → List EventValue → Type 0
IsScript names = IsTextOf (λ lines. AreEventsOf names lines)

-- a text is refused: as its lines are, else at the first line that has a refusal
abbrev pub IsScriptFault : NamesValue → List ℕ → ScriptErr → Type 0
IsScriptFault names = IsTextFault script_err (λ lines. IsFirstRefusal names lines)

-- a text is one script or has one refusal, and not both
abbrev pub HasOneReading : NamesValue → List ℕ → Type 0
HasOneReading names text = IsSettled (IsScript names text) (IsScriptFault names text)

-- the event of a line that says this, or its refusal
abbrev pub Reads : NamesValue → ℕ → Option Saying → Result Event ScriptErr → Type 0
Reads names number said result = MatchResult result
    (λ event. (saying_refusal names number said ≡ None) × (option_and_then (event_of names.params) said ≡ Some (event_value event)))
    (OrMemory refusal_of (λ e. saying_refusal names number said ≡ Some e))
