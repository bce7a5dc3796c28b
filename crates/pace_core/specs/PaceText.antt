-- A script at a limited rate as a text: one by the forms of `ask` and `tick`, whose sets are asks and whose cycles are ticks.
use Rattle.std.specs.Prelude.{◌≡◌, ℕ, List, Some}
use Rattle.tl_fault.specs.Settled.{IsSettled}
use Rattle.run_text.specs.EventValue.{each_of, EventValue}
use Rattle.run_text.specs.NamesValue.{NamesValue}
use Rattle.run_text.specs.ScriptText.{IsScript, IsScriptFault}
use Rattle.pace_core.specs.EventValue.{PaceValue, pace_of}

-- these are the events of a script's lines
abbrev pub AreAsksAndTicks : List EventValue → List PaceValue → Type 0
AreAsksAndTicks read events = each_of pace_of read ≡ Some events

-- a text is a script of these events; it is refused as a script by its forms is
pub record IsPaceScript (names : NamesValue) (text : List ℕ) (events : List PaceValue) : Type 0 where
  pub read : List EventValue
  pub is : IsScript names text read
  pub are : AreAsksAndTicks read events

-- a text is one script or has one refusal, and not both
abbrev pub HasOneReading : NamesValue → List ℕ → Type 0
HasOneReading names text = IsSettled (IsPaceScript names text) (IsScriptFault names text)
