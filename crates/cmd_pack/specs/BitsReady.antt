-- A job of `bits` that is ready to be played, and the playing of its events.
use Rattle.std.specs.Prelude.{◌≡◌, ℕ, List, [], Option, Result, MatchResult}
use Rattle.list_laws.specs.Members.{In}
use Rattle.cmd_pack.specs.Words.{PortSeen, Files, ShelfSeen, SinkSeen, PackValue, EventValue, event_values, FitsPack, IsOfHost, SpecialiserValue, Outside, outside, PutsAll, IsHostStart, AreHostSteps}
use Rattle.cmd_pack.specs.declared.bits.prepare.ReadyScript.{ReadyScript}
use Rattle.cmd_pack.specs.Bits.{BitsWords, IsBitsJob, IsBitsSettled, PutsHostStep, AreLinesPut, AreLinesCut}

-- each event is of the host and can be played
pub record CanPlay (pack : PackValue) (events : List EventValue) : Type 0 where
  pub fits : (event : EventValue) → In events event → FitsPack pack event
  pub of_host : (event : EventValue) → In events event → IsOfHost event

-- a script that is ready on a pack
pub record IsReady (pack : PackValue) (events : List EventValue) (ready : ReadyScript) : Type 0 where
  pub start : IsHostStart pack ready.host
  pub are : event_values ready.events.items ≡ events

-- what the files of its job say
pub record IsReadyFor (files : Files) (words : BitsWords) (ready : ReadyScript) : Type 0 where
  pub pack : PackValue
  pub is_job : IsBitsJob files words pack (event_values ready.events.items)
  pub start : IsHostStart pack ready.host
  pub settled : IsBitsSettled files words

-- how events end, and how a script does, seen from outside
abbrev pub EventsEnd : {E : Type 0} → SpecialiserValue → List EventValue → Option (List ℕ) → Option (List ℕ) → Result Unit E → Type 0
EventsEnd old events before after result = PutsAll (AreHostSteps old) PutsHostStep [] events before after result

abbrev pub PlayEnd : {E : Type 0} → SpecialiserValue → List EventValue → Outside → Outside → Result Unit E → Type 0
PlayEnd h events old new result = MatchResult result (λ _. AreLinesPut h events old new) (λ _. AreLinesCut h events old new)

-- whatever files and ports there are
abbrev pub PlayEndsAnywhere : {E : Type 0} → SpecialiserValue → List EventValue → SinkSeen → SinkSeen → Result Unit E → Type 0
PlayEndsAnywhere h events before after result = (shelf : ShelfSeen) (ports : List PortSeen) → PlayEnd h events (outside shelf before ports) (outside shelf after ports) result
