-- What the playing of events one after the other puts, and how a fault of writing ends it: a text in front, and a line an event. The states are those of a machine or of a host.
use Rattle.std.specs.Prelude.{◌≡◌, ◌<◌, ◌⊎◌, ℕ, List, ◌∷◌, length, take, Option, Result, MatchResult}
use Rattle.std.specs.List.{concat}
use Rattle.tl_io.specs.Content.{extended}
use Rattle.cmd_stations.specs.Script.{IsSplit}

-- a fault of writing in the text in front: only a prefix of it is put
pub record IsCutInFront (front : List ℕ) (before after : Option (List ℕ)) : Type 0 where
  pub part : ℕ
  pub within : part < length front
  pub bytes : after ≡ extended before (take part front)

-- each event was played, and the output grew by the text in front and a line an event
pub record AreAllPut {Event State : Type 0} (Come : List Event → List (List ℕ) → State → Type 0) (front : List ℕ) (events : List Event) (before : Option (List ℕ)) (end : State) (after : Option (List ℕ)) : Type 0 where
  pub lines : List (List ℕ)
  pub come : Come events lines end
  pub bytes : after ≡ extended before (concat (front ∷ lines))

-- a fault of writing in an event's line: the lines before it stand whole, and a prefix of it
pub record IsCutInLine {Event State : Type 0} (Come : List Event → List (List ℕ) → State → Type 0) (Step : Event → State → List ℕ → State → Type 0) (front : List ℕ) (events : List Event) (before after : Option (List ℕ)) : Type 0 where
  pub first : List Event
  pub event : Event
  pub split : IsSplit events first event
  pub mid : State
  pub whole : Option (List ℕ)
  pub put : AreAllPut Come front first before mid whole
  pub line : List ℕ
  pub end : State
  pub step : Step event mid line end
  pub part : ℕ
  pub within : part < length line
  pub bytes : after ≡ extended whole (take part line)

-- how a playing ends where only a fault of writing can end it early
abbrev pub PutsAll : {E Event State : Type 0} → (List Event → List (List ℕ) → State → Type 0) → (Event → State → List ℕ → State → Type 0) → List ℕ → List Event → Option (List ℕ) → Option (List ℕ) → Result Unit E → Type 0
PutsAll {State = State} Come Step front events before after result = MatchResult result
    (λ _. (end : State) × AreAllPut Come front events before end after)
    (λ _. IsCutInFront front before after ⊎ IsCutInLine Come Step front events before after)
