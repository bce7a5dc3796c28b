-- Events with plain lists in the vectors' places.
use Rattle.std.specs.Prelude.{◌≡◌, ℕ, Bool, List, length, map, filter_map, Option, Some, None}
use Rattle.pace_core.specs.Words.{Assign, AreAssigned}
use Rattle.run_text.specs.EventValue.{EventValue, Set, Cycle, Upset, Scrub, Image}
use Rattle.pace_core.specs.declared.event.PaceEvent.{PaceEvent}
use Rattle.pace_core.specs.declared.event.PaceEvent.TheVariants as event

pub data PaceValue : Type 0 where
  Ask : List Assign → PaceValue
  Tick : List Bool → PaceValue

abbrev pub pace_value : PaceEvent → PaceValue
pace_value (event.Ask assigns) = Ask assigns.items
pace_value (event.Tick values) = Tick values.items

abbrev pub pace_values : List PaceEvent → List PaceValue
pace_values events = map pace_value events

-- the event that a line's event is here: a set is an ask, a cycle is a tick, and the others are none
abbrev pub pace_of : EventValue → Option PaceValue
pace_of (Set assigns) = Some (Ask assigns)
pace_of (Cycle values) = Some (Tick values)
pace_of (Upset address) = None
pace_of Scrub = None
pace_of Image = None

-- the asks and the ticks among the events of a script's lines, in their order
abbrev pub asks_and_ticks : List EventValue → List PaceValue
asks_and_ticks read = filter_map pace_of read

-- an event names parameters among so many, each once, or has a value for each of so many regular inputs
abbrev pub Fits : ℕ → ℕ → PaceValue → Type 0
Fits params width (Ask assigns) = AreAssigned params assigns
Fits params width (Tick values) = length values ≡ width
