-- Events with plain lists in the vectors' places.
use Rattle.std.specs.Prelude.{ℕ, Bool, List, map, [], ◌∷◌, Option, Some, None}
use Rattle.tl_io.specs.declared.Assign.{Assign}
use Rattle.run_text.specs.declared.event.Event.{Event}
use Rattle.run_text.specs.declared.event.Event.TheVariants as event

pub data EventValue : Type 0 where
  Set : List Assign → EventValue
  Cycle : List Bool → EventValue
  Upset : ℕ → EventValue
  Scrub : EventValue
  Image : EventValue

abbrev pub event_value : Event → EventValue
event_value (event.Set assigns) = Set assigns.items
event_value (event.Cycle values) = Cycle values.items
event_value (event.Upset address) = Upset address
event_value event.Scrub = Scrub
event_value event.Image = Image

abbrev pub event_values : List Event → List EventValue
event_values events = map event_value events

-- The values of all elements of a list, where each of them has one.
abbrev pub in_front : {B : Type 0} → Option B → Option (List B) → Option (List B)
in_front None rest = None
in_front (Some y) None = None
in_front (Some y) (Some ys) = Some (y ∷ ys)

abbrev pub each_of : {A B : Type 0} → (A → Option B) → List A → Option (List B)
each_of f [] = Some []
each_of f (x ∷ xs) = in_front (f x) (each_of f xs)
