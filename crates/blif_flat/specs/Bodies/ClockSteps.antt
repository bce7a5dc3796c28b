-- The clock nets by the numbers of the main model's inputs.
use Rattle.std.specs.Prelude.{◌≡◌, ℕ, ◌||◌, ◌<◌, Bool, false, List, length, map, Option, Some, None, slice_get, bytes_eq, ◌⊎◌, true, [], ◌∷◌}
use Rattle.std.specs.Option.{option_and_then, option_or as or_later}
use Rattle.blif_flat.specs.Circuits.{In, ModelValue, LibraryValue, Path, has_name, inputs_of, is_latch, LatchValue, LatchAt, Net, input_net, Drives, Place, FlatNet, FlatErr, SecondClock, ClockNotInput, ClockAsData, IsControl, TellsClocks, Input}
use Rattle.blif_flat.specs.ClockFaults.{Clocks}
use Rattle.blif_flat.specs.Bodies.InstanceRows.{places_at}
use Rattle.blif_flat.specs.Bodies.NetTable.{NetsValue, table_of}
use Rattle.blif_flat.specs.Written.{IsWritten}
use Rattle.netlist.specs.declared.flat.FlatNet.TheVariants.{Latch, Cover}

-- the name of an input's number
abbrev pub input_name : ModelValue → Option ℕ → Option (List ℕ)
input_name main number = option_and_then (slice_get (inputs_of main)) number

-- the controls come past F8 and F7, and their net is that of this input, or of none
pub record IsControlled (library : LibraryValue) (main : ModelValue) (paths : List Path) (control : Option ℕ) : Type 0 where
  pub clean : Clocks library None (places_at library is_latch paths) None
  pub is : IsControl library (input_name main control)
  pub within : (j : ℕ) → control ≡ Some j → j < length (inputs_of main)

-- a clock net is a name of `.clock`, or the control net
abbrev pub is_control : Option (List ℕ) → List ℕ → Bool
is_control None name = false
is_control (Some control) name = bytes_eq name control

abbrev pub clock_test : ModelValue → Option (List ℕ) → List ℕ → Bool
clock_test main control name = has_name main.clocks name || is_control control name

-- a mark for each input of the main model: is it a clock net?
pub record AreClockMarks (library : LibraryValue) (main : ModelValue) (marks : List Bool) : Type 0 where
  pub test : List ℕ → Bool
  pub tells : TellsClocks library test
  pub marks_are : marks ≡ map test (inputs_of main)

-- The walk over the controls of the latches, latch by latch; `first` is the control net that was met before, and `next` the one after.

-- the name of an input's number
abbrev pub input_at : List (List ℕ) → Option ℕ → Option (List ℕ)
input_at inputs number = option_and_then (slice_get inputs) number

-- an input is the first one that is met, or the one that was met before
pub record IsKeptInput (inputs : List (List ℕ)) (first : Option ℕ) (number next : ℕ) : Type 0 where
  pub name : List ℕ
  pub at : slice_get inputs number ≡ Some name
  pub before : (input_at inputs first ≡ None) ⊎ (input_at inputs first ≡ Some name)
  pub after : slice_get inputs next ≡ Some name

-- or it is another one
pub record IsSecond (inputs : List (List ℕ)) (first : Option ℕ) (number : ℕ) (fault : FlatErr) : Type 0 where
  pub name : List ℕ
  pub at : slice_get inputs number ≡ Some name
  pub earlier : List ℕ
  pub before : input_at inputs first ≡ Some earlier
  pub differs : ¬ (name ≡ earlier)
  pub is : fault ≡ SecondClock earlier name

-- a control's net is a main input, the first one or the one that was met before
pub record IsMetInput (library : LibraryValue) (path : Path) (control : List ℕ) (first next : Option (List ℕ)) : Type 0 where
  pub name : List ℕ
  pub drives : Drives library path control (input_net name)
  pub before : (first ≡ None) ⊎ (first ≡ Some name)
  pub after : next ≡ Some name

-- or there is F8 or F7
pub data IsRefused (library : LibraryValue) (path : Path) (control : List ℕ) (first : Option (List ℕ)) (fault : FlatErr) : Type 0 where
  not_input : (net : Net) (text : List ℕ) → Drives library path control net → ((name : List ℕ) → ¬ (net ≡ input_net name)) → IsWritten library net text → fault ≡ ClockNotInput text → IsRefused library path control first fault
  another : (name earlier : List ℕ) → Drives library path control (input_net name) → first ≡ Some earlier → ¬ (name ≡ earlier) → fault ≡ SecondClock earlier name → IsRefused library path control first fault

-- a latch without a control is passed
abbrev pub ControlNext : LibraryValue → Path → Option (List ℕ) → Option (List ℕ) → Option (List ℕ) → Type 0
ControlNext library path None first next = next ≡ first
ControlNext library path (Some control) first next = IsMetInput library path control first next

abbrev pub ControlFault : LibraryValue → Path → Option (List ℕ) → Option (List ℕ) → FlatErr → Type 0
ControlFault library path None first fault = ⊥
ControlFault library path (Some control) first fault = IsRefused library path control first fault

-- no latch at these places has a control
pub record AreFree (library : LibraryValue) (places : List Place) : Type 0 where
  pub each : (p : Place) (l : LatchValue) → In places p → LatchAt library p.path p.command l → l.control ≡ None

-- the net of a latch's control
pub record IsControlNet (library : LibraryValue) (name : List ℕ) : Type 0 where
  pub path : Path
  pub command : ℕ
  pub latch : LatchValue
  pub at : LatchAt library path command latch
  pub control : List ℕ
  pub is : latch.control ≡ Some control
  pub drives : Drives library path control (input_net name)

-- what is known of the control net where the rest of the places is left
abbrev pub IsControlSoFar : LibraryValue → List Place → List Place → Option (List ℕ) → Type 0
IsControlSoFar library places rest None = AreFree library rest → AreFree library places
IsControlSoFar library places rest (Some name) = IsControlNet library name

pub record CameTo (library : LibraryValue) (places rest : List Place) (first : Option (List ℕ)) : Type 0 where
  pub clocks : (result : Option FlatErr) → Clocks library first rest result → Clocks library None places result
  pub control : IsControlSoFar library places rest first

-- The search for clock nets that are data, by the marks of the main model's inputs.

-- an input that is marked
abbrev pub marked_name : Option Bool → Option (List ℕ) → Option (List ℕ)
marked_name None input = None
marked_name (Some false) input = None
marked_name (Some true) input = input

-- the clock net that a number names
abbrev pub clock_named : List (List ℕ) → List Bool → Option FlatNet → Option (List ℕ)
clock_named inputs marks None = None
clock_named inputs marks (Some (Input j)) = marked_name (slice_get marks j) (slice_get inputs j)
clock_named inputs marks (Some (Latch j)) = None
clock_named inputs marks (Some (Cover j)) = None

-- F9 at a name, and the first one of a list of names of an instance
abbrev pub clock_fault : Option (List ℕ) → Option FlatErr
clock_fault None = None
clock_fault (Some clock) = Some (ClockAsData clock)

abbrev pub name_fault : List (List ℕ) → List Bool → NetsValue → ℕ → List ℕ → Option FlatErr
name_fault inputs marks nets row name = clock_fault (clock_named inputs marks (table_of nets row name))

abbrev pub names_fault : List (List ℕ) → List Bool → NetsValue → ℕ → List (List ℕ) → Option FlatErr
names_fault inputs marks nets row [] = None
names_fault inputs marks nets row (name ∷ names) = or_later (name_fault inputs marks nets row name) (names_fault inputs marks nets row names)
