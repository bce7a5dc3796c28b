-- The refusals of clocks: the controls of the latches in flat order, then clock nets that are data.
use Rattle.std.specs.Prelude.{◌≡◌, ◌⊎◌, ℕ, Bool, true, false, List, [], ◌∷◌, ◌++◌, Option, Some, None}
use Rattle.blif_flat.specs.Circuits.{In, LatchAt, Path, Net, input_net, Drives, IsClock, Place, cover_at, latch_at, Body, Cover, Latch, Subckt, LatchValue, CoverValue, ModelValue, LibraryValue, FlatErr, SecondClock, ClockNotInput, ClockAsData}
use Rattle.blif_flat.specs.Written.{IsWritten}

-- F8 and F7, latch by latch in flat order, F8 first; `first` is the control net that was met
pub data Clocks (library : LibraryValue) : Option (List ℕ) → List Place → Option FlatErr → Type 0 where
  stop : {first : Option (List ℕ)} {places : List Place} {result : Option FlatErr} → places ≡ [] → result ≡ None → Clocks library first places result
  free : {first : Option (List ℕ)} {places : List Place} {result : Option FlatErr} (p : Place) (rest : List Place) (l : LatchValue) → places ≡ p ∷ rest → LatchAt library p.path p.command l → l.control ≡ None
      → Clocks library first rest result → Clocks library first places result
  no_input : {first : Option (List ℕ)} {places : List Place} {result : Option FlatErr} (p : Place) (rest : List Place) (l : LatchValue) (control : List ℕ) (net : Net) (text : List ℕ) → places ≡ p ∷ rest
      → LatchAt library p.path p.command l → l.control ≡ Some control → Drives library p.path control net → ((name : List ℕ) → ¬ (net ≡ input_net name)) → IsWritten library net text → result ≡ Some (ClockNotInput text)
      → Clocks library first places result
  second : {first : Option (List ℕ)} {places : List Place} {result : Option FlatErr} (p : Place) (rest : List Place) (l : LatchValue) (control name earlier : List ℕ) → places ≡ p ∷ rest
      → LatchAt library p.path p.command l → l.control ≡ Some control → Drives library p.path control (input_net name) → first ≡ Some earlier → ¬ (name ≡ earlier) → result ≡ Some (SecondClock earlier name)
      → Clocks library first places result
  same : {first : Option (List ℕ)} {places : List Place} {result : Option FlatErr} (p : Place) (rest : List Place) (l : LatchValue) (control name : List ℕ) → places ≡ p ∷ rest
      → LatchAt library p.path p.command l → l.control ≡ Some control → Drives library p.path control (input_net name) → (first ≡ None) ⊎ (first ≡ Some name) → Clocks library (Some name) rest result
      → Clocks library first places result

-- covers and latches alike
abbrev pub is_gate : Body → Bool
is_gate (Cover c) = true
is_gate (Latch l) = true
is_gate (Subckt s) = false

-- what a cover or a latch takes as data, left to right
abbrev pub data_inputs : Option CoverValue → Option LatchValue → List (List ℕ)
data_inputs (Some c) latch = c.inputs
data_inputs None (Some l) = l.input ∷ []
data_inputs None None = []

abbrev pub data_of : LibraryValue → Place → List (List ℕ)
data_of library p = data_inputs (cover_at library p) (latch_at library p)

-- F9: the first name of a list whose net is a clock
pub data ClockAmong (library : LibraryValue) (path : Path) : List (List ℕ) → Option FlatErr → Type 0 where
  none : {names : List (List ℕ)} {result : Option FlatErr} → ((name net : List ℕ) → In names name → Drives library path name (input_net net) → ¬ (IsClock library net)) → result ≡ None → ClockAmong library path names result
  first : {names : List (List ℕ)} {result : Option FlatErr} (before rest : List (List ℕ)) (name net : List ℕ) → names ≡ before ++ name ∷ rest → ClockAmong library path before None
      → Drives library path name (input_net net) → IsClock library net → result ≡ Some (ClockAsData net) → ClockAmong library path names result

-- of the covers and latches in flat order, and then of the main model's outputs
pub data ClockData (library : LibraryValue) (main : ModelValue) : List Place → Option FlatErr → Type 0 where
  outputs : {places : List Place} {result : Option FlatErr} → places ≡ [] → ClockAmong library [] main.outputs result → ClockData library main places result
  here : {places : List Place} {result : Option FlatErr} (p : Place) (rest : List Place) (fault : FlatErr) → places ≡ p ∷ rest → ClockAmong library p.path (data_of library p) (Some fault) → result ≡ Some fault
      → ClockData library main places result
  later : {places : List Place} {result : Option FlatErr} (p : Place) (rest : List Place) → places ≡ p ∷ rest → ClockAmong library p.path (data_of library p) None → ClockData library main rest result
      → ClockData library main places result
