-- The clock cycle of the source circuit, and its machine.
use Rattle.std.specs.Prelude.{◌≡◌, ℕ, Bool, false, if◌then◌else◌, List, [], ◌∷◌, length, map, Option, Some, None}
use Rattle.machine.specs.Machine.{MealyMachine}
use Rattle.netlist.specs.Circuits.{Path, model_at, Place, same_place, latch_at, is_latch, FlatOrder, LatchValue, ModelValue, LibraryValue}
use Rattle.netlist.specs.Cycle.{Fits}

-- the latches of a library in flat order
pub record AreLatches (library : LibraryValue) (main : ModelValue) (latches : List Place) : Type 0 where
  pub at : model_at library [] ≡ Some main
  pub order : FlatOrder library is_latch [] main latches

-- the state of a latch at the start, and the latches' in flat order
abbrev pub init_state : Option LatchValue → Bool
init_state None = false
init_state (Some l) = l.init

abbrev pub inits_of : LibraryValue → List Place → List Bool
inits_of library latches = map (λ (p : Place). init_state (latch_at library p)) latches

-- the state of a latch, from the latches' places and their states in flat order
abbrev pub state_of : List Place → List Bool → Path → ℕ → Bool
state_of [] states path i = false
state_of (p ∷ places) [] path i = false
state_of (p ∷ places) (b ∷ states) path i = if same_place (record { path = path; command = i }) p then b else state_of places states path i

-- its next state, from the values of its instance's names, and the latches' in flat order
abbrev pub next_state : (List ℕ → Bool) → Option LatchValue → Bool
next_state value None = false
next_state value (Some l) = value l.input

abbrev pub next_states : LibraryValue → (Path → List ℕ → Bool) → List Place → List Bool
next_states library value latches = map (λ (p : Place). next_state (value p.path) (latch_at library p)) latches

-- A clock cycle from the states s, one for each latch, under the main inputs' values x: some values of all names fit; those at the main outputs are the outputs,
-- and those at the latches' inputs are the next states.
pub record IsCycle (library : LibraryValue) (x : List ℕ → Bool) (s outputs next : List Bool) : Type 0 where
  pub main : ModelValue
  pub latches : List Place
  pub are_latches : AreLatches library main latches
  pub states : length s ≡ length latches
  pub value : Path → List ℕ → Bool
  pub fits : Fits library x (state_of latches s) value
  pub outputs_are : outputs ≡ map (value []) main.outputs
  pub next_are : next ≡ next_states library value latches

-- the latches' inits
pub record AreInits (library : LibraryValue) (states : List Bool) : Type 0 where
  pub main : ModelValue
  pub latches : List Place
  pub are_latches : AreLatches library main latches
  pub are : states ≡ inits_of library latches

-- The machine of a library: it takes values of the main inputs, by their names, and starts at the latches' inits.
abbrev pub library_machine : LibraryValue → MealyMachine (List ℕ → Bool) (List Bool) (List Bool)
library_machine library = record { IsStart = AreInits library; HasCycle = IsCycle library }
