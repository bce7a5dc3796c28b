-- The run of a circuit, by its lines alone: the values of its variables that fit those of its inputs and latches, its clock cycles, and its machine.
use Rattle.std.specs.Prelude.{◌≡◌, ℕ, ◌+◌, ◌/◌, ◌%◌, Bool, false, not, ◌&&◌, if◌then◌else◌, ◌==◌, List, [], ◌∷◌, length, map, Some, slice_get}
use Rattle.std.specs.List.{flat_map}
use Rattle.list_laws.specs.Members.{In}
use Rattle.machine.specs.Machine.{MealyMachine, Agrees, reading}
use Rattle.netlist.specs.LibraryValue.{LibraryValue}
use Rattle.netlist.specs.Runs.{library_machine}
use Rattle.aiger_io.specs.Circuit.{Circuit}
use Rattle.aiger_io.specs.declared.item.Item.{Item}
use Rattle.aiger_io.specs.declared.item.Item.TheVariants.{Input, Latch, Output, And}

-- a literal is its variable's value, or the complement of it
abbrev pub literal_value : (ℕ → Bool) → ℕ → Bool
literal_value value l = if l % 2 == 1 then not (value (l / 2)) else value (l / 2)

-- Values of variables fit values x of the inputs and s of the latches, by their ordinals: variable 0 is 0, inputs and latches have their values, and
-- at each AND gate its variable is the product of its two literals.
pub record FitsLines (c : Circuit) (x s : List Bool) (value : ℕ → Bool) : Type 0 where
  pub zero_is : value 0 ≡ false
  pub inputs : (k own : ℕ) → slice_get c.items k ≡ Some (Input own) → slice_get x k ≡ Some (value (own / 2))
  pub latches : (k own next : ℕ) (init : Bool) → slice_get c.items (c.header.inputs + k) ≡ Some (Latch own next init) → slice_get s k ≡ Some (value (own / 2))
  pub ands : (own left right : ℕ) → In c.items (And own left right) → value (own / 2) ≡ literal_value value left && literal_value value right

-- what the lines define: variable 0, and those of inputs, latches and AND gates
pub data IsDefined (c : Circuit) (v : ℕ) : Type 0 where
  zero_variable : v ≡ 0 → IsDefined c v
  input : (own : ℕ) → In c.items (Input own) → v ≡ own / 2 → IsDefined c v
  latch : (own next : ℕ) (init : Bool) → In c.items (Latch own next init) → v ≡ own / 2 → IsDefined c v
  gate : (own left right : ℕ) → In c.items (And own left right) → v ≡ own / 2 → IsDefined c v

-- for all values of inputs and latches there are values that fit, and any two agree on what the lines define
pub record HasOneFit (c : Circuit) : Type 0 where
  pub exists : (x s : List Bool) → length x ≡ c.header.inputs → length s ≡ c.header.latches → (value : ℕ → Bool) × FitsLines c x s value
  pub agree : (x s : List Bool) (value other : ℕ → Bool) → FitsLines c x s value → FitsLines c x s other → (v : ℕ) → IsDefined c v → value v ≡ other v

-- the literals of outputs and of next states, and the states at the start, in the order of the lines
abbrev pub output_literal : Item → List ℕ
output_literal (Input own) = []
output_literal (Latch own next init) = []
output_literal (Output l) = l ∷ []
output_literal (And own left right) = []

abbrev pub next_literal : Item → List ℕ
next_literal (Input own) = []
next_literal (Latch own next init) = next ∷ []
next_literal (Output l) = []
next_literal (And own left right) = []

abbrev pub init_bit : Item → List Bool
init_bit (Input own) = []
init_bit (Latch own next init) = init ∷ []
init_bit (Output l) = []
init_bit (And own left right) = []

abbrev pub output_literals : List Item → List ℕ
output_literals items = flat_map output_literal items

abbrev pub next_literals : List Item → List ℕ
next_literals items = flat_map next_literal items

abbrev pub init_bits : List Item → List Bool
init_bits items = flat_map init_bit items

-- A clock cycle under the inputs' values x from the states s: under some values that fit, the outputs and the next states are the values of their literals.
pub record IsCircuitCycle (c : Circuit) (x s outputs next : List Bool) : Type 0 where
  pub inputs : length x ≡ c.header.inputs
  pub states : length s ≡ c.header.latches
  pub value : ℕ → Bool
  pub fits : FitsLines c x s value
  pub outputs_are : outputs ≡ map (literal_value value) (output_literals c.items)
  pub next_are : next ≡ map (literal_value value) (next_literals c.items)

-- The machine of a circuit: it takes values of the inputs in their order, and starts at the latches' inits.
abbrev pub circuit_machine : Circuit → MealyMachine (List Bool) (List Bool) (List Bool)
circuit_machine c = record { IsStart = λ s. s ≡ init_bits c.items; HasCycle = IsCircuitCycle c }

-- the library's machine is the circuit's, whose inputs have their values by their names
abbrev pub HasSameRuns : Circuit → LibraryValue → Type 0
HasSameRuns c library = Agrees (reading (λ (x : List ℕ → Bool). map x c.inputs) (circuit_machine c)) (library_machine library)
