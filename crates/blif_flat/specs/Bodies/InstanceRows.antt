-- The instances in flat order: an instance, then the instances of its `.subckt` lines in line order.
pub use Rattle.netlist.specs.Weight.{IsLight}
use Rattle.std.specs.Prelude.{ℕ, Bool, List, [], ◌∷◌, ◌++◌, Option, Some, None, ◌≡◌, suc, ◌<◌, ◌≤◌, length, slice_get, ◌+◌, if◌then◌else◌}
use Rattle.std.specs.Option.{option_and_then}
use Rattle.blif_flat.specs.Circuits.{place_of, Body, SubcktValue, ModelValue, LibraryValue, Path, model_at, Place, own_of, InFlatOrder, InFlatOrderUnder, Cover, Latch, Subckt, Command, CoverValue, body_at, cover_in, is_cover, is_latch, most_weight, Gate, Instance}
use Rattle.blif_flat.specs.ClockFaults.{is_gate}
use Rattle.blif_flat.specs.declared.circuit.instances.GateKind.{GateKind}
use Rattle.blif_flat.specs.declared.circuit.instances.GateKind.TheVariants.{Cover, Latch, Either}

abbrev pub itself : Path → ModelValue → List Path
itself path m = path ∷ []

abbrev pub InstanceOrder : LibraryValue → Path → ModelValue → List Path → Type 0
InstanceOrder library = InFlatOrder library itself

abbrev pub InstancesUnder : LibraryValue → Path → ℕ → List SubcktValue → List Path → Type 0
InstancesUnder library = InFlatOrderUnder library itself

-- the places of a kind at an instance, and at several in turn
abbrev pub model_places : (Body → Bool) → Path → Option ModelValue → List Place
model_places kind path None = []
model_places kind path (Some m) = own_of kind path m

abbrev pub places_at : LibraryValue → (Body → Bool) → List Path → List Place
places_at library kind [] = []
places_at library kind (path ∷ paths) = model_places kind path (model_at library path) ++ places_at library kind paths

-- The instances of a library as rows in flat order, and how they are found: each row names the earlier row of the instance that it stands in.

-- the path of a row: its ordinal before the path of the instance that it stands in
abbrev pub path_under : ℕ → Option Path → Path
path_under ordinal None = []
path_under ordinal (Some outer) = ordinal ∷ outer

abbrev pub path_of : List Path → Instance → Path
path_of paths row = path_under row.ordinal (option_and_then (slice_get paths) row.parent)

-- paths, and then those of rows
abbrev pub paths_from : List Path → List Instance → List Path
paths_from paths [] = paths
paths_from paths (row ∷ instances) = paths_from (paths ++ path_of paths row ∷ []) instances

abbrev pub paths_of : List Instance → List Path
paths_of instances = paths_from [] instances

-- a row is an instance: it stands in an earlier one, and its number is that of its model
pub record IsRow (library : LibraryValue) (paths : List Path) (i : ℕ) (row : Instance) : Type 0 where
  pub path : Path
  pub at : slice_get paths i ≡ Some path
  pub is : path ≡ path_of paths row
  pub earlier : (p : ℕ) → row.parent ≡ Some p → p < i
  pub model : ModelValue
  pub number : slice_get library.models row.model ≡ Some model
  pub there : model_at library path ≡ Some model

-- the instances of all instances, in flat order
pub record AreInstances (library : LibraryValue) (instances : List Instance) : Type 0 where
  pub main : ModelValue
  pub first : model_at library [] ≡ Some main
  pub order : InstanceOrder library [] main (paths_of instances)
  pub each : (i : ℕ) (row : Instance) → slice_get instances i ≡ Some row → IsRow library (paths_of instances) i row
  pub few : length instances ≤ most_weight

-- the row of a subcircuit of this ordinal, and those of a model's subcircuits in line order
abbrev pub number_or_zero : Option ℕ → ℕ
number_or_zero None = 0
number_or_zero (Some number) = number

abbrev pub entry_of : List (List ℕ) → ℕ → ℕ → SubcktValue → Instance
entry_of names parent ordinal s = record { model = number_or_zero (place_of names s.model); parent = Some parent; ordinal = ordinal }

abbrev pub with_entry : List (List ℕ) → ℕ → List Instance → Body → List Instance
with_entry names parent entries (Cover c) = entries
with_entry names parent entries (Latch l) = entries
with_entry names parent entries (Subckt s) = entries ++ entry_of names parent (length entries) s ∷ []

abbrev pub entries_from : List (List ℕ) → ℕ → List Instance → List Command → List Instance
entries_from names parent entries [] = entries
entries_from names parent entries (c ∷ cs) = entries_from names parent (with_entry names parent entries c.body) cs

abbrev pub entries_at : List (List ℕ) → ℕ → ℕ → List SubcktValue → List Instance
entries_at names parent k [] = []
entries_at names parent k (s ∷ ss) = entry_of names parent k s ∷ entries_at names parent (suc k) ss

-- a row whose instance is still to be put after the paths
pub record IsWaiting (library : LibraryValue) (made : List Path) (row : Instance) (model : ModelValue) : Type 0 where
  pub earlier : (p : ℕ) → row.parent ≡ Some p → p < length made
  pub number : slice_get library.models row.model ≡ Some model
  pub there : model_at library (path_of made row) ≡ Some model

-- the instances that wait, the next one first, and the paths of all instances within them in flat order
pub data Waits (library : LibraryValue) (made : List Path) : List Instance → List Path → Type 0 where
  none : {pending : List Instance} {paths : List Path} → pending ≡ [] → paths ≡ [] → Waits library made pending paths
  more : {pending : List Instance} {paths : List Path} (row : Instance) (rest : List Instance) (model : ModelValue) (these others : List Path) → pending ≡ row ∷ rest → IsWaiting library made row model
      → InstanceOrder library (path_of made row) model these → Waits library made rest others → paths ≡ these ++ others → Waits library made pending paths

-- the instances so far, and those that wait
pub record Listed (library : LibraryValue) (instances pending : List Instance) : Type 0 where
  pub main : ModelValue
  pub first : model_at library [] ≡ Some main
  pub rest : List Path
  pub order : InstanceOrder library [] main (paths_of instances ++ rest)
  pub few : length (paths_of instances ++ rest) ≤ most_weight
  pub waits : Waits library (paths_of instances) pending rest
  pub each : (i : ℕ) (row : Instance) → slice_get instances i ≡ Some row → IsRow library (paths_of instances) i row

-- Rows that stand in earlier ones, each with its path; and the outputs of covers.
pub record AreUnder (instances : List Instance) : Type 0 where
  pub at : (i : ℕ) (row : Instance) → slice_get instances i ≡ Some row → slice_get (paths_of instances) i ≡ Some (path_of (paths_of instances) row)
  pub earlier : (i : ℕ) (row : Instance) (p : ℕ) → slice_get instances i ≡ Some row → row.parent ≡ Some p → p < i

-- the output of the cover of a model's command, and nothing where there is none
abbrev pub output_or : Option CoverValue → List ℕ
output_or None = []
output_or (Some c) = c.output

abbrev pub output_in : ℕ → Option ModelValue → List ℕ
output_in i None = []
output_in i (Some m) = output_or (option_and_then cover_in (body_at m i))

abbrev pub output_at : LibraryValue → ℕ → ℕ → List ℕ
output_at library model i = output_in i (slice_get library.models model)

-- Gates: covers and latches of the instances, each by the row of its instance and its place among the model's commands.

-- the commands of a kind
abbrev pub kind_test : GateKind → Body → Bool
kind_test Cover = is_cover
kind_test Latch = is_latch
kind_test Either = is_gate

-- a gate stands at a place
pub record IsGateAt (paths : List Path) (g : Gate) (p : Place) : Type 0 where
  pub row : slice_get paths g.row ≡ Some p.path
  pub command : g.command ≡ p.command

-- gates stand at these places in order
pub record AreGatesAt (paths : List Path) (gates : List Gate) (places : List Place) : Type 0 where
  pub count : length gates ≡ length places
  pub each : (k : ℕ) (g : Gate) (p : Place) → slice_get gates k ≡ Some g → slice_get places k ≡ Some p → IsGateAt paths g p

-- How gates are listed: row by row the commands of a kind, each after those before it.

-- gates and the next one, if the command is of the kind
abbrev pub with_gate : (Body → Bool) → ℕ → ℕ → List Gate → Body → List Gate
with_gate kind row place gates body = if kind body then gates ++ record { row = row; command = place } ∷ [] else gates

-- gates and those of the commands from a place on
abbrev pub with_commands : (Body → Bool) → ℕ → ℕ → List Gate → List Command → List Gate
with_commands kind row place gates [] = gates
with_commands kind row place gates (c ∷ cs) = with_commands kind row (place + 1) (with_gate kind row place gates c.body) cs

-- gates and those of a row's model
abbrev pub with_model : (Body → Bool) → ℕ → List Gate → Option ModelValue → List Gate
with_model kind row gates None = gates
with_model kind row gates (Some m) = with_commands kind row 0 gates m.commands

-- gates and those of the instances from a number on
abbrev pub with_rows : List ModelValue → (Body → Bool) → ℕ → List Gate → List Instance → List Gate
with_rows models kind row gates [] = gates
with_rows models kind row gates (r ∷ rs) = with_rows models kind (row + 1) (with_model kind row gates (slice_get models r.model)) rs

-- The bodies of commands, by the number of the model, by the place, and by the gate.

-- the body of a command of an optional model
abbrev pub body_in : ℕ → Option ModelValue → Option Body
body_in command model = option_and_then (λ (m : ModelValue). body_at m command) model

-- of the model of a number
abbrev pub numbered_body : LibraryValue → ℕ → ℕ → Option Body
numbered_body library model command = body_in command (slice_get library.models model)

-- of a place
abbrev pub place_body : LibraryValue → Place → Option Body
place_body library p = body_in p.command (model_at library p.path)

-- and of a gate, by its row
abbrev pub gate_body : LibraryValue → List Instance → Gate → Option Body
gate_body library instances g = option_and_then (λ (row : Instance). numbered_body library row.model g.command) (slice_get instances g.row)
