-- The nets as they are kept: each instance has slots for the names of its model, from its first one on.
use Rattle.std.specs.Prelude.{◌≡◌, ℕ, ◌+◌, ◌<◌, ◌≤◌, Bool, if◌then◌else◌, List, [], ◌∷◌, length, Option, Some, None, slice_get, slice_set, ◌==◌, ◌&&◌, bytes_eq, take, IsTrue, zero, suc, map}
use Rattle.std.specs.Option.{option_map, option_and_then}
use Rattle.blif_flat.specs.Circuits.{place_of, In, Connection, Body, Command, LatchValue, CoverValue, ModelValue, LibraryValue, Path, model_at, is_input, is_output, inputs_of, CoverAt, LatchAt, ConnectionAt, Net, Drives, is_cover, is_latch, Cover, Latch, Subckt, SubcktValue, subckts_of, FlatNet, Places, IsNetOf, most_weight, InputNumber, LatchNumber, CoverNumber, Gate, Instance, Ports}
use Rattle.blif_flat.specs.Bodies.InstanceRows.{places_at, paths_of, gate_body}
use Rattle.blif_flat.specs.Bodies.ModelSteps.{all_names, with_names, ports_value}
use Rattle.blif_flat.specs.declared.circuit.nets.Start.{Start}

-- the names of the models, the model and the first slot of each instance, and the slots
pub record NetsValue : Type 0 where
  pub names : List (List (List ℕ))
  pub starts : List Start
  pub slots : List (Option FlatNet)

abbrev pub name_place : List (List (List ℕ)) → Start → List ℕ → Option ℕ
name_place names s name = option_map (λ (p : ℕ). s.first + p) (option_and_then (λ (ns : List (List ℕ)). place_of ns name) (slice_get names s.model))

-- the slot of a name of an instance
abbrev pub slot_number : NetsValue → ℕ → List ℕ → Option ℕ
slot_number n i name = option_and_then (λ (s : Start). name_place n.names s name) (slice_get n.starts i)

abbrev pub slot_at : List (Option FlatNet) → Option ℕ → Option FlatNet
slot_at slots number = option_and_then (λ (k : ℕ). option_and_then (λ (o : Option FlatNet). o) (slice_get slots k)) number

-- the table of the nets
abbrev pub table_of : NetsValue → ℕ → List ℕ → Option FlatNet
table_of n i name = slot_at n.slots (slot_number n i name)

-- one more slot is filled
abbrev pub with_slot : NetsValue → ℕ → FlatNet → NetsValue
with_slot n k number = record { names = n.names; starts = n.starts; slots = slice_set n.slots k (Some number) }

-- each name of each instance has its own slot, of at most 2^22
pub record IsNets (n : NetsValue) : Type 0 where
  pub few : length n.slots ≤ most_weight
  pub within : (i : ℕ) (name : List ℕ) (k : ℕ) → slot_number n i name ≡ Some k → k < length n.slots
  pub apart : (i j : ℕ) (name other : List ℕ) (k : ℕ) → slot_number n i name ≡ Some k → slot_number n j other ≡ Some k → (i ≡ j) × (name ≡ other)

-- a number is put in where the name has a slot
abbrev pub with_found : NetsValue → Option ℕ → FlatNet → NetsValue
with_found n None number = n
with_found n (Some k) number = with_slot n k number

-- a net is copied to a name of an instance
abbrev pub copied : NetsValue → ℕ → List ℕ → Option FlatNet → NetsValue
copied n i name None = n
copied n i name (Some number) = with_found n (slot_number n i name) number

-- the net of one name of a pair is copied to its other name, at another instance, where the formal passes a test; and so pair by pair
abbrev pub pair_copied : (List ℕ → Bool) → (Connection → List ℕ) → (Connection → List ℕ) → ℕ → ℕ → NetsValue → Connection → NetsValue
pair_copied test source target from to n pair = if test pair.formal then copied n to (target pair) (table_of n from (source pair)) else n

abbrev pub pairs_copied : (List ℕ → Bool) → (Connection → List ℕ) → (Connection → List ℕ) → ℕ → ℕ → NetsValue → List Connection → NetsValue
pairs_copied test source target from to n [] = n
pairs_copied test source target from to n (pair ∷ pairs) = pairs_copied test source target from to (pair_copied test source target from to n pair) pairs

abbrev pub formal_of : Connection → List ℕ
formal_of pair = pair.formal

abbrev pub actual_of : Connection → List ℕ
actual_of pair = pair.actual

-- the nets of formals are copied outside, and those of actuals inside
abbrev pub pair_out : (List ℕ → Bool) → ℕ → ℕ → NetsValue → Connection → NetsValue
pair_out test inner outer n pair = pair_copied test formal_of actual_of inner outer n pair

abbrev pub pairs_out : (List ℕ → Bool) → ℕ → ℕ → NetsValue → List Connection → NetsValue
pairs_out test inner outer n pairs = pairs_copied test formal_of actual_of inner outer n pairs

abbrev pub pair_in : (List ℕ → Bool) → ℕ → ℕ → NetsValue → Connection → NetsValue
pair_in test inner outer n pair = pair_copied test actual_of formal_of outer inner n pair

abbrev pub pairs_in : (List ℕ → Bool) → ℕ → ℕ → NetsValue → List Connection → NetsValue
pairs_in test inner outer n pairs = pairs_copied test actual_of formal_of outer inner n pairs

-- A table of nets: for each instance by its place, and for each name, the number of the net that drives it.

-- the drivers of all nets: all inputs of the main model, and the latches and covers of the instances in turn
abbrev pub net_places : LibraryValue → ModelValue → List Path → Places
net_places library main paths = record { inputs = inputs_of main; latches = places_at library is_latch paths; covers = places_at library is_cover paths }

-- what a table says of a name: the number of its net, or that nothing drives it
abbrev pub IsNetFound : LibraryValue → Places → Path → List ℕ → Option FlatNet → Type 0
IsNetFound library at path name None = (net : Net) → ¬ (Drives library path name net)
IsNetFound library at path name (Some number) = IsNetOf library at path name number

pub record AreNetsAt (library : LibraryValue) (at : Places) (paths : List Path) (table : ℕ → List ℕ → Option FlatNet) : Type 0 where
  pub each : (i : ℕ) (path : Path) (name : List ℕ) → slice_get paths i ≡ Some path → IsNetFound library at path name (table i name)

-- A table that is being filled: what stands in it is right,
pub record IsSoundTable (library : LibraryValue) (at : Places) (paths : List Path) (table : ℕ → List ℕ → Option FlatNet) : Type 0 where
  pub each : (i : ℕ) (path : Path) (name : List ℕ) (number : FlatNet) → slice_get paths i ≡ Some path → table i name ≡ Some number → IsNetOf library at path name number

-- the outputs of the latches and covers of all instances stand in it,
pub record HasOwn (library : LibraryValue) (paths : List Path) (table : ℕ → List ℕ → Option FlatNet) : Type 0 where
  pub latch : (i : ℕ) (path : Path) (c : ℕ) (l : LatchValue) → slice_get paths i ≡ Some path → LatchAt library path c l → ¬ (table i l.output ≡ None)
  pub cover : (i : ℕ) (path : Path) (c : ℕ) (r : CoverValue) → slice_get paths i ≡ Some path → CoverAt library path c r → ¬ (table i r.output ≡ None)

-- the actuals of the output connections to the instances from place t on,
pub record HasOutputs (library : LibraryValue) (paths : List Path) (table : ℕ → List ℕ → Option FlatNet) (t : ℕ) : Type 0 where
  pub each : (i j : ℕ) (path : Path) (k : ℕ) (pair : Connection) (at : ConnectionAt library path k pair) → IsTrue (is_output at.child pair.formal) → slice_get paths i ≡ Some path → slice_get paths j ≡ Some (k ∷ path) → t ≤ j
      → ¬ (table i pair.actual ≡ None)

-- and the inputs of the instances before place t
pub record HasInputs (library : LibraryValue) (paths : List Path) (table : ℕ → List ℕ → Option FlatNet) (t : ℕ) : Type 0 where
  pub each : (i : ℕ) (path : Path) (m : ModelValue) (name : List ℕ) → i < t → slice_get paths i ≡ Some path → model_at library path ≡ Some m → IsTrue (is_input m name) → ¬ (table i name ≡ None)

-- how many commands are of a kind
abbrev pub kind_count : (Body → Bool) → List Command → ℕ
kind_count kind [] = 0
kind_count kind (c ∷ cs) = (if kind c.body then 1 else 0) + kind_count kind cs

-- the number of the first latch or cover of an instance, and that of one that is command c of its model
abbrev pub base_of : LibraryValue → (Body → Bool) → List Path → ℕ → ℕ
base_of library kind paths i = length (places_at library kind (take i paths))

abbrev pub own_number : LibraryValue → (Body → Bool) → List Path → ℕ → ModelValue → ℕ → ℕ
own_number library kind paths i m c = base_of library kind paths i + kind_count kind (take c m.commands)

-- what stands in a table stands in the next one too
pub record IsKeptIn (table next : ℕ → List ℕ → Option FlatNet) : Type 0 where
  pub each : (i : ℕ) (name : List ℕ) → ¬ (table i name ≡ None) → ¬ (next i name ≡ None)

-- a table with one more number
abbrev pub with_net : (ℕ → List ℕ → Option FlatNet) → ℕ → List ℕ → FlatNet → ℕ → List ℕ → Option FlatNet
with_net table i name number j other = if (j == i) && bytes_eq other name then Some number else table j other

-- The nets of the instances before any is known, and when all are.

-- each name of each instance has a slot
pub record HasSlots (library : LibraryValue) (paths : List Path) (n : NetsValue) : Type 0 where
  pub each : (i : ℕ) (path : Path) (m : ModelValue) (name : List ℕ) → slice_get paths i ≡ Some path → model_at library path ≡ Some m → In (all_names m) name → ¬ (slot_number n i name ≡ None)

-- and no net is known
pub record AreEmptyNets (library : LibraryValue) (paths : List Path) (n : NetsValue) : Type 0 where
  pub nets : IsNets n
  pub slots : HasSlots library paths n
  pub empty : (i : ℕ) (name : List ℕ) → table_of n i name ≡ None

-- the next nets are right, have the same slots, and lose nothing
pub record IsNext (library : LibraryValue) (at : Places) (paths : List Path) (n next : NetsValue) : Type 0 where
  pub nets : IsNets next
  pub sound : IsSoundTable library at paths (table_of next)
  pub kept : IsKeptIn (table_of n) (table_of next)
  pub slots : (j : ℕ) (other : List ℕ) → slot_number next j other ≡ slot_number n j other

-- the net of each name of each instance is known
pub record AreAllNets (library : LibraryValue) (instances : List Instance) (n : NetsValue) : Type 0 where
  pub nets : IsNets n
  pub table : (main : ModelValue) → model_at library [] ≡ Some main → AreNetsAt library (net_places library main (paths_of instances)) (paths_of instances) (table_of n)

-- Where the slots of each instance start: after those of the instances before it.

-- all names of a model, each once
abbrev pub distinct_names : ModelValue → List (List ℕ)
distinct_names m = with_names [] (all_names m)

-- how many names the model of a number has
abbrev pub count_in : Option (List (List ℕ)) → ℕ
count_in None = 0
count_in (Some names) = length names

abbrev pub name_count : List (List (List ℕ)) → ℕ → ℕ
name_count names model = count_in (slice_get names model)

-- the starts of rows, the first of which starts at this slot, and how many slots they have
abbrev pub starts_from : List (List (List ℕ)) → ℕ → List Instance → List Start
starts_from names first [] = []
starts_from names first (row ∷ instances) = record { model = row.model; first = first } ∷ starts_from names (first + name_count names row.model) instances

abbrev pub slot_count : List (List (List ℕ)) → List Instance → ℕ
slot_count names [] = 0
slot_count names (row ∷ instances) = name_count names row.model + slot_count names instances

-- The steps in which the nets of all instances become known: those of their own covers and latches, then outputs from the inside out, then inputs from the outside in.
abbrev pub output_of_cover : Body → Option (List ℕ)
output_of_cover (Cover c) = Some c.output
output_of_cover (Latch l) = None
output_of_cover (Subckt s) = None

abbrev pub output_of_latch : Body → Option (List ℕ)
output_of_latch (Cover c) = None
output_of_latch (Latch l) = Some l.output
output_of_latch (Subckt s) = None

-- a net is put in for a name of an instance
abbrev pub with_named : NetsValue → ℕ → Option (List ℕ) → FlatNet → NetsValue
with_named n i None number = n
with_named n i (Some name) number = with_found n (slot_number n i name) number

-- gates from a number on are put in at their outputs
abbrev pub with_gates : (Body → Option (List ℕ)) → (ℕ → FlatNet) → LibraryValue → List Instance → NetsValue → ℕ → List Gate → NetsValue
with_gates output number library instances n k [] = n
with_gates output number library instances n k (g ∷ gs) = with_gates output number library instances (with_named n g.row (option_and_then output (gate_body library instances g)) (number k)) (suc k) gs

abbrev pub with_covers : LibraryValue → List Instance → NetsValue → ℕ → List Gate → NetsValue
with_covers library instances n k gates = with_gates output_of_cover (λ j. CoverNumber j) library instances n k gates

abbrev pub with_latches : LibraryValue → List Instance → NetsValue → ℕ → List Gate → NetsValue
with_latches library instances n k gates = with_gates output_of_latch (λ j. LatchNumber j) library instances n k gates

-- names of the first instance are put in by their places among the inputs
abbrev pub with_place : NetsValue → List ℕ → Option ℕ → NetsValue
with_place n name None = n
with_place n name (Some j) = with_found n (slot_number n 0 name) (InputNumber j)

abbrev pub with_inputs : List (List ℕ) → NetsValue → List (List ℕ) → NetsValue
with_inputs inputs n [] = n
with_inputs inputs n (name ∷ names) = with_inputs inputs (with_place n name (place_of inputs name)) names

-- how an instance is connected: the place of the instance that it stands in, its model, and its connections
pub record Link : Type 0 where
  pub outer : ℕ
  pub child : ModelValue
  pub pairs : List Connection

-- the `.subckt` line of an ordinal of the model of a row
abbrev pub line_of : LibraryValue → List Instance → ℕ → ℕ → Option SubcktValue
line_of library instances p ordinal = option_and_then (λ (outer : Instance). option_and_then (λ (m : ModelValue). slice_get (subckts_of m.commands) ordinal) (slice_get library.models outer.model)) (slice_get instances p)

abbrev pub link_of : ℕ → Option SubcktValue → Option ModelValue → Option Link
link_of p None child = None
link_of p (Some s) None = None
link_of p (Some s) (Some child) = Some (record { outer = p; child = child; pairs = s.pairs })

abbrev pub link_under : LibraryValue → List Instance → Instance → Option ℕ → Option Link
link_under library instances row None = None
link_under library instances row (Some p) = link_of p (line_of library instances p row.ordinal) (slice_get library.models row.model)

abbrev pub link_at : LibraryValue → List Instance → ℕ → Option Link
link_at library instances j = option_and_then (λ (row : Instance). link_under library instances row row.parent) (slice_get instances j)

-- the nets of an instance's outputs go out, and those of its inputs in
abbrev pub linked_out : NetsValue → ℕ → Option Link → NetsValue
linked_out n j None = n
linked_out n j (Some link) = pairs_out (is_output link.child) j link.outer n link.pairs

abbrev pub linked_in : NetsValue → ℕ → Option Link → NetsValue
linked_in n j None = n
linked_in n j (Some link) = pairs_in (is_input link.child) j link.outer n link.pairs

-- out of the first rows, the last one of them first; and into them, the first one first
abbrev pub links_out : LibraryValue → List Instance → NetsValue → ℕ → NetsValue
links_out library instances n zero = n
links_out library instances n (suc j) = links_out library instances (linked_out n j (link_at library instances j)) j

abbrev pub links_in : LibraryValue → List Instance → NetsValue → ℕ → NetsValue
links_in library instances n zero = n
links_in library instances n (suc j) = linked_in (links_in library instances n j) j (link_at library instances j)

-- the line of an ordinal of the model of a row, where the lines of each model are given
abbrev pub line_under : List (List SubcktValue) → List Instance → ℕ → ℕ → Option SubcktValue
line_under lines instances p ordinal = option_and_then (λ (outer : Instance). option_and_then (λ (ls : List SubcktValue). slice_get ls ordinal) (slice_get lines outer.model)) (slice_get instances p)

-- the lines and the ports of a library's models
pub record AreLinesOf (library : LibraryValue) (lines : List (List SubcktValue)) (ports : List Ports) : Type 0 where
  pub lines_are : lines ≡ map (λ (m : ModelValue). subckts_of m.commands) library.models
  pub ports_are : ports ≡ map ports_value library.models

-- a connection that was found is that of a link
pub record IsLink (o : Option Link) (outer : ℕ) (ports : Ports) (pairs : List Connection) : Type 0 where
  pub link : Link
  pub is : o ≡ Some link
  pub outer_is : outer ≡ link.outer
  pub ports_are : ports ≡ ports_value link.child
  pub pairs_are : pairs ≡ link.pairs
