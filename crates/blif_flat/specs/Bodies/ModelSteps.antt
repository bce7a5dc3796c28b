-- What one step makes of the models: a line, a walk, the drivers, the weight; and what stands after all.
use Rattle.std.specs.Prelude.{◌≡◌, Option, Some, ℕ, ◌||◌, if◌then◌else◌, List, [], ◌∷◌, None, ◌++◌, map, unwrap_or, slice_get, Result, MatchResult, ◌+◌, min, take, get_or}
use Rattle.std.specs.Option.{option_or as or_later, option_to_list as control_names}
use Rattle.blif_flat.specs.Circuits.{Edge, Node, Stop, Pass, place_of, In, Connection, SubcktValue, ModelValue, has_name, Body, Cover, Latch, Subckt, Command, LibraryValue, model_named, subckts_of, IsDriven, FlatErr, inputs_of, most_weight, own_weight, Weighs, Ports}
use Rattle.tl_fault.specs.OrMemory.{OrMemory}
use Rattle.blif_flat.specs.DriverFaults.{model_fault}
use Rattle.blif_flat.specs.Faults.{IsConnected}
use Rattle.blif_flat.specs.Refusals.{refusal_of}
use Rattle.blif_flat.specs.Bodies.InstanceRows.{IsLight}
use Rattle.netlist.specs.Models.{model_names}
use Rattle.blif_flat.specs.Walk.{formal_fault, unknown_formal, SubcktLine, subckt_lines, line_fault}
pub use Rattle.tl_text.specs.NameSets.{with_name, with_names}

-- the ports of a model
abbrev pub ports_value : ModelValue → Ports
ports_value m = record { inputs = inputs_of m; outputs = m.outputs }

-- the model of this number is the one of this name
pub record IsModelOf (models : List ModelValue) (name : List ℕ) (number : ℕ) : Type 0 where
  pub model : ModelValue
  pub at : slice_get models number ≡ Some model
  pub named : model_named models name ≡ Some model

-- a number is found for a name exactly where there is a model of that name
abbrev pub Finds : List ModelValue → List ℕ → Option ℕ → Type 0
Finds models name (Some number) = IsModelOf models name number
Finds models name None = model_named models name ≡ None

-- The names that stand in a model: its ports, the names of its covers and latches, and the actuals of its connections.
abbrev pub body_names : Body → List (List ℕ)
body_names (Cover c) = c.inputs ++ c.output ∷ []
body_names (Latch l) = l.input ∷ l.output ∷ control_names l.control
body_names (Subckt s) = map (λ (pair : Connection). pair.actual) s.pairs

abbrev pub commands_names : List Command → List (List ℕ)
commands_names [] = []
commands_names (c ∷ cs) = body_names c.body ++ commands_names cs

abbrev pub all_names : ModelValue → List (List ℕ)
all_names m = m.inputs ++ (m.outputs ++ (m.clocks ++ commands_names m.commands))

-- The models of several numbers.
abbrev pub with_numbered : Option ModelValue → List ModelValue → List ModelValue
with_numbered None ms = ms
with_numbered (Some m) ms = m ∷ ms

abbrev pub models_at : List ModelValue → List ℕ → List ModelValue
models_at models [] = []
models_at models (n ∷ ns) = with_numbered (slice_get models n) (models_at models ns)

-- What an error of a stage tells.

-- it is this fault
abbrev pub IsTold : FlatErr → Option FlatErr → Type 0
IsTold e fault = OrMemory refusal_of (λ r. fault ≡ Some r) e

-- What the check of one line computes, by the names that are found by their hashes.

-- the first formal that is neither among the inputs nor among the outputs
abbrev pub foreign_formal : Ports → List Connection → Option (List ℕ)
foreign_formal ports [] = None
foreign_formal ports (pair ∷ pairs) = if has_name ports.inputs pair.formal || has_name ports.outputs pair.formal then foreign_formal ports pairs else Some pair.formal

-- the first name that isn't among others
abbrev pub open_among : List (List ℕ) → List (List ℕ) → Option (List ℕ)
open_among index [] = None
open_among index (name ∷ names) = if has_name index name then open_among index names else Some name

-- F3 and F4 of a line of a model that places a child
abbrev pub ports_fault : ModelValue → ℕ → SubcktValue → ModelValue → Option FlatErr
ports_fault m line subckt child = formal_fault m (record { line = line; subckt = subckt }) child (unknown_formal child subckt.pairs)

-- The models as a graph to walk: a `.subckt` line is an edge to the model that it places, or a stop where it has a fault whatever models are being walked.

-- the edge of a line: it has a fault, or its model has this number
abbrev pub edge_by : Option FlatErr → Option ℕ → Edge (Unit {0})
edge_by (Some fault) number = Stop tt
edge_by None None = Stop tt
edge_by None (Some n) = Node n

abbrev pub line_edge : List ModelValue → ModelValue → SubcktLine → Edge (Unit {0})
line_edge models m l = edge_by (line_fault (record { models = models }) [] m l) (place_of (model_names models) l.subckt.model)

-- other commands are passed over
abbrev pub body_edge : List ModelValue → ModelValue → ℕ → Body → Edge (Unit {0})
body_edge models m line (Cover c) = Pass
body_edge models m line (Latch l) = Pass
body_edge models m line (Subckt s) = line_edge models m (record { line = line; subckt = s })

abbrev pub commands_edges : List ModelValue → ModelValue → List Command → List (Edge (Unit {0}))
commands_edges models m commands = map (λ (c : Command). body_edge models m c.line c.body) commands

-- the edges of several models, and of the model of a number
abbrev pub edge_rows : List ModelValue → List ModelValue → List (List (Edge (Unit {0})))
edge_rows models ms = map (λ (m : ModelValue). commands_edges models m m.commands) ms

abbrev pub edges_at : List (List (Edge (Unit {0}))) → ℕ → List (Edge (Unit {0}))
edges_at rows n = unwrap_or (slice_get rows n) []

-- the names of several models
abbrev pub with_model_name : Option ModelValue → List (List ℕ) → List (List ℕ)
with_model_name None names = names
with_model_name (Some m) names = m.name ∷ names

abbrev pub names_at : List ModelValue → List ℕ → List (List ℕ)
names_at models [] = []
names_at models (n ∷ ns) = with_model_name (slice_get models n) (names_at models ns)

-- names, and that of one more model
abbrev pub with_name_of : List (List ℕ) → Option ModelValue → List (List ℕ)
with_name_of names None = names
with_name_of names (Some m) = names ++ m.name ∷ []

-- a line without a fault, and the number of the model that it places, where the models of a path are being walked
pub record IsPlacing (models : List ModelValue) (path : List ℕ) (m : ModelValue) (l : SubcktLine) (n : ℕ) : Type 0 where
  pub child : IsModelOf models l.subckt.model n
  pub clean : line_fault (record { models = models }) (names_at models path) m l ≡ None

-- the first fault of several lines, and of the lines of a path's last model
abbrev pub lines_fault : List ModelValue → List (List ℕ) → ModelValue → List SubcktLine → Option FlatErr
lines_fault models chain m [] = None
lines_fault models chain m (l ∷ lines) = or_later (line_fault (record { models = models }) chain m l) (lines_fault models chain m lines)

abbrev pub model_lines_fault : List ModelValue → List (List ℕ) → Option ModelValue → Option FlatErr
model_lines_fault models chain None = None
model_lines_fault models chain (Some m) = lines_fault models chain m (subckt_lines m.commands)

abbrev pub path_fault : List ModelValue → List ℕ → Option FlatErr
path_fault models [] = None
path_fault models (n ∷ path) = model_lines_fault models (names_at models (n ∷ path)) (slice_get models n)

-- What the steps of a search for faults of drivers tell.

-- a result tells a fault, exactly
abbrev pub Tells : Result (Unit {0}) FlatErr → Option FlatErr → Type 0
Tells result fault = MatchResult result (λ _. fault ≡ None) (λ e. IsTold e fault)

-- and without one these names are added
abbrev pub Adds : Result (Unit {0}) FlatErr → Option FlatErr → List (List ℕ) → List (List ℕ) → List (List ℕ) → Type 0
Adds result fault old new names = MatchResult result (λ _. (fault ≡ None) × (new ≡ old ++ names)) (λ e. IsTold e fault)

-- the ports are those of the model of this name
pub record ArePortsOf (models : List ModelValue) (name : List ℕ) (ports : Ports) : Type 0 where
  pub model : ModelValue
  pub named : model_named models name ≡ Some model
  pub are : ports ≡ ports_value model

-- names and ports are those of a library's models in order
pub record AreOf (library : LibraryValue) (names : List (List ℕ)) (ports : List Ports) : Type 0 where
  pub names_are : names ≡ model_names library.models
  pub ports_are : ports ≡ map ports_value library.models

-- the first fault of the drivers of the model of a number
abbrev pub fault_of : LibraryValue → Option ModelValue → Option FlatErr
fault_of library None = None
fault_of library (Some m) = model_fault library m

-- The weights that are kept of a library's models: each up to 2^22 + 1, which tells those above 2^22.
abbrev pub capped : ℕ → ℕ
capped n = min n (most_weight + 1)

-- what is kept of a model by its number, and nothing of one that isn't there
abbrev pub kept_at : List ℕ → Option ℕ → ℕ
kept_at weights None = 0
kept_at weights (Some number) = get_or weights number 0

abbrev pub body_kept : List (List ℕ) → List ℕ → Body → ℕ
body_kept names weights (Cover c) = 0
body_kept names weights (Latch l) = 0
body_kept names weights (Subckt s) = kept_at weights (place_of names s.model)

-- the sum of what is kept of the models that some commands place
abbrev pub commands_kept : List (List ℕ) → List ℕ → List Command → ℕ
commands_kept names weights [] = 0
commands_kept names weights (c ∷ cs) = body_kept names weights c.body + commands_kept names weights cs

abbrev pub model_kept : List (List ℕ) → List ℕ → ModelValue → ℕ
model_kept names weights m = capped (own_weight m + commands_kept names weights m.commands)

-- the model of a name has one of these numbers
pub record IsAmong (library : LibraryValue) (numbers : List ℕ) (name : List ℕ) : Type 0 where
  pub number : ℕ
  pub place : place_of (model_names library.models) name ≡ Some number
  pub among : In numbers number

-- a number is that of a model, and each model that it places has one of the numbers before
pub record IsBehind (library : LibraryValue) (before : List ℕ) (number : ℕ) : Type 0 where
  pub model : ModelValue
  pub at : slice_get library.models number ≡ Some model
  pub children : (s : SubcktValue) → In (subckts_of model.commands) s → IsAmong library before s.model

-- each model comes after those that it places
pub record AreChildrenFirst (library : LibraryValue) (order : List ℕ) : Type 0 where
  pub each : (i number : ℕ) → slice_get order i ≡ Some number → IsBehind library (take i order) number

-- a model has a weight, and what is kept by its number is the weight, capped; any weight of it is this one
pub record IsKeptWeight (library : LibraryValue) (weights : List ℕ) (number : ℕ) : Type 0 where
  pub model : ModelValue
  pub at : slice_get library.models number ≡ Some model
  pub weight : ℕ
  pub weighs : Weighs library model weight
  pub kept : slice_get weights number ≡ Some (capped weight)
  pub once : (w : ℕ) → Weighs library model w → w ≡ weight

-- a model has a weight of which something holds
pub record HasWeight (library : LibraryValue) (m : ModelValue) (P : ℕ → Type 0) : Type 0 where
  pub weight : ℕ
  pub weighs : Weighs library m weight
  pub is : P weight

-- The models of a library come past the walk, the weight and the drivers.
pub record IsChecked (library : LibraryValue) : Type 0 where
  pub connected : IsConnected library
  pub driven : IsDriven library
  pub light : IsLight library
