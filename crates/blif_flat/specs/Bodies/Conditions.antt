-- What several contracts of bodies say: whose the gates are, and that something holds of each model, path, place or latch that is meant.
use Rattle.std.specs.Prelude.{◌≡◌, ℕ, List, [], Option, Some, map, reverse, slice_get}
use Rattle.blif_flat.specs.{FlatErr, Gate, Instance, LatchAt, LatchValue, LibraryValue, ModelValue, OrMemory, Ports, IsWellFormed, model_names, ports_value, Path, Place, WalksMain, is_cover, is_gate, is_latch, latch_net, model_at, refusal_of, refused, walked, SubcktLine, lines_fault, names_at, models_at, AreGatesAt, ClockData, IsGateAt, IsWritten, FlatCoverValue, FlatLatch, IsRegular, AreFlatCovers, AreFlatLatches, regular_places, paths_of, places_at}

-- the gates are the covers of these instances, or their latches
abbrev pub AreCoversOf : LibraryValue → List Instance → List Gate → Type 0
AreCoversOf library instances gates = AreGatesAt (paths_of instances) gates (places_at library is_cover (paths_of instances))

abbrev pub AreLatchesOf : LibraryValue → List Instance → List Gate → Type 0
AreLatchesOf library instances gates = AreGatesAt (paths_of instances) gates (places_at library is_latch (paths_of instances))

-- a well-formed library, with the names by which its models are found and their ports
pub record IsIndexed (library : LibraryValue) (index : List (List ℕ)) (all : List Ports) : Type 0 where
  pub formed : IsWellFormed library
  pub names : index ≡ model_names library.models
  pub ports : all ≡ map ports_value library.models

-- this holds of the main model
abbrev pub OfMain : LibraryValue → (ModelValue → Type 0) → Type 0
OfMain library Holds = (main : ModelValue) → model_at library [] ≡ Some main → Holds main

-- of the model of a number
abbrev pub OfModel : List ModelValue → ℕ → (ModelValue → Type 0) → Type 0
OfModel models n Holds = (model : ModelValue) → slice_get models n ≡ Some model → Holds model

-- of the path of a row
abbrev pub OfPath : List Instance → ℕ → (Path → Type 0) → Type 0
OfPath instances row Holds = (path : Path) → slice_get (paths_of instances) row ≡ Some path → Holds path

-- of the place of a gate
abbrev pub OfGate : List Instance → Gate → (Place → Type 0) → Type 0
OfGate instances gate Holds = (p : Place) → IsGateAt (paths_of instances) gate p → Holds p

-- and of the latch there
abbrev pub OfLatch : LibraryValue → List Instance → Gate → (Place → LatchValue → Type 0) → Type 0
OfLatch library instances gate Holds = (p : Place) (l : LatchValue) → IsGateAt (paths_of instances) gate p → LatchAt library p.path p.command l → Holds p l

-- a text names the net of the latch of this number
abbrev pub NamesLatch : LibraryValue → List Instance → ℕ → List ℕ → Type 0
NamesLatch library instances k text = (p : Place) → slice_get (places_at library is_latch (paths_of instances)) k ≡ Some p → IsWritten library (latch_net p.path p.command) text

-- the gates take no clock net as data, or this is told
abbrev pub TellsData : LibraryValue → List Instance → Option FlatErr → Type 0
TellsData library instances told = OfMain library (λ main. ClockData library main (places_at library is_gate (paths_of instances)) told)

-- flat covers, or flat latches, are those of these instances where the inputs have these regular numbers
abbrev pub AreRegularCovers : LibraryValue → List Instance → List ℕ → List FlatCoverValue → Type 0
AreRegularCovers library instances numbers flat = (r : IsRegular library numbers) → AreFlatCovers library (regular_places library r.main r.test (paths_of instances)) flat

abbrev pub AreRegularLatches : LibraryValue → List Instance → List ℕ → List FlatLatch → Type 0
AreRegularLatches library instances numbers flat = (r : IsRegular library numbers) → AreFlatLatches library (regular_places library r.main r.test (paths_of instances)) flat

-- the first fault of lines of a model, which a walk's path leads to
abbrev pub walk_fault : List ModelValue → List ℕ → ModelValue → List SubcktLine → Option FlatErr
walk_fault models path model lines = lines_fault models (names_at models path) model lines

-- the models that a walk from the main model began are these, or it is refused
abbrev pub WalksTo : LibraryValue → List ℕ → Type 0
WalksTo library begun = OfModel library.models 0 (λ main. WalksMain library main (walked (models_at library.models (reverse begun))))

abbrev pub WalkTells : LibraryValue → FlatErr → Type 0
WalkTells library e = OfModel library.models 0 (λ main. OrMemory refusal_of (λ r. WalksMain library main (refused r)) e)
