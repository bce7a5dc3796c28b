-- What the fields of a flat circuit are, over the hierarchical names of its library.
use Rattle.std.specs.Prelude.{◌≡◌, ℕ, ◌+◌, ◌==◌, Bool, true, false, not, if◌then◌else◌, List, [], ◌∷◌, ◌++◌, filter, map, max, length, reverse, Option, Some, None, is_some, slice_get}
use Rattle.depth_first.specs.DepthFirst.{PostsAll}
use Rattle.netlist.specs.Circuits.{FlatCoverValue, FlatValue, CoverAt, LatchAt, Path, model_at, has_name, Net, input_net, latch_net, cover_net, Drives, IsClock, Place, is_cover, is_latch, FlatOrder, LatchValue, CoverValue, ModelValue, LibraryValue, FlatLatch, FlatNet, OutPort}
use Rattle.netlist.specs.declared.flat.FlatNet.TheVariants.{Input, Latch, Cover}

-- the drivers by whose places the nets are numbered
pub record Places : Type 0 where
  pub inputs : List (List ℕ)
  pub latches : List Place
  pub covers : List Place

-- a net has a number
pub data IsNumbered (at : Places) (net : Net) (number : FlatNet) : Type 0 where
  an_input : (name : List ℕ) (j : ℕ) → net ≡ input_net name → slice_get at.inputs j ≡ Some name → number ≡ Input j → IsNumbered at net number
  a_latch : (p : Place) (j : ℕ) → net ≡ latch_net p.path p.command → slice_get at.latches j ≡ Some p → number ≡ Latch j → IsNumbered at net number
  a_cover : (p : Place) (j : ℕ) → net ≡ cover_net p.path p.command → slice_get at.covers j ≡ Some p → number ≡ Cover j → IsNumbered at net number

-- the number of the net of a name of an instance
pub record IsNetOf (library : LibraryValue) (at : Places) (path : Path) (name : List ℕ) (number : FlatNet) : Type 0 where
  pub net : Net
  pub drives : Drives library path name net
  pub numbered : IsNumbered at net number

-- and of several names
pub data AreNetsOf (library : LibraryValue) (at : Places) (path : Path) : List (List ℕ) → List FlatNet → Type 0 where
  none : AreNetsOf library at path [] []
  more : (name : List ℕ) (names : List (List ℕ)) (number : FlatNet) (numbers : List FlatNet) → IsNetOf library at path name number → AreNetsOf library at path names numbers
      → AreNetsOf library at path (name ∷ names) (number ∷ numbers)

-- a test tells the clock nets among the main model's names
pub record TellsClocks (library : LibraryValue) (test : List ℕ → Bool) : Type 0 where
  pub yes : (name : List ℕ) → test name ≡ true → IsClock library name
  pub no : (name : List ℕ) → test name ≡ false → ¬ (IsClock library name)

-- the net of the latch controls: of some latch, or of none
pub data IsControl (library : LibraryValue) (control : Option (List ℕ)) : Type 0 where
  some_latch : (path : Path) (i : ℕ) (l : LatchValue) (own name : List ℕ) → LatchAt library path i l → l.control ≡ Some own → Drives library path own (input_net name) → control ≡ Some name → IsControl library control
  no_latch : ((path : Path) (i : ℕ) (l : LatchValue) → LatchAt library path i l → l.control ≡ None) → control ≡ None → IsControl library control

abbrev pub with_control_net : List (List ℕ) → Option (List ℕ) → List (List ℕ)
with_control_net clocks None = clocks
with_control_net clocks (Some name) = if has_name clocks name then clocks else clocks ++ name ∷ []

-- the covers among nets, and the roots: the outputs, then the latch inputs
abbrev pub cover_numbers : List FlatNet → List ℕ
cover_numbers [] = []
cover_numbers (Input j ∷ nets) = cover_numbers nets
cover_numbers (Latch j ∷ nets) = cover_numbers nets
cover_numbers (Cover j ∷ nets) = j ∷ cover_numbers nets

abbrev pub inputs_at : Option FlatCoverValue → List FlatNet
inputs_at None = []
inputs_at (Some c) = c.inputs

abbrev pub reads_at : FlatValue → ℕ → List ℕ
reads_at flat k = cover_numbers (inputs_at (slice_get flat.covers k))

abbrev pub flat_roots : FlatValue → List ℕ
flat_roots flat = cover_numbers (map (λ (o : OutPort). o.net) flat.outputs) ++ cover_numbers (map (λ (l : FlatLatch). l.input) flat.latches)

-- how many underscores (95) a name begins with, and the most among names
abbrev pub underscores : List ℕ → ℕ
underscores [] = 0
underscores (b ∷ bs) = if b == 95 then 1 + underscores bs else 0

abbrev pub most_underscores : List (List ℕ) → ℕ
most_underscores [] = 0
most_underscores (name ∷ names) = max (underscores name) (most_underscores names)

pub record IsFlatCover (library : LibraryValue) (at : Places) (p : Place) (flat : FlatCoverValue) : Type 0 where
  pub cover : CoverValue
  pub is : CoverAt library p.path p.command cover
  pub model : slice_get library.models flat.model ≡ model_at library p.path
  pub command : flat.command ≡ p.command
  pub inputs : AreNetsOf library at p.path cover.inputs flat.inputs

pub record IsFlatLatch (library : LibraryValue) (at : Places) (p : Place) (flat : FlatLatch) : Type 0 where
  pub latch : LatchValue
  pub is : LatchAt library p.path p.command latch
  pub input : IsNetOf library at p.path latch.input flat.input
  pub init : flat.init ≡ latch.init
  pub clocked : flat.clocked ≡ is_some latch.control

-- the fields
pub record IsFlat (library : LibraryValue) (flat : FlatValue) : Type 0 where
  pub main : ModelValue
  pub is_main : model_at library [] ≡ Some main
  pub model : flat.model ≡ main.name
  pub test : List ℕ → Bool
  pub tells : TellsClocks library test
  pub inputs : flat.inputs ≡ filter (λ name. not (test name)) main.inputs
  pub control : IsControl library flat.control
  pub clocks : flat.clocks ≡ with_control_net main.clocks flat.control
  pub at : Places
  pub places : at.inputs ≡ flat.inputs
  pub covers_order : FlatOrder library is_cover [] main at.covers
  pub latches_order : FlatOrder library is_latch [] main at.latches
  pub cover_count : length flat.covers ≡ length at.covers
  pub covers : (k : ℕ) (p : Place) (c : FlatCoverValue) → slice_get at.covers k ≡ Some p → slice_get flat.covers k ≡ Some c → IsFlatCover library at p c
  pub latch_count : length flat.latches ≡ length at.latches
  pub latches : (k : ℕ) (p : Place) (l : FlatLatch) → slice_get at.latches k ≡ Some p → slice_get flat.latches k ≡ Some l → IsFlatLatch library at p l
  pub output_names : map (λ (o : OutPort). o.name) flat.outputs ≡ main.outputs
  pub outputs : AreNetsOf library at [] main.outputs (map (λ (o : OutPort). o.net) flat.outputs)
  pub order : PostsAll (reads_at flat) [] (flat_roots flat) (reverse flat.order)
  pub under : flat.under ≡ most_underscores (main.inputs ++ (main.clocks ++ main.outputs))

abbrev pub latch_nets : List FlatLatch → List FlatNet
latch_nets latches = map (λ (l : FlatLatch). l.input) latches
