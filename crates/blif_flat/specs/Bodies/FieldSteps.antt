-- Nets are numbered anew by the main model's inputs without its clock nets.
use Rattle.std.specs.Prelude.{◌≡◌, ℕ, ◌+◌, Bool, not, if◌then◌else◌, List, [], ◌∷◌, filter, length, map, Some, slice_get, true, false, ◌++◌, Option, None, is_some, ◌<◌, Vec, reverse, ◌≤◌}
use Rattle.std.specs.List.{range_with_len}
use Rattle.std.specs.Option.{option_and_then}
use Rattle.blif_flat.specs.Circuits.{Edge, Node, Pass, In, ModelValue, LibraryValue, Path, model_at, inputs_of, Drives, input_net, IsClock, Place, is_cover, is_latch, Body, LatchValue, CoverValue, cover_in, latch_in, FlatOrder, cover_net, FlatCoverValue, FlatLatch, FlatNet, OutPort, Repeat, MeetsAll, Places, TellsClocks, IsFlatCover, IsFlatLatch, AreNetsOf, cover_numbers, inputs_at, most_weight, Input, Gate, Instance, latch_nets}
use Rattle.std.specs.Global.{Global}
use Rattle.depth_first.specs.DepthFirst.{PostsAll}
use Rattle.depth_first.specs.Edges.{ways_from}
use Rattle.depth_first.specs.Order.{IsSettled}
use Rattle.depth_first.specs.Walk.{WalkValue, from_node}
use Rattle.blif_flat.specs.ClockFaults.{is_gate, ClockData}
use Rattle.blif_flat.specs.LoopFault.{AreWritten}
use Rattle.netlist.specs.Sound.{IsData}
use Rattle.blif_flat.specs.Bodies.ClockSteps.{input_name, IsControlled, clock_test}
use Rattle.blif_flat.specs.Bodies.InstanceRows.{places_at, number_or_zero, gate_body, AreInstances, paths_of, AreGatesAt}
use Rattle.blif_flat.specs.Bodies.NetTable.{NetsValue, table_of, AreAllNets}
use Rattle.blif_flat.specs.Written.{IsWritten}
use Rattle.blif_flat.specs.declared.clock.clock_check.ClockNets.{ClockNets}
use Rattle.blif_flat.specs.declared.circuit.connect.Circuit.{Circuit}
use Rattle.blif_flat.specs.declared.field.loops.Found.{Found}
use Rattle.blif_flat.specs.declared.field.loops.Found.TheVariants.{Loop as found_loop, Order as found_order}
use Rattle.netlist.specs.declared.flat.FlatNet.TheVariants.{Latch, Cover}

-- the numbers of the inputs that aren't marked, counted on from n; a marked one has the number of the next one
abbrev pub regular_numbers : ℕ → List Bool → List ℕ
regular_numbers n [] = []
regular_numbers n (mark ∷ marks) = n ∷ regular_numbers (if mark then n else 1 + n) marks

abbrev pub renumbered : List ℕ → FlatNet → FlatNet
renumbered numbers (Input j) = Input (number_or_zero (slice_get numbers j))
renumbered numbers (Latch j) = Latch j
renumbered numbers (Cover j) = Cover j

-- the new numbers of the main model's inputs, where no clock net is data
pub record IsRegular (library : LibraryValue) (numbers : List ℕ) : Type 0 where
  pub main : ModelValue
  pub is_main : model_at library [] ≡ Some main
  pub test : List ℕ → Bool
  pub tells : TellsClocks library test
  pub numbers_are : numbers ≡ regular_numbers 0 (map test (inputs_of main))
  pub no_clock_data : (path : Path) (name net : List ℕ) → IsData library path name → Drives library path name (input_net net) → ¬ (IsClock library net)
  pub no_clock_output : (name net : List ℕ) → In main.outputs name → Drives library [] name (input_net net) → ¬ (IsClock library net)

-- the drivers by which a flat circuit numbers its nets
abbrev pub regular_places : LibraryValue → ModelValue → (List ℕ → Bool) → List Path → Places
regular_places library main test paths = record {
  inputs = filter (λ name. not (test name)) main.inputs;
  latches = places_at library is_latch paths;
  covers = places_at library is_cover paths;
}

-- the covers and the latches of a flat circuit, place by place
pub record AreFlatCovers (library : LibraryValue) (at : Places) (flat : List FlatCoverValue) : Type 0 where
  pub count : length flat ≡ length at.covers
  pub each : (k : ℕ) (p : Place) (c : FlatCoverValue) → slice_get at.covers k ≡ Some p → slice_get flat k ≡ Some c → IsFlatCover library at p c

pub record AreFlatLatches (library : LibraryValue) (at : Places) (flat : List FlatLatch) : Type 0 where
  pub count : length flat ≡ length at.latches
  pub each : (k : ℕ) (p : Place) (l : FlatLatch) → slice_get at.latches k ≡ Some p → slice_get flat k ≡ Some l → IsFlatLatch library at p l

-- and with the outputs of the main model all of its logic
pub record IsLogic (library : LibraryValue) (main : ModelValue) (at : Places) (covers : List FlatCoverValue) (latches : List FlatLatch) (outputs : List OutPort) : Type 0 where
  pub covers_are : AreFlatCovers library at covers
  pub latches_are : AreFlatLatches library at latches
  pub names : map (λ (o : OutPort). o.name) outputs ≡ main.outputs
  pub nets : AreNetsOf library at [] main.outputs (map (λ (o : OutPort). o.net) outputs)

-- The fields of a flat circuit, as they are computed from its gates, its nets and the ports of its main model.

-- the net of a name of an instance, by the numbers of the regular inputs; input 0 where nothing drives the name
abbrev pub renumbered_or : List ℕ → Option FlatNet → FlatNet
renumbered_or numbers None = Input 0
renumbered_or numbers (Some number) = renumbered numbers number

abbrev pub regular_net : List ℕ → NetsValue → ℕ → List ℕ → FlatNet
regular_net numbers n i name = renumbered_or numbers (table_of n i name)

abbrev pub regular_nets : List ℕ → NetsValue → ℕ → List (List ℕ) → List FlatNet
regular_nets numbers n i names = map (regular_net numbers n i) names

-- the number of a row's model
abbrev pub row_model : Option Instance → ℕ
row_model None = 0
row_model (Some row) = row.model

-- the flat cover of a gate
abbrev pub inputs_or : Option CoverValue → List (List ℕ)
inputs_or None = []
inputs_or (Some c) = c.inputs

abbrev pub cover_inputs : Option Body → List (List ℕ)
cover_inputs body = inputs_or (option_and_then cover_in body)

abbrev pub flat_cover : LibraryValue → List Instance → NetsValue → List ℕ → Gate → FlatCoverValue
flat_cover library instances n numbers g = record {
  model = row_model (slice_get instances g.row);
  command = g.command;
  inputs = regular_nets numbers n g.row (cover_inputs (gate_body library instances g));
}

-- the flat latch of a gate
abbrev pub made_latch : List ℕ → NetsValue → ℕ → LatchValue → FlatLatch
made_latch numbers n i l = record { input = regular_net numbers n i l.input; init = l.init; clocked = is_some l.control }

abbrev pub absent_latch : FlatLatch
absent_latch = record { input = Input 0; init = false; clocked = false }

abbrev pub latch_or : List ℕ → NetsValue → ℕ → Option LatchValue → FlatLatch
latch_or numbers n i None = absent_latch
latch_or numbers n i (Some l) = made_latch numbers n i l

abbrev pub flat_latch : LibraryValue → List Instance → NetsValue → List ℕ → Gate → FlatLatch
flat_latch library instances n numbers g = latch_or numbers n g.row (option_and_then latch_in (gate_body library instances g))

-- the output ports of the main model
abbrev pub out_port : List ℕ → NetsValue → List ℕ → OutPort
out_port numbers n name = record { name = name; net = regular_net numbers n 0 name }

abbrev pub outputs_or : Option ModelValue → List (List ℕ)
outputs_or None = []
outputs_or (Some m) = m.outputs

-- the names whose marks are off
abbrev pub with_unmarked : List (List ℕ) → Option Bool → List ℕ → List (List ℕ)
with_unmarked names None name = names
with_unmarked names (Some true) name = names
with_unmarked names (Some false) name = names ++ name ∷ []

abbrev pub unmarked_after : List (List ℕ) → List (List ℕ) → List Bool → List (List ℕ)
unmarked_after kept [] marks = kept
unmarked_after kept (name ∷ names) [] = kept
unmarked_after kept (name ∷ names) (mark ∷ marks) = unmarked_after (with_unmarked kept (Some mark) name) names marks

-- The fields of a flat circuit by which its covers are walked.
pub record AreWalked (library : LibraryValue) (main : ModelValue) (at : Places) (outputs : List FlatNet) (covers : List FlatCoverValue) (latches : List FlatLatch) : Type 0 where
  pub is_main : model_at library [] ≡ Some main
  pub covers_order : FlatOrder library is_cover [] main at.covers
  pub latches_order : FlatOrder library is_latch [] main at.latches
  pub cover_count : length covers ≡ length at.covers
  pub covers_are : (k : ℕ) (p : Place) (c : FlatCoverValue) → slice_get at.covers k ≡ Some p → slice_get covers k ≡ Some c → IsFlatCover library at p c
  pub latch_count : length latches ≡ length at.latches
  pub latches_are : (k : ℕ) (p : Place) (l : FlatLatch) → slice_get at.latches k ≡ Some p → slice_get latches k ≡ Some l → IsFlatLatch library at p l
  pub outputs_are : AreNetsOf library at [] main.outputs outputs

-- and whose covers are those of these instances
pub record AreCounted (library : LibraryValue) (paths : List Path) (outputs : List FlatNet) (covers : List FlatCoverValue) (latches : List FlatLatch) : Type 0 where
  pub main : ModelValue
  pub at : Places
  pub walked : AreWalked library main at outputs covers latches
  pub covers_at : at.covers ≡ places_at library is_cover paths

-- the roots of the walk by their numbers
abbrev pub root_numbers : List FlatNet → List FlatLatch → List ℕ
root_numbers outputs latches = cover_numbers outputs ++ cover_numbers (latch_nets latches)

-- The covers of a flat circuit as a graph to walk, and what the walk of its roots and then of all covers finds.

-- the covers that a cover reads, left to right
abbrev pub cover_reads : List FlatCoverValue → ℕ → List ℕ
cover_reads covers k = cover_numbers (inputs_at (slice_get covers k))

-- the edges of a cover: those to inputs and latches are passed over
abbrev pub edge_of : {S : Type 0} → FlatNet → Edge S
edge_of (Input j) = Pass
edge_of (Latch j) = Pass
edge_of (Cover j) = Node j

abbrev pub cover_edges : {S : Type 0} → List FlatCoverValue → ℕ → List (Edge S)
cover_edges covers k = map edge_of (inputs_at (slice_get covers k))

pub record InRange (covers : List FlatCoverValue) : Type 0 where
  pub each : (n m : ℕ) → In (cover_reads covers n) m → m < length covers

-- a walk whose next visit may begin
pub record IsReady (covers : List FlatCoverValue) (w : WalkValue) : Type 0 where
  pub count : w.count ≡ length covers
  pub settled : IsSettled (ways_from {S = Unit {0}} (cover_edges covers)) w.order
  pub path : w.path ≡ []

-- the walk of several covers in turn closes no loop
pub record IsClear (covers : List FlatCoverValue) (w v : WalkValue) (starts : List ℕ) : Type 0 where
  pub ready : IsReady covers v
  pub meets : MeetsAll (cover_reads covers) [] starts None
  pub posts : PostsAll (cover_reads covers) w.order starts v.order

-- or it does: these are the covers of the first one, each reading the next, the last reading the first
pub record IsNumberLoop (covers : List FlatCoverValue) (starts nodes : List ℕ) : Type 0 where
  pub repeat : Repeat ℕ
  pub meets : MeetsAll (cover_reads covers) [] starts (Some repeat)
  pub nodes_are : nodes ≡ from_node repeat.node repeat.path

abbrev pub Searched : List FlatCoverValue → WalkValue → WalkValue → List ℕ → Option (Vec ℕ Global) → Type 0
Searched covers w v starts None = IsClear covers w v starts
Searched covers w v starts (Some nodes) = IsNumberLoop covers starts nodes.items

-- what the walk of the roots and then of all covers finds: the first loop, or else the roots' order
abbrev pub all_starts : List FlatCoverValue → List ℕ → List ℕ
all_starts covers roots = roots ++ range_with_len 0 (length covers)

pub record IsOrder (covers : List FlatCoverValue) (roots order : List ℕ) : Type 0 where
  pub meets : MeetsAll (cover_reads covers) [] (all_starts covers roots) None
  pub posts : PostsAll (cover_reads covers) [] roots (reverse order)

abbrev pub IsFound : List FlatCoverValue → List ℕ → Found → Type 0
IsFound covers roots (found_loop nodes) = IsNumberLoop covers (all_starts covers roots) nodes.items
IsFound covers roots (found_order order) = IsOrder covers roots order.items

-- The covers of a loop by their numbers, and how they are written.

-- a text names the net of the cover of this number
pub record IsWrittenAt (library : LibraryValue) (covers : List Place) (number : ℕ) (text : List ℕ) : Type 0 where
  pub place : Place
  pub at : slice_get covers number ≡ Some place
  pub written : IsWritten library (cover_net place.path place.command) text

-- and texts those of several numbers in order
pub record AreWrittenAt (library : LibraryValue) (covers : List Place) (numbers : List ℕ) (texts : List (List ℕ)) : Type 0 where
  pub places : List Place
  pub at : map (slice_get covers) numbers ≡ map Some places
  pub written : AreWritten library places texts

-- What stands after each stage of flattening: the circuit's instances, gates and nets, and then its clock nets.

-- the instances of a library, their covers and latches, and the nets of all their names
pub record IsCircuit (library : LibraryValue) (c : Circuit) : Type 0 where
  pub instances : AreInstances library c.instances.items
  pub covers : AreGatesAt (paths_of c.instances.items) c.covers.items (places_at library is_cover (paths_of c.instances.items))
  pub latches : AreGatesAt (paths_of c.instances.items) c.latches.items (places_at library is_latch (paths_of c.instances.items))
  pub few : length c.covers.items ≤ most_weight
  pub nets : AreAllNets library c.instances.items c.nets

-- its control net, and the clock nets among the main model's inputs, past F7 to F9
pub record AreClockNets (library : LibraryValue) (main : ModelValue) (instances : List Instance) (clocks : ClockNets) : Type 0 where
  pub controlled : IsControlled library main (paths_of instances) clocks.control
  pub marks : clocks.marks.items ≡ map (clock_test main (input_name main clocks.control)) (inputs_of main)
  pub tells : TellsClocks library (clock_test main (input_name main clocks.control))
  pub clear : ClockData library main (places_at library is_gate (paths_of instances)) None
