-- Bounds of a flat circuit: how long its lists are, that its nets and its order are in range, and what its order keeps.
use Rattle.std.specs.Prelude.{◌≡◌, ℕ, ◌<◌, ◌≤◌, List, length, Some, IsSome, slice_get}
use Rattle.tl_text.specs.Once.{AreOnce}
use Rattle.netlist.specs.Circuits.{In, FlatCoverValue, FlatValue, CoverValue, LibraryValue, FlatLatch, FlatNet as Net, OutPort}
use Rattle.netlist.specs.Evaluation.{cover_behind}
use Rattle.netlist.specs.Flat.{reads_at, flat_roots}
use Rattle.netlist.specs.Weight.{most_weight}
use Rattle.netlist.specs.declared.flat.FlatNet.TheVariants.{Input, Latch, Cover}

-- what drives a net is there
abbrev pub IsThere : FlatValue → Net → Type 0
IsThere flat (Input j) = j < length flat.inputs
IsThere flat (Latch j) = j < length flat.latches
IsThere flat (Cover j) = j < length flat.covers

-- a cover stands in an order before the place j
pub record StandsBefore (order : List ℕ) (j cover : ℕ) : Type 0 where
  pub place : ℕ
  pub earlier : place < j
  pub at : slice_get order place ≡ Some cover

pub record IsWithinBounds (library : LibraryValue) (flat : FlatValue) : Type 0 where
  pub few_inputs : length flat.inputs ≤ most_weight
  pub few_latches : length flat.latches ≤ most_weight
  pub few_covers : length flat.covers ≤ most_weight
  pub few_outputs : length flat.outputs ≤ most_weight
  pub few_reads : (k : ℕ) (c : FlatCoverValue) → slice_get flat.covers k ≡ Some c → length c.inputs ≤ most_weight
  -- no two inputs are alike
  pub inputs_once : AreOnce flat.inputs
  -- all nets are there
  pub cover_nets : (k : ℕ) (c : FlatCoverValue) (net : Net) → slice_get flat.covers k ≡ Some c → In c.inputs net → IsThere flat net
  pub latch_nets : (k : ℕ) (l : FlatLatch) → slice_get flat.latches k ≡ Some l → IsThere flat l.input
  pub output_nets : (k : ℕ) (o : OutPort) → slice_get flat.outputs k ≡ Some o → IsThere flat o.net
  -- each flat cover has a cover behind it, which reads as many nets
  pub behind : (k : ℕ) (c : FlatCoverValue) → slice_get flat.covers k ≡ Some c → IsSome (cover_behind library c)
  pub reads : (k : ℕ) (c : FlatCoverValue) (cover : CoverValue) → slice_get flat.covers k ≡ Some c → cover_behind library c ≡ Some cover → length cover.inputs ≡ length c.inputs
  -- the order has covers that are there, each once, each after those that it reads, and the covers at the outputs and at the latches' inputs among them
  pub order_there : (k : ℕ) → In flat.order k → k < length flat.covers
  pub order_once : (i j k : ℕ) → slice_get flat.order i ≡ Some k → slice_get flat.order j ≡ Some k → i ≡ j
  pub order_behind : (j k read : ℕ) → slice_get flat.order j ≡ Some k → In (reads_at flat k) read → StandsBefore flat.order j read
  pub order_roots : (k : ℕ) → In (flat_roots flat) k → In flat.order k
