-- What a written netlist means: its one model is sound, and its cycles are those of the LUTs.
use Rattle.std.specs.Prelude.{◌≡◌, ℕ, ◌<◌, ◌≤◌, ◌^◌, Bool, true, if◌then◌else◌, List, [], ◌∷◌, ◌++◌, length, map, slice_get, codes, bytes_eq, Option, Some, None}
use Rattle.std.specs.List.{range_with_len}
use Rattle.blif_write.specs.Words.{In, IsClean, AreOnce, OutPort, FlatLatch, FlatValue, underscores, IsFlat, Param, regular_names, Lit, Lut, TemplateValue}
use Rattle.machine.specs.Machine.{GivesCycle, GivesRun, Refines, reading}
use Rattle.netlist.specs.FlatCycle.{flat_inits}
use Rattle.netlist.specs.Runs.{library_machine}
use Rattle.netlist.specs.Sound.{IsSound}
use Rattle.lut_sim.specs.Playable.{IsPlayable}
use Rattle.lut_sim.specs.Cycle.{LutInput, lut_machine}
use Rattle.blif_read.specs.Denotes.{Denotes}
use Rattle.blif_write.specs.PlainNetlist.{PlainNetlist, library_of, netlist_text}
use Rattle.blif_write.specs.Netlists.{specialised_netlist, template_netlist}
use Rattle.blif_write.specs.OwnNames.{Naming, naming_of, bit_name, literal_name}
use Rattle.blif_write.specs.Writable.{AreRootsOf}

-- a port's name can be written, and begins with no more underscores than are counted
pub record IsPortName (flat : FlatValue) (name : List ℕ) : Type 0 where
  pub clean : IsClean name
  pub under : underscores name ≤ flat.under

-- The ports of a flat circuit: inputs and outputs stand once each, and the net of the latch controls is none of them and clocks a latch.
pub record HasPorts (flat : FlatValue) : Type 0 where
  pub model : IsClean flat.model
  pub inputs : (name : List ℕ) → In flat.inputs name → IsPortName flat name
  pub inputs_once : AreOnce flat.inputs
  pub outputs : (o : OutPort) → In flat.outputs o → IsPortName flat o.name
  pub outputs_once : AreOnce (map (λ (o : OutPort). o.name) flat.outputs)
  pub control : (name : List ℕ) → flat.control ≡ Some name → IsPortName flat name
  pub no_input : (name : List ℕ) → flat.control ≡ Some name → In flat.inputs name → ⊥
  pub no_output : (name : List ℕ) → flat.control ≡ Some name → (o : OutPort) → In flat.outputs o → o.name ≡ name → ⊥
  pub clocked : (name : List ℕ) → flat.control ≡ Some name → (l : FlatLatch) × In flat.latches l × (l.clocked ≡ true)

-- The tables of a flat circuit: they can be played in the order of its sources, their numbers are below 2^32, and an output that is a regular input has this input as its root.
pub record AreTablesOf (flat : FlatValue) (params : List Param) (t : TemplateValue) : Type 0 where
  pub roots : AreRootsOf flat t
  pub playable : IsPlayable t (naming_of flat params).shape
  pub few_latches : length flat.latches < 2 ^ 32
  pub few_bits : t.bits < 2 ^ 32
  pub small : (u : Lut) → In t.luts u → u.lit.0 < 2 ^ 32
  pub fed : (i : ℕ) (o : OutPort) (lit : Lit) → slice_get flat.outputs i ≡ Some o → slice_get t.outputs i ≡ Some lit → In (regular_names flat params) o.name → literal_name (naming_of flat params) lit.0 ≡ o.name

-- The control `NIL`, which a latch of a submodel can have, is written as any other and read as none. The main input of this name then is one further input of the written netlist, which nothing reads.
abbrev pub free_control : Option (List ℕ) → List (List ℕ)
free_control None = []
free_control (Some name) = if bytes_eq name (codes "NIL") then name ∷ [] else []

-- what the tables take under the values x of the inputs, by their names: the regular inputs' values, and a configuration that may depend on x
abbrev pub driven_by : FlatValue → List Param → ((List ℕ → Bool) → List Bool) → (List ℕ → Bool) → LutInput
driven_by flat params config x = record { config = config x; values = map x (regular_names flat params) }

-- The library of a written netlist is sound. It has a flat circuit, whose inputs are the regular ones, this control, and configuration bits of these names. It has a cycle from any states under any values, and a run under any. Its machine refines that of the
-- tables under this configuration, whose latches start as the source's.
pub record Means (flat : FlatValue) (params : List Param) (t : TemplateValue) (n : PlainNetlist) (bits : List (List ℕ)) (config : (List ℕ → Bool) → List Bool) : Type 0 where
  pub sound : IsSound (library_of n)
  pub is_flat : (again : FlatValue) × IsFlat (library_of n) again
  pub inputs : (again : FlatValue) → IsFlat (library_of n) again → again.inputs ≡ regular_names flat params ++ (free_control flat.control ++ bits)
  pub refines : Refines (library_machine (library_of n)) (reading (driven_by flat params config) (lut_machine t (naming_of flat params).shape (flat_inits flat)))
  pub has_cycle : (x : List ℕ → Bool) (s : List Bool) → length s ≡ length flat.latches → GivesCycle (library_machine (library_of n)) x s
  pub has_run : (xs : List (List ℕ → Bool)) → GivesRun (library_machine (library_of n)) xs

-- the names of the configuration bits, in the order of the addresses, and the configuration that the inputs of these names have
abbrev pub all_bit_names : Naming → ℕ → List (List ℕ)
all_bit_names g bits = map (bit_name g) (range_with_len 0 bits)

abbrev pub input_bits : Naming → ℕ → (List ℕ → Bool) → List Bool
input_bits g bits x = map (λ address. x (bit_name g address)) (range_with_len 0 bits)

-- a written netlist's text denotes its library
abbrev pub DenotesItself : FlatValue → List Param → TemplateValue → PlainNetlist → Type 0
DenotesItself flat params t n = HasPorts flat → AreTablesOf flat params t → Denotes (netlist_text n) (library_of n)

-- what the netlist of the tables means with their bits as inputs, and with those of a configuration
abbrev pub MeansTemplate : FlatValue → List Param → TemplateValue → Type 0
MeansTemplate flat params t =
    HasPorts flat → AreTablesOf flat params t → Means flat params t (template_netlist flat params t) (all_bit_names (naming_of flat params) t.bits) (input_bits (naming_of flat params) t.bits)

abbrev pub MeansSpecialised : FlatValue → List Param → TemplateValue → List Bool → Type 0
MeansSpecialised flat params t config = HasPorts flat → AreTablesOf flat params t → Means flat params t (specialised_netlist flat params t config) [] (λ x. config)
