-- The circuit of a graph: a variable for each source, in the order of their indices, and for each AND node. Inputs are the regular inputs, and then the parameters.
use Rattle.std.specs.Prelude.{◌≡◌, ℕ, ◌+◌, ◌*◌, ◌^◌, ◌<◌, List, [], ◌++◌, length, map, Some, slice_get, slice_index_or}
use Rattle.std.specs.List.{range_with_len, flat_map}
use Rattle.list_laws.specs.Members.{In}
use Rattle.tl_text.specs.Once.{AreOnce}
use Rattle.aig_core.specs.Aig.{Aig, first_and}
use Rattle.aig_core.specs.Roots.{RootsValue, roots_of, AreRoots}
use Rattle.aig_core.specs.declared.lit.Lit.{Lit}
use Rattle.aig_core.specs.declared.lit.Pair.{Pair}
use Rattle.aig_build.specs.NetlistCycle.{HasSourceCycles}
use Rattle.netlist.specs.FlatValue.{FlatValue}
use Rattle.netlist.specs.HasCleanNames.{AreClean}
use Rattle.netlist.specs.LibraryValue.{LibraryValue}
use Rattle.netlist.specs.Weight.{Weighs}
use Rattle.netlist.specs.declared.flat.FlatLatch.{FlatLatch}
use Rattle.netlist.specs.declared.flat.OutPort.{OutPort}
use Rattle.param_list.specs.declared.params.Param.{Param}
use Rattle.param_list.specs.Parameters.{regular_names}
use Rattle.aiger_io.specs.AigerText.{IsOfFormat, IsAigerText}
use Rattle.aiger_io.specs.Circuit.{Circuit}
use Rattle.aiger_io.specs.CircuitLibrary.{model_of, library_of, library_weight}
use Rattle.aiger_io.specs.Refused.{IsNameRefused}
use Rattle.aiger_io.specs.Run.{HasOneFit, HasSameRuns}
use Rattle.aiger_io.specs.WrittenText.{numbered, circuit_text, numbered_text, header_words, item_text, symbol_text}
use Rattle.aiger_io.specs.declared.header.Header.{Header}
use Rattle.aiger_io.specs.declared.item.Item.{Item}
use Rattle.aiger_io.specs.declared.item.Item.TheVariants.{Input, Latch, Output, And}
use Rattle.tl_text.specs.WrittenText.{line_text}

-- how many inputs there are, where the places of the regular ones are given
abbrev pub input_count : List ℕ → List Param → ℕ
input_count regular params = length regular + length params

abbrev pub lit_at : List Lit → ℕ → ℕ
lit_at lits k = (slice_index_or lits k (record { 0 = 0 })).0

abbrev pub input_item : ℕ → Item
input_item n = Input (2 * n)

-- a latch by its ordinal, after so many inputs
abbrev pub latch_item : ℕ → List Lit → ℕ → FlatLatch → Item
latch_item inputs next k latch = Latch (2 * (1 + inputs + k)) (lit_at next k) latch.init

abbrev pub output_item : Lit → Item
output_item l = Output l.0

-- an AND node by its index, with the higher literal first
abbrev pub gate_item : ℕ → Pair → Item
gate_item n p = And (2 * n) p.y.0 p.x.0

abbrev pub graph_items : ℕ → List FlatLatch → Aig → RootsValue → List Item
graph_items inputs latches g roots =
    map input_item (range_with_len 1 inputs) ++ (numbered (latch_item inputs roots.next) 0 latches ++ (map output_item roots.outputs ++ numbered gate_item (first_and g) g.pairs))

abbrev pub input_at : FlatValue → ℕ → List ℕ
input_at flat i = slice_index_or flat.inputs i []

abbrev pub graph_header : ℕ → FlatValue → Aig → RootsValue → Header
graph_header inputs flat g roots =
    record { variables = inputs + length flat.latches + length g.pairs; inputs = inputs; latches = length flat.latches; outputs = length roots.outputs; ands = length g.pairs }

abbrev pub graph_circuit : FlatValue → List Param → List ℕ → Aig → RootsValue → Circuit
graph_circuit flat params regular g roots = record {
  header = graph_header (input_count regular params) flat g roots;
  items = graph_items (input_count regular params) flat.latches g roots;
  inputs = map (input_at flat) regular ++ map (λ (p : Param). p.name) params;
  outputs = map (λ (o : OutPort). o.name) flat.outputs;
}

-- what was made from one library: the places of the regular inputs, a source for each input and each latch, and a root for each output and each latch
pub record IsWrittenFrom (flat : FlatValue) (params : List Param) (regular : List ℕ) (g : Aig) (roots : RootsValue) : Type 0 where
  pub names : map (slice_get flat.inputs) regular ≡ map (λ name. Some name) (regular_names flat params)
  pub sources : length g.kinds ≡ input_count regular params + length flat.latches
  pub outputs : length roots.outputs ≡ length flat.outputs
  pub next : length roots.next ≡ length flat.latches
  pub literals : AreRoots g (roots_of roots)
  pub few : length flat.outputs < 2 ^ 32

-- What the circuit of a graph keeps. Where its names are clean, its text is of the format; it is this circuit where no two of them are alike, and is refused
-- for a name where an output has the name of an input. The library that is read of it weighs what its header says. Values that fit its lines are there, and
-- agree on what the lines define. Its cycles and runs are those of the library whose graph it is.
pub record IsGraphsCircuit (flat : FlatValue) (params : List Param) (g : Aig) (roots : RootsValue) (c : Circuit) : Type 0 where
  pub format : AreClean (c.inputs ++ c.outputs) → IsOfFormat (circuit_text c) c
  pub reads_back : AreClean (c.inputs ++ c.outputs) → AreOnce (c.inputs ++ c.outputs) → IsAigerText (circuit_text c) c
  pub alike : AreClean (c.inputs ++ c.outputs) → (name : List ℕ) → In c.inputs name → In c.outputs name → IsNameRefused (circuit_text c)
  pub weight : Weighs (library_of c) (model_of c) (library_weight c.header)
  pub fit : HasOneFit c
  pub runs : (library : LibraryValue) → HasSourceCycles library flat params g roots → HasSameRuns c library

-- the header and the lines of a graph with so many inputs
abbrev pub lines_text : ℕ → FlatValue → Aig → RootsValue → List ℕ
lines_text inputs flat g roots =
    line_text (header_words (graph_header inputs flat g roots))
    ++ (flat_map (λ (n : ℕ). item_text (input_item n)) (range_with_len 1 inputs)
    ++ (numbered_text (λ k latch. item_text (latch_item inputs roots.next k latch)) 0 flat.latches
    ++ (flat_map (λ l. item_text (output_item l)) roots.outputs ++ numbered_text (λ n pair. item_text (gate_item n pair)) (first_and g) g.pairs)))

-- and the symbols
abbrev pub symbols_text : FlatValue → List Param → List ℕ → List ℕ
symbols_text flat params regular =
    numbered_text (λ k i. symbol_text 105 k (input_at flat i)) 0 regular
    ++ (numbered_text (λ k (p : Param). symbol_text 105 k p.name) (length regular) params ++ numbered_text (λ k (o : OutPort). symbol_text 111 k o.name) 0 flat.outputs)
