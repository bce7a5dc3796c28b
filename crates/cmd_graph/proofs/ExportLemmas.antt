-- The graph of a source circuit can be written, and the circuit that is written is the source circuit's.
use Rattle.cmd_graph.proofs.Common.{◌≡◌, ℕ, ◌+◌, ◌≤◌, List, [], ◌∷◌, ◌++◌, length, map, Some, refl, sym, ap, ap₂, subst, inl, inr, arith, slice_get, slice_index_or, Circuit, BuiltSource, IsBuiltSource, circuit_at, HasOtherNames, IsExported}
use Rattle.std.proofs.lemmas.Option.{get_or_from_slice_get}
use Rattle.list_laws.specs.Members.{In}
use Rattle.list_laws.proofs.Members.{In-append, In-filter, In-get}
use Rattle.tl_text.specs.Once.{AreOnce}
use Rattle.list_laws.proofs.Apart.{joined_apart}
use Rattle.netlist.specs.Flat.{IsFlat}
use Rattle.netlist.specs.FlatValue.{FlatValue}
use Rattle.netlist.specs.HasCleanNames.{AreClean}
use Rattle.netlist.specs.LibraryValue.{ModelValue, LibraryValue, input_ports, output_ports}
use Rattle.param_list.specs.declared.params.Param.{Param}
use Rattle.param_list.specs.Parameters.{param_names, regular_names, IsSplit}
use Rattle.param_list.proofs.RegularLemmas.{is_split}
use Rattle.aiger_io.specs.GraphCircuit.{IsWrittenFrom, IsGraphsCircuit}
use Rattle.cmd_stations.proofs.SourceLemmas.{source_count, next_roots}

-- the names that stand at places
names_at : (inputs : List (List ℕ)) (places : List ℕ) (names : List (List ℕ)) → map (slice_get inputs) places ≡ map (λ name. Some name) names → map (λ i. slice_index_or inputs i []) places ≡ names
names_at inputs [] [] e = refl
names_at inputs [] (name ∷ names) e = absurd (let wrong : ⊥ = cc in wrong)
names_at inputs (i ∷ is) [] e = absurd (let wrong : ⊥ = cc in wrong)
names_at inputs (i ∷ is) (name ∷ names) e =
    let here : slice_get inputs i ≡ Some name = cc in
    let others : map (slice_get inputs) is ≡ map (λ (n : List ℕ). Some n) names = cc in
    ap₂ (λ (n : List ℕ) (ns : List (List ℕ)). n ∷ ns) (get_or_from_slice_get inputs i name [] here) (names_at inputs is names others)

module _ (b : BuiltSource) (is : IsBuiltSource b) (regular : List ℕ) where
  abbrev library : LibraryValue
  library = b.source.netlist.library

  abbrev flat : FlatValue
  flat = b.source.netlist.flat

  abbrev params : List Param
  params = b.source.params.list

  -- with the places of its regular inputs it can be written
  pub written_from : map (slice_get flat.inputs) regular ≡ map (λ name. Some name) (regular_names flat params) → length regular ≡ length (regular_names flat params) → IsWrittenFrom flat params regular b.graph b.roots
  written_from names count =
      let graph = is.built.is_graph in
      record {
        names = names;
        sources = (let all : length b.graph.kinds ≡ length (regular_names flat params) + length params + length flat.latches = source_count b.source b.graph b.roots graph in omega arith);
        outputs = graph.outputs;
        next = next_roots b.source b.graph b.roots graph;
        literals = is.lits;
        few = (let outputs : length flat.outputs ≤ 4194304 = is.read.netlist.bounds.few_outputs in omega arith);
      }

  -- and then its circuit is the source circuit's
  module _ (written : IsWrittenFrom flat params regular b.graph b.roots) where
    abbrev circuit : Circuit
    circuit = circuit_at b.source regular b.graph b.roots

    abbrev fields : IsFlat library flat
    fields = is.read.netlist.flat

    abbrev main : ModelValue
    main = fields.main

    main_in : In library.models main
    main_in = In-get library.models 0 main fields.is_main

    split : IsSplit flat params
    split = is_split flat params is.read.netlist.bounds.inputs_once is.read.params

    -- its inputs are the regular inputs and then the parameters, and all of them are inputs of the main model
    inputs_are : circuit.inputs ≡ regular_names flat params ++ param_names params
    inputs_are = ap (λ names. names ++ param_names params) (names_at flat.inputs regular (regular_names flat params) written.names)

    main_input : (name : List ℕ) → In circuit.inputs name → In main.inputs name
    main_input name i = (In-filter _ main.inputs name (subst (λ names. In names name) fields.inputs (split.only name (subst (λ names. In names name) inputs_are i)))).0

    -- so its names are clean
    clean : AreClean (circuit.inputs ++ circuit.outputs)
    clean name i = elim (In-append circuit.inputs circuit.outputs name i) [
      | inl j ↦ (is.read.netlist.clean.each main main_in).ports input_ports name (main_input name j)
      | inr j ↦ (is.read.netlist.clean.each main main_in).ports output_ports name (subst (λ names. In names name) fields.output_names j)
    ]

    -- and no two of them are alike, but for an output that has the name of an input
    once : HasOtherNames circuit → AreOnce (circuit.inputs ++ circuit.outputs)
    once other = joined_apart circuit.inputs circuit.outputs (subst AreOnce (sym inputs_are) split.once) (subst AreOnce (sym fields.output_names) ((is.read.netlist.formed.each main main_in).ports output_ports)) other

    pub exported : IsGraphsCircuit flat params b.graph b.roots circuit → IsExported b.source circuit
    exported law = record {
      format = law.format clean;
      reads_back = λ other. law.reads_back clean (once other);
      alike = law.alike clean;
      weight = law.weight;
      fit = law.fit;
      runs = law.runs library is.cycles;
    }
