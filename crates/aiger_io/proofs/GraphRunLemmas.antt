-- What the library of a circuit weighs: each section's lines weigh the same. The circuit of a graph keeps what is said of it: its text is of the format and is read back, its lines have one fit, and its cycles and runs are those of
-- the library whose graph it is.
use Rattle.aiger_io.proofs.Common.{◌≡◌, ℕ, ◌+◌, ◌*◌, ◌/◌, ◌^◌, ◌<◌, ◌≤◌, Bool, List, [], ◌∷◌, ◌++◌, length, map, get_or, Some, refl, sym, ap, ◌∙◌, subst, arith, length-append, slice_get, length-map, get_or_from_slice_get, In, In-left, In-right, map_agree, Aig, first_and, node_count, IsLit, AreNormal, RootsValue, lits_of, node_value, value_of, FitsGraph, HasOneFit, FlatValue, LibraryValue, Param, regular_names, param_names, Circuit, input_count, input_at, graph_circuit, IsWrittenFrom, IsGraphsCircuit, literal_value, output_literals, next_literals, init_bits, IsCircuitCycle, circuit_machine, HasSameRuns, inl, inr, mark_of, commands_from, model_of, library_of, library_weight, kind_of_item, AreInSections, Header, Item, Latch, LineKind, MealyMachine, reading, refines_by, refines_on, library_machine}
use Rattle.aig_build.specs.NetlistCycle.{source_values, literal_values, IsGraphCycle, graph_machine, HasSourceCycles}
use Rattle.aig_build.specs.NetlistGraph.{input_names}
use Rattle.netlist.specs.FlatCycle.{flat_inits}
use Rattle.aiger_io.proofs.GraphFitLemmas.{literal_same, node_list, node_at, lines_fit, nodes_fit, given_list, written_fit}
use Rattle.aiger_io.proofs.GraphItemLemmas.{written_formed, output_literals_are, next_literals_are, init_bits_are}
use Rattle.aiger_io.proofs.Format.AigerTextLemmas.{in_sections}
use Rattle.aiger_io.proofs.WrittenLemmas.{text_format, text_is, alike_refused}
use Rattle.netlist.specs.Weight.{commands_weight, own_weight, Weighs, weighs, none}
use Rattle.aiger_io.specs.declared.item.LineKind.TheVariants as kind
use Rattle.aiger_io.proofs.FitLemmas.{no_subckts}

-- what a line's commands weigh
abbrev kind_weight : LineKind → ℕ
kind_weight kind.Input = 2
kind_weight kind.Latch = 4
kind_weight kind.Output = 2
kind_weight kind.And = 3

abbrev weigh : List Item → ℕ
weigh [] = 0
weigh (item ∷ items) = kind_weight (kind_of_item item) + weigh items

module _ (mark : List ℕ) (h : Header) (inputs outputs : List (List ℕ)) where
  commands_weigh : (place : ℕ) (items : List Item) → commands_weight (commands_from mark h inputs outputs place items) ≡ weigh items
  commands_weigh place [] = refl
  commands_weigh place (Latch own next init ∷ items) = let b = commands_weigh (place + 1) items in grind (arith, b)
  commands_weigh place (item ∷ items) = ap (λ n. kind_weight (kind_of_item item) + n) (commands_weigh (place + 1) items)

weigh_both : (xs ys : List Item) → weigh (xs ++ ys) ≡ weigh xs + weigh ys
weigh_both [] ys = omega arith
weigh_both (x ∷ xs) ys = let b = weigh_both xs ys in omega (arith, b)

section_weighs : (k : LineKind) (items : List Item) → ((item : Item) → In items item → kind_of_item item ≡ k) → weigh items ≡ kind_weight k * length items
section_weighs k [] each = grind arith
section_weighs k (x ∷ xs) each = let a : kind_weight (kind_of_item x) ≡ kind_weight k = ap kind_weight (each x (inl refl)) in let b : weigh xs ≡ kind_weight k * length xs = section_weighs k xs (λ y i. each y (inr i)) in grind arith

module _ (c : Circuit) (s : AreInSections c.header c.items) (inputs : length c.inputs ≡ c.header.inputs) (outputs : length c.outputs ≡ c.header.outputs) where
  items_weigh : weigh c.items ≡ 2 * c.header.inputs + 4 * c.header.latches + 2 * c.header.outputs + 3 * c.header.ands
  items_weigh =
      ap weigh s.are ∙ omega (
        arith,
        (s.inputs_are).count_is,
        (s.latches_are).count_is,
        (s.outputs_are).count_is,
        (s.ands_are).count_is,
        section_weighs kind.Input s.inputs (s.inputs_are).each,
        section_weighs kind.Latch s.latches (s.latches_are).each,
        section_weighs kind.Output s.outputs (s.outputs_are).each,
        section_weighs kind.And s.ands (s.ands_are).each,
        weigh_both s.inputs (s.latches ++ (s.outputs ++ s.ands)),
        weigh_both s.latches (s.outputs ++ s.ands),
        weigh_both s.outputs s.ands,
      )

  pub circuit_weighs : Weighs (library_of c) (model_of c) (library_weight c.header)
  circuit_weighs =
      let own : own_weight (model_of c) ≡ 1 + length c.inputs + length c.outputs + 0 + (1 + commands_weight (commands_from (mark_of (c.inputs ++ c.outputs)) c.header c.inputs c.outputs 0 c.items)) = refl in
      weighs 0 (none (no_subckts c) refl) (omega (arith, commands_weigh (mark_of (c.inputs ++ c.outputs)) c.header c.inputs c.outputs 0 c.items, items_weigh, own))

-- names by their places
names_at : (names : List (List ℕ)) (places : List ℕ) (all : List (List ℕ)) → map (slice_get names) places ≡ map (λ name. Some name) all → map (λ i. get_or names i []) places ≡ all
names_at names [] [] e = refl
names_at names (i ∷ places) (name ∷ all) e =
    let rest : map (slice_get names) places ≡ map (λ (n : List ℕ). Some n) all = cc in
    ap (λ n. n ∷ map (λ j. get_or names j []) places) (get_or_from_slice_get names i name [] cc) ∙ ap (λ ns. name ∷ ns) (names_at names places all rest)
names_at names places all e = absurd (cc)

module _ (flat : FlatValue) (params : List Param) (regular : List ℕ) (g : Aig) (roots : RootsValue) (from : IsWrittenFrom flat params regular g roots) (normal : AreNormal (first_and g) g.pairs)
    (one : (given : List Bool) → length given ≡ length g.kinds → HasOneFit g given) where
  abbrev written : Circuit
  written = graph_circuit flat params regular g roots

  inputs_named : written.inputs ≡ input_names flat params
  inputs_named = ap (λ names. names ++ param_names params) (names_at flat.inputs regular (regular_names flat params) from.names)

  inputs_count : length written.inputs ≡ input_count regular params
  inputs_count = omega (arith, length-append (map (input_at flat) regular) (map (λ (p : Param). p.name) params), length-map regular (input_at flat), length-map params (λ (p : Param). p.name))

  -- the sources of the graph, where the inputs have their values by their names
  sources_are : (x : List ℕ → Bool) (s : List Bool) → map x written.inputs ++ s ≡ source_values flat params x s
  sources_are x s = ap (λ names. map x names ++ s) inputs_named

  -- the values of roots, from those of variables
  roots_same : (value : ℕ → Bool) (values : List Bool) (lits : List ℕ) → ((n : ℕ) → n < node_count g → node_value values n ≡ value n) → ((l : ℕ) → In lits l → IsLit g l) → map (value_of values) lits ≡ map (literal_value value) lits
  roots_same value values lits same low = map_agree (value_of values) (literal_value value) lits (λ l i. let b : l < 2 * node_count g = low l i in literal_same values value l (same (l / 2) (omega arith)))

  outputs_same : (value : ℕ → Bool) (values : List Bool) → ((n : ℕ) → n < node_count g → node_value values n ≡ value n) → literal_values values roots.outputs ≡ map (literal_value value) (output_literals written.items)
  outputs_same value values same =
      roots_same value values (lits_of roots.outputs) same (λ l i. from.literals l (In-left (lits_of roots.outputs) (lits_of roots.next) l i))
      ∙ ap (map (literal_value value)) (sym (output_literals_are (input_count regular params) flat.latches g roots))

  nexts_same : (value : ℕ → Bool) (values : List Bool) → ((n : ℕ) → n < node_count g → node_value values n ≡ value n) → literal_values values roots.next ≡ map (literal_value value) (next_literals written.items)
  nexts_same value values same =
      roots_same value values (lits_of roots.next) same (λ l i. from.literals l (In-right (lits_of roots.outputs) (lits_of roots.next) l i))
      ∙ ap (map (literal_value value)) (sym (next_literals_are (input_count regular params) flat.latches g roots from.next))

  -- a cycle of the circuit is one of the graph
  graph_cycle : (x : List ℕ → Bool) (s outputs next : List Bool) → IsCircuitCycle written (map x written.inputs) s outputs next → IsGraphCycle flat params g roots x s outputs next
  graph_cycle x s outputs next cycle = record {
    states = cycle.states;
    values = node_list g cycle.value;
    fits = subst (λ given. FitsGraph g given (node_list g cycle.value)) (given_list flat params regular g roots from (map x written.inputs) s cycle.value cycle.fits cycle.inputs cycle.states ∙ sources_are x s)
        (nodes_fit flat params regular g roots from (map x written.inputs) s cycle.value cycle.fits normal);
    outputs_are = cycle.outputs_are ∙ sym (outputs_same cycle.value (node_list g cycle.value) (node_at g cycle.value));
    next_are = cycle.next_are ∙ sym (nexts_same cycle.value (node_list g cycle.value) (node_at g cycle.value));
  }

  -- and back
  circuit_cycle : (x : List ℕ → Bool) (s outputs next : List Bool) → IsGraphCycle flat params g roots x s outputs next → IsCircuitCycle written (map x written.inputs) s outputs next
  circuit_cycle x s outputs next cycle =
      let inputs : length (map x written.inputs) ≡ input_count regular params = length-map written.inputs x ∙ inputs_count in
      record {
        inputs = inputs;
        states = cycle.states;
        value = node_value cycle.values;
        fits = lines_fit flat params regular g roots from (map x written.inputs) s cycle.values inputs cycle.states (subst (λ given. FitsGraph g given cycle.values) (sym (sources_are x s)) cycle.fits);
        outputs_are = cycle.outputs_are ∙ outputs_same (node_value cycle.values) cycle.values (λ n l. refl);
        next_are = cycle.next_are ∙ nexts_same (node_value cycle.values) cycle.values (λ n l. refl);
      }

  abbrev circuit : MealyMachine (List ℕ → Bool) (List Bool) (List Bool)
  circuit = reading (λ (x : List ℕ → Bool). map x written.inputs) (circuit_machine written)

  abbrev graph : MealyMachine (List ℕ → Bool) (List Bool) (List Bool)
  graph = graph_machine flat params g roots

  inits_are : init_bits written.items ≡ flat_inits flat
  inits_are = init_bits_are (input_count regular params) flat.latches g roots

  same_runs : (library : LibraryValue) → HasSourceCycles library flat params g roots → HasSameRuns written library
  same_runs library sources = record {
    forth = refines_on circuit graph (library_machine library) (refines_by circuit graph graph_cycle (λ s e. e ∙ inits_are)) (sources.agrees).forth;
    back = refines_on (library_machine library) graph circuit (sources.agrees).back (refines_by graph circuit circuit_cycle (λ s e. e ∙ sym inits_are));
  }

  -- all of it
  pub graphs_circuit : node_count g ≤ 2 ^ 30 → IsGraphsCircuit flat params g roots written
  graphs_circuit small =
      let formed = written_formed flat params regular g roots from normal small in
      record {
        format = λ clean. text_format written formed clean;
        reads_back = λ clean once. text_is written formed clean once;
        alike = λ clean name i o. alike_refused written formed clean name i o;
        weight = circuit_weighs written (in_sections written.header written.items formed.count (λ p item e. (formed.items p item e).kind)) formed.inputs formed.outputs;
        fit = written_fit flat params regular g roots from formed normal one;
        runs = same_runs;
      }
