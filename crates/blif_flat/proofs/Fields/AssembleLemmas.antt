-- The parts of a flat circuit make its fields.
use Rattle.blif_flat.proofs.Common.{◌≡◌, ℕ, ◌≤◌, List, [], ◌++◌, map, length, reverse, filter, Some, refl, sym, ap, ◌∙◌, subst, subst₂, arith, Bool, Option, not, slice_get, same_Some, length-map, ◌<◌, inl, inr, is_some, option_map, slice_get_within, slice_get-map, In, In-get, at_within, apart_once, reversed_in, in_reversed, nodes_done, LibraryValue, CoverValue, Places, none, more, FlatCoverValue, FlatValue, behind_is, nodes_only, nodes_after, reversed_forward, reversed_apart, reads_earlier, filtered_apart, length-filter_le, ModelValue, Path, model_at, inputs_of, is_cover, is_latch, Circuit, ClockNets, Instance, OutPort, FlatLatch, paths_of, IsLight, places_at, is_gate, input_name, clock_test, cover_reads, PostsAll, most_weight, own_weight, AreNetsOf, IsControl, with_control_net, most_underscores, IsFlat, regular_numbers, IsRegular, regular_places, AreFlatCovers, AreFlatLatches, IsLogic, AreCounted, root_numbers, IsCircuit, AreClockNets, input_ports, AreOnce, IsWellFormed, FlatNet as Net, IsNumbered, an_input, a_latch, a_cover, reads_at, IsFlatLatch, IsThere, IsWithinBounds, rules}
use Rattle.blif_flat.proofs.Clocking.ControlLemmas.{data-output, data-clock}
use Rattle.blif_flat.proofs.Hierarchy.OrderLemmas.{rows_order}
use Rattle.blif_flat.proofs.Fields.NumberWalkLemmas.{flat_walked, in_range, root_below, IsHere, here}
use Rattle.blif_flat.proofs.Hierarchy.InstanceWeightLemmas.{few_inputs, places_few, inputs_few, ports_few}
use Rattle.blif_flat.specs.declared.circuit.instances.GateKind.TheVariants as kinds

module _ (library : LibraryValue) (main : ModelValue) (at : model_at library [] ≡ Some main) (circuit : Circuit) (is : IsCircuit library circuit) (clocks : ClockNets)
    (known : AreClockNets library main circuit.instances.items clocks) where
  abbrev paths : List Path
  paths = paths_of circuit.instances.items

  abbrev test : List ℕ → Bool
  test = clock_test main (input_name main clocks.control)

  abbrev places : Places
  places = regular_places library main test paths

  pub few_marks : IsLight library → length clocks.marks.items ≤ most_weight
  few_marks light = omega (arith, few_inputs library light main at, ap length known.marks ∙ length-map (inputs_of main) test)

  abbrev pub regular_clocks : (numbers : List ℕ) → numbers ≡ regular_numbers 0 clocks.marks.items → IsRegular library numbers
  regular_clocks numbers e = record {
    main = main;
    is_main = at;
    test = test;
    tells = known.tells;
    numbers_are = e ∙ ap (regular_numbers 0) known.marks;
    no_clock_data = data-clock library main at (places_at library is_gate paths) (rows_order library circuit.instances.items is.instances is_gate main at) known.clear;
    no_clock_output = data-output library main known.clear;
  }

  -- what the parts are by the new numbers
  pub logic_known : (numbers : List ℕ) (instances : List Instance) → numbers ≡ regular_numbers 0 clocks.marks.items → instances ≡ circuit.instances.items
      → (covers : List FlatCoverValue) (latches : List FlatLatch) (outputs : List OutPort)
      → ((r : IsRegular library numbers) → AreFlatCovers library (regular_places library r.main r.test (paths_of instances)) covers)
      → ((r : IsRegular library numbers) → AreFlatLatches library (regular_places library r.main r.test (paths_of instances)) latches)
      → ((r : IsRegular library numbers) → map (λ (o : OutPort). o.name) outputs ≡ r.main.outputs)
      → ((r : IsRegular library numbers) → AreNetsOf library (regular_places library r.main r.test (paths_of instances)) [] r.main.outputs (map (λ (o : OutPort). o.net) outputs))
      → IsLogic library main places covers latches outputs
  logic_known numbers instances n rows covers latches outputs c l names nets = record {
    covers_are = subst (λ rs. AreFlatCovers library (regular_places library main test (paths_of rs)) covers) rows (c (regular_clocks numbers n));
    latches_are = subst (λ rs. AreFlatLatches library (regular_places library main test (paths_of rs)) latches) rows (l (regular_clocks numbers n));
    names = names (regular_clocks numbers n);
    nets = subst (λ rs. AreNetsOf library (regular_places library main test (paths_of rs)) [] main.outputs (map (λ (o : OutPort). o.net) outputs)) rows (nets (regular_clocks numbers n));
  }

  module _ (covers : List FlatCoverValue) (latches : List FlatLatch) (outputs : List OutPort) (logic : IsLogic library main places covers latches outputs) where
    pub few_covers : length covers ≤ most_weight
    few_covers = omega arith

    pub counted : AreCounted library paths (map (λ (o : OutPort). o.net) outputs) covers latches
    counted = record {
      main = main;
      at = places;
      walked = record {
        is_main = at;
        covers_order = rows_order library circuit.instances.items is.instances is_cover main at;
        latches_order = rows_order library circuit.instances.items is.instances is_latch main at;
        cover_count = logic.covers_are.count;
        covers_are = logic.covers_are.each;
        latch_count = logic.latches_are.count;
        latches_are = logic.latches_are.each;
        outputs_are = logic.nets;
      };
      covers_at = refl;
    }

    module _ (gates : List FlatCoverValue) (last : List FlatLatch) (ports : List OutPort) (c : gates ≡ covers) (l : last ≡ latches) (o : ports ≡ outputs) where
      pub counted_as : (instances : List Instance) → instances ≡ circuit.instances.items → AreCounted library (paths_of instances) (map (λ (o : OutPort). o.net) ports) gates last
      counted_as instances r =
          subst₂ (λ (x : List Instance) (y : List OutPort). AreCounted library (paths_of x) (map (λ (o : OutPort). o.net) y) gates last) (sym r) (sym o)
          (subst₂ (λ (x : List FlatCoverValue) (y : List FlatLatch). AreCounted library paths (map (λ (o : OutPort). o.net) outputs) x y) (sym c) (sym l) counted)

      pub fields : (name : List ℕ) (inputs clock_names : List (List ℕ)) (control : Option (List ℕ)) (order : List ℕ) (under : ℕ) → name ≡ main.name → inputs ≡ filter (λ name. not (test name)) main.inputs
          → control ≡ input_name main clocks.control → clock_names ≡ with_control_net main.clocks control
          → PostsAll (cover_reads gates) [] (root_numbers (map (λ (o : OutPort). o.net) ports) last) (reverse order) → under ≡ most_underscores (main.inputs ++ (main.clocks ++ main.outputs))
          → IsFlat library (record { model = name; inputs = inputs; clocks = clock_names; control = control; outputs = outputs; covers = covers; latches = latches; order = order; under = under })
      fields name inputs clock_names control order under name_is inputs_are control_is clocks_are posts under_is = record {
        main = main;
        is_main = at;
        model = name_is;
        test = test;
        tells = known.tells;
        inputs = inputs_are;
        control = subst (IsControl library) (sym control_is) known.controlled.is;
        clocks = clocks_are;
        at = places;
        places = sym inputs_are;
        covers_order = rows_order library circuit.instances.items is.instances is_cover main at;
        latches_order = rows_order library circuit.instances.items is.instances is_latch main at;
        cover_count = logic.covers_are.count;
        covers = logic.covers_are.each;
        latch_count = logic.latches_are.count;
        latches = logic.latches_are.each;
        output_names = logic.names;
        outputs = logic.nets;
        order = subst₂ (λ (y : List FlatLatch) (z : List OutPort). PostsAll (cover_reads covers) [] (root_numbers (map (λ (x : OutPort). x.net) z) y) (reverse order)) l o
            (subst (λ y. PostsAll (cover_reads y) [] (root_numbers (map (λ (x : OutPort). x.net) ports) last) (reverse order)) c posts);
        under = under_is;
      }

module _ (library : LibraryValue) (flat : FlatValue) (f : IsFlat library flat) where
  numbered_there : {e : _} (number : Net) → IsNumbered f.at e number → IsThere flat number
  numbered_there number (an_input name j q g n) = subst (IsThere flat) (sym n) (slice_get_within flat.inputs j name (subst (λ l. slice_get l j ≡ Some name) f.places g))
  numbered_there number (a_latch p j q g n) = subst (IsThere flat) (sym n) (omega (arith, slice_get_within (f.at).latches j p g))
  numbered_there number (a_cover p j q g n) = subst (IsThere flat) (sym n) (omega (arith, slice_get_within (f.at).covers j p g))

  nets_there : {path : Path} {names : List (List ℕ)} {numbers : List Net} → AreNetsOf library f.at path names numbers → (net : Net) → In numbers net → IsThere flat net
  nets_there none net i = absurd i
  nets_there (more name names number numbers o os) net (inl e) = subst (IsThere flat) (sym e) (numbered_there number o.numbered)
  nets_there (more name names number numbers o os) net (inr i) = nets_there os net i

  nets_long : {path : Path} {names : List (List ℕ)} {numbers : List Net} → AreNetsOf library f.at path names numbers → length names ≡ length numbers
  nets_long none = refl
  nets_long (more name names number numbers o os) = let e : length names ≡ length numbers = nets_long os in omega arith

  abbrev nets : List Net
  nets = map (λ (o : OutPort). o.net) flat.outputs

  -- the place and the cover of each flat cover
  at_cover : (k : ℕ) (c : FlatCoverValue) → slice_get flat.covers k ≡ Some c → IsHere library f.main f.at nets flat.covers flat.latches (flat_walked library flat f) k c
  at_cover = here library f.main f.at nets flat.covers flat.latches (flat_walked library flat f)

  order_within : (k : ℕ) → In flat.order k → k < length flat.covers
  order_within k i =
      nodes_only (reads_at flat) (λ n. n < length flat.covers) (λ n m h j. (in_range library f.main f.at nets flat.covers flat.latches (flat_walked library flat f)).each n m j)
      f.order (λ n j. root_below library f.main f.at nets flat.covers flat.latches (flat_walked library flat f) n j) (λ n j. absurd j) k (in_reversed flat.order k i)

  pub flat_bounds : IsWellFormed library → IsLight library → IsWithinBounds library flat
  flat_bounds formed light =
      let ports : own_weight f.main ≤ most_weight = ports_few library light f.main f.is_main in
      let inputs : length flat.inputs ≤ length (f.main).inputs = subst (λ l. length l ≤ length (f.main).inputs) (sym f.inputs) (length-filter_le (λ name. not (f.test name)) (f.main).inputs) in
      let outputs : length flat.outputs ≡ length (f.main).outputs = sym (length-map flat.outputs (λ (o : OutPort). o.name)) ∙ ap length f.output_names in
      let latches : length (f.at).latches ≤ most_weight = places_few library light kinds.Latch f.main (f.at).latches f.is_main f.latches_order in
      let covers : length (f.at).covers ≤ most_weight = places_few library light kinds.Cover f.main (f.at).covers f.is_main f.covers_order in
      record {
        few_inputs = omega arith;
        few_latches = omega arith;
        few_covers = omega arith;
        few_outputs = omega arith;
        few_reads = λ k c e. (let h = at_cover k c e in
            omega (arith, nets_long (h.is).inputs, inputs_few library light (h.place).path (h.place).command (h.is).cover (h.is).is));
        inputs_once = subst AreOnce (sym f.inputs) (filtered_apart (λ name. not (f.test name)) (f.main).inputs ((formed.each f.main (In-get library.models 0 f.main f.is_main)).ports input_ports));
        cover_nets = λ k c net e i. nets_there ((at_cover k c e).is).inputs net i;
        latch_nets = λ k l e.
            let p = at_within (f.at).latches k (omega (arith, slice_get_within flat.latches k l e)) in
            let i : IsFlatLatch library f.at p.0 l = f.latches k p.0 l p.1 e in
            numbered_there l.input (i.input).numbered;
        output_nets = λ k o e.
            nets_there f.outputs o.net (In-get nets k o.net (slice_get-map (λ (x : OutPort). x.net) flat.outputs k ∙ ap (option_map (λ (x : OutPort). x.net)) e));
        behind = λ k c e. (let h = at_cover k c e in ap is_some (behind_is library f.at h.place c h.is));
        reads = λ k c cover e b.
            let h = at_cover k c e in
            let same : cover ≡ (h.is).cover = same_Some cover (h.is).cover (sym b ∙ behind_is library f.at h.place c h.is) in
            ap (λ (x : CoverValue). length x.inputs) same ∙ nets_long (h.is).inputs;
        order_there = order_within;
        order_once = λ i j k a b. apart_once flat.order i j k (reversed_apart (reads_at flat) flat.order (nodes_after (reads_at flat) f.order tt)) a b;
        order_behind = λ j k read e i.
            let r = reads_earlier (reads_at flat) flat.order (reversed_forward (reads_at flat) flat.order (nodes_after (reads_at flat) f.order tt)) j k read e i in
            record { place = r.0; earlier = r.1; at = r.2 };
        order_roots = λ k i. reversed_in flat.order k (nodes_done (reads_at flat) f.order k i);
      }
