-- The graph that the code makes of a flat circuit is its graph, and its roots have the outputs and the next states of a clock cycle.
use Rattle.aig_build.proofs.Common.{◌≡◌, ℕ, ◌+◌, ◌<◌, ◌≤◌, Bool, false, List, [], ◌∷◌, ◌++◌, length, map, reverse, replicate, refl, sym, ap, ap₂, ◌∙◌, subst, subst₂, inl, inr, arith, All-from_get_or, All-replicate, unwrap_or-slice_get, In, In-append, place_in, from_map, LibraryValue, IsWellFormed, FlatNet, Input, Cover, OutPort, FlatLatch, FlatValue, cover_numbers, reads_at, PostsAll, IsThere, IsWithinBounds, net_value, flat_values, flat_outputs, flat_next, input_values, HasCycles, Param, AreParameters, Lit, Aig, IsLit, with_pairs, RootsValue, lits_of, roots_of, AreRoots, value_of, FitsGraph, Literals, input_names, source_kinds, root_nets, MakesAll, IsGraphOf, HasTooManyNodes, source_values, literal_values, IsGraphCycle, graph_machine, HasSourceCycles, NetLitsValue, no_lit, net_lit, net_lits, Built, marks_of, regular_lits, regular_next, start_nets, source_aig, order_of, root_lits, HoldsNets, length-map, length-replicate, length-append, map-append, rules, IsFlatCycle, flat_machine, values_of}
use Rattle.std.proofs.lemmas.Simd.{map-map}
use Rattle.netlist.specs.Flattened.{HasValues}
use Rattle.netlist.specs.Runs.{library_machine}
use Rattle.machine.specs.Machine.{MealyMachine, reading}
use Rattle.machine.proofs.RefineLemmas.{refines_by, refines_on}
use Rattle.aig_core.proofs.FitLemmas.{is_values_of, fits_values_of}
use Rattle.aig_build.proofs.SignalLemmas.{AreKnown, order_made}
use Rattle.aig_build.proofs.SourceLemmas.{length-marked, length-regular, length-param_lits, regular_next-le, start_latches, start_sourced}
use Rattle.aig_build.proofs.NetValueLemmas.{source_count, source_below, IsRight, net_right, flat_right, held_lit}

-- the covers among joined nets
numbers-append : (xs ys : List FlatNet) → cover_numbers (xs ++ ys) ≡ cover_numbers xs ++ cover_numbers ys
numbers-append [] ys = refl
numbers-append (Cover k ∷ xs) ys = ap (λ l. k ∷ l) (numbers-append xs ys)
numbers-append (Input i ∷ xs) ys = numbers-append xs ys
numbers-append (net ∷ xs) ys = numbers-append xs ys

-- what drives the roots is there
module _ (library : LibraryValue) (flat : FlatValue) (bounds : IsWithinBounds library flat) where
  pub output_there : (o : OutPort) → In flat.outputs o → IsThere flat o.net
  output_there o i = let p = place_in flat.outputs o i in bounds.output_nets p.0 o p.1

  pub latch_there : (l : FlatLatch) → In flat.latches l → IsThere flat l.input
  latch_there l i = let p = place_in flat.latches l i in bounds.latch_nets p.0 l p.1

  roots_there : (net : FlatNet) → In (root_nets flat) net → IsThere flat net
  roots_there net i = elim (In-append (map (λ (o : OutPort). o.net) flat.outputs) (map (λ (l : FlatLatch). l.input) flat.latches) net i) [
    | inl j ↦ (let r = from_map (λ (o : OutPort). o.net) flat.outputs net j in subst (IsThere flat) (sym r.2) (output_there r.0 r.1))
    | inr j ↦ (let r = from_map (λ (l : FlatLatch). l.input) flat.latches net j in subst (IsThere flat) (sym r.2) (latch_there r.0 r.1))
  ]

  -- the roots' literals are literals of the graph
  pub are_roots : (g : Aig) (nets : NetLitsValue) → HoldsNets flat g nets → AreRoots g (roots_of (root_lits flat nets))
  are_roots g nets holds l i = elim (In-append (lits_of (root_lits flat nets).outputs) (lits_of (root_lits flat nets).next) l i) [
    | inl j ↦ (let r = from_map (λ (x : Lit). x.0) (root_lits flat nets).outputs l j in
        let q = from_map (λ (o : OutPort). net_lit nets o.net) flat.outputs r.0 r.1 in
        subst (IsLit g) (sym (r.2 ∙ ap (λ (x : Lit). x.0) q.2)) (held_lit flat g nets holds q.0.net (output_there q.0 q.1)))
    | inr j ↦ (let r = from_map (λ (x : Lit). x.0) (root_lits flat nets).next l j in
        let q = from_map (λ (o : FlatLatch). net_lit nets o.input) flat.latches r.0 r.1 in
        subst (IsLit g) (sym (r.2 ∙ ap (λ (x : Lit). x.0) q.2)) (held_lit flat g nets holds q.0.input (latch_there q.0 q.1)))
  ]

-- a list of literals has the values of the nets that they are made for
values_of_lits : {A : Type 0} (values : List Bool) (nets : NetLitsValue) (x s evaluated : List Bool) (net : A → FlatNet) (items : List A)
    → ((a : A) → In items a → value_of values (net_lit nets (net a)).0 ≡ net_value x s evaluated (net a)) → literal_values values (map (λ (a : A). net_lit nets (net a)) items) ≡ map (λ (a : A). net_value x s evaluated (net a)) items
values_of_lits values nets x s evaluated net [] each = refl
values_of_lits values nets x s evaluated net (a ∷ items) each = ap₂ (λ (v : Bool) (vs : List Bool). v ∷ vs) (each a (inl refl)) (values_of_lits values nets x s evaluated net items (λ b i. each b (inr i)))

module _ (library : LibraryValue) (flat : FlatValue) (params : List Param) (most : ℕ) (formed : IsWellFormed library) (bounds : IsWithinBounds library flat) (are : AreParameters flat params) where
  abbrev nets0 : NetLitsValue
  nets0 = start_nets flat params

  abbrev g0 : Aig
  g0 = source_aig flat params most

  pub start_holds : HoldsNets flat g0 nets0
  start_holds =
      let latches : nets0.latches ≡ 1 + length (input_names flat params) = start_latches flat params bounds.inputs_once are in
      let n : length (source_kinds flat params) ≡ length (input_names flat params) + length flat.latches = source_count library flat params formed bounds in
      let few : length params ≤ 65535 = are.named.few in
      let inputs : length nets0.inputs ≡ length flat.inputs =
      length-param_lits (regular_lits 1 (marks_of flat params)) (regular_next 1 (marks_of flat params)) params ∙ length-regular 1 (marks_of flat params)
      ∙ length-marked (replicate (length flat.inputs) false) params ∙ length-replicate (length flat.inputs) false in
      let names : regular_next 1 (marks_of flat params) ≤ 1 + length (marks_of flat params) = regular_next-le 1 (marks_of flat params) in
      let marks : length (marks_of flat params) ≡ length flat.inputs = length-marked (replicate (length flat.inputs) false) params ∙ length-replicate (length flat.inputs) false in
      let few_inputs : length flat.inputs ≤ 4194304 = bounds.few_inputs in
      let few_latches : length flat.latches ≤ 4194304 = bounds.few_latches in
      record {
        inputs = inputs;
        covers = length-replicate (length flat.covers) no_lit;
        latches = omega arith;
        small = omega arith;
        input_lits = All-from_get_or (λ (lit : Lit). IsLit g0 lit.0) nets0.inputs no_lit (λ i l.
            let there : i < length flat.inputs = omega arith in
            subst (λ (lit : Lit). IsLit g0 lit.0) (unwrap_or-slice_get nets0.inputs i no_lit)
            (source_below library flat params formed bounds (Input i) (net_lit nets0 (Input i)).0 [] there ((start_sourced flat params bounds.inputs_once are).inputs i there)));
        cover_lits = All-replicate (λ (lit : Lit). IsLit g0 lit.0) (length flat.covers) no_lit (omega arith);
      }

  abbrev final : Built
  final = order_of library flat g0 nets0 flat.order

  known : AreKnown library flat params (record { pairs = []; nets = nets0 }) []
  known = record { count = length-replicate (length flat.covers) no_lit; sourced = start_sourced flat params bounds.inputs_once are; each = λ k i. absurd i }

  abbrev made : Literals
  made = record { pairs = final.pairs; lits = net_lits final.nets (root_nets flat) }

  module _ (values : HasValues library flat) where
    pub roots_made : MakesAll library flat params [] (root_nets flat) made
    roots_made =
        order_made library flat params bounds flat.order (record { pairs = []; nets = nets0 }) known (λ k i. bounds.order_there k i) (root_nets flat) (roots_there library flat bounds)
        (subst (λ ns. PostsAll (reads_at flat) [] ns (reverse flat.order)) (sym (numbers-append (map (λ (o : OutPort). o.net) flat.outputs) (map (λ (l : FlatLatch). l.input) flat.latches))) values.fields.order)

    pub too_many : most < length final.pairs → HasTooManyNodes library flat params most
    too_many l = record { made = made; are_made = roots_made; many = l }

    pub is_graph : (g : Aig) (roots : RootsValue) → g ≡ with_pairs g0 final.pairs → roots ≡ root_lits flat final.nets → IsGraphOf library flat params most g roots
    is_graph g roots same same_roots =
        let os : List FlatNet = map (λ (o : OutPort). o.net) flat.outputs in
        let ls : List FlatNet = map (λ (l : FlatLatch). l.input) flat.latches in
        let a : (root_lits flat final.nets).outputs ≡ net_lits final.nets os = sym (map-map (net_lit final.nets) (λ (o : OutPort). o.net) flat.outputs) in
        let b : (root_lits flat final.nets).next ≡ net_lits final.nets ls = sym (map-map (net_lit final.nets) (λ (l : FlatLatch). l.input) flat.latches) in
        record {
          made = made;
          are_made = roots_made;
          kinds = ap (λ (h : Aig). h.kinds) same;
          pairs = ap (λ (h : Aig). h.pairs) same;
          literals = ap (λ (r : RootsValue). r.outputs ++ r.next) same_roots ∙ ap₂ (λ (p q : List Lit). p ++ q) a b ∙ sym (map-append (net_lit final.nets) os ls);
          outputs = ap (λ (r : RootsValue). length r.outputs) same_roots ∙ length-map flat.outputs (λ (o : OutPort). net_lit final.nets o.net);
          max = ap (λ (h : Aig). h.max) same;
        }

  abbrev graph : Aig
  graph = with_pairs g0 final.pairs

  abbrev graph_roots : RootsValue
  graph_roots = root_lits flat final.nets

  -- under values of the inputs, and states
  module _ (x : List ℕ → Bool) (s : List Bool) (states : length s ≡ length flat.latches) where
    abbrev sources : List Bool
    sources = source_values flat params x s

    abbrev evaluated : List Bool
    evaluated = flat_values library flat (input_values flat x) s

    right : IsRight library flat params formed bounds x s states final evaluated
    right = flat_right library flat params formed bounds x s states nets0 (start_sourced flat params bounds.inputs_once are) refl

    -- some values fit the graph
    fits_made : FitsGraph graph sources (values_of graph sources)
    fits_made = fits_values_of graph sources right.normal
        (omega (arith, states, source_count library flat params formed bounds, length-append (map x (input_names flat params)) s, length-map (input_names flat params) x))

    -- whatever values fit, the roots are the flat circuit's
    module _ (values : List Bool) (fits : FitsGraph graph sources values) where
      net_values : (net : FlatNet) → IsThere flat net → value_of values (net_lit final.nets net).0 ≡ net_value (input_values flat x) s evaluated net
      net_values net there =
          ap (λ vs. value_of vs (net_lit final.nets net).0) (is_values_of graph sources values right.normal fits)
          ∙ net_right library flat params formed bounds x s states final evaluated right net there

      outputs_are : literal_values values graph_roots.outputs ≡ flat_outputs library flat (input_values flat x) s
      outputs_are = values_of_lits values final.nets (input_values flat x) s evaluated (λ (o : OutPort). o.net) flat.outputs (λ o i. net_values o.net (output_there library flat bounds o i))

      next_are : literal_values values graph_roots.next ≡ flat_next library flat (input_values flat x) s
      next_are = values_of_lits values final.nets (input_values flat x) s evaluated (λ (l : FlatLatch). l.input) flat.latches (λ l i. net_values l.input (latch_there library flat bounds l i))

  -- the graph's cycles are the flat circuit's
  flat_cycle : (x : List ℕ → Bool) (s outputs next : List Bool) → IsGraphCycle flat params graph graph_roots x s outputs next → IsFlatCycle library flat (input_values flat x) s outputs next
  flat_cycle x s outputs next c = record {
    states = c.states;
    outputs_are = c.outputs_are ∙ outputs_are x s c.states c.values c.fits;
    next_are = c.next_are ∙ next_are x s c.states c.values c.fits;
  }

  graph_cycle : (x : List ℕ → Bool) (s outputs next : List Bool) → IsFlatCycle library flat (input_values flat x) s outputs next → IsGraphCycle flat params graph graph_roots x s outputs next
  graph_cycle x s outputs next c =
      let values = values_of graph (source_values flat params x s) in
      let fits = fits_made x s c.states in
      record { states = c.states; values = values; fits = fits; outputs_are = c.outputs_are ∙ sym (outputs_are x s c.states values fits); next_are = c.next_are ∙ sym (next_are x s c.states values fits) }

  pub has_cycles : HasCycles library flat → (g : Aig) (roots : RootsValue) → g ≡ graph → roots ≡ graph_roots → HasSourceCycles library flat params g roots
  has_cycles cycles g roots same same_roots =
      let own : MealyMachine (List ℕ → Bool) (List Bool) (List Bool) = graph_machine flat params graph graph_roots in
      let flattened : MealyMachine (List ℕ → Bool) (List Bool) (List Bool) = reading (input_values flat) (flat_machine library flat) in
      subst₂ (HasSourceCycles library flat params) (sym same) (sym same_roots) (record {
        agrees = record {
          forth = refines_on own flattened (library_machine library) (refines_by own flattened flat_cycle (λ s e. e)) (cycles.agrees).back;
          back = refines_on (library_machine library) flattened own (cycles.agrees).forth (refines_by flattened own graph_cycle (λ s e. e));
        };
        one = record {
          outputs = λ x s outputs others next last c d. (flat_cycle x s outputs next c).outputs_are ∙ sym (flat_cycle x s others last d).outputs_are;
          states = λ x s outputs others next last c d. (flat_cycle x s outputs next c).next_are ∙ sym (flat_cycle x s others last d).next_are;
        };
      })
