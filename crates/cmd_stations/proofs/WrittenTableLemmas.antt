-- The LUTs of a source circuit that was read can be written: they are few, their numbers are small, and an output that is a regular input has this input as its root.
use Rattle.cmd_stations.proofs.Common.{◌≡◌, ℕ, zero, suc, ◌+◌, ◌-◌, ◌*◌, ◌/◌, ◌^◌, ◌<◌, ◌≤◌, Bool, true, cond, ◌&&◌, leb, ltb, List, [], length, map, Some, refl, sym, ap, ◌∙◌, inl, inr, subst, subst₂, arith, slice_get, slice_index_or, option_map, and_from, or_left, le-leb, none-some, same_Some, slice_get-map, slice_get_within, get_or_from_slice_get, In, place_in, length-filter_le, get_left, AreOnce, LibraryValue, FlatLatch, OutPort, FlatValue, Places, IsFlat, IsNumbered, IsNetOf, AreNetsOf, In-filter, Param, param_names, regular_names, is_split, Lit, Pair, Aig, node_count, GRAPH_ROOM, Literals, input_names, IsSourceLiteral, Makes, a_source, MakesAll, none, more, Lut, IsTableOf, bits_of, TemplateValue, IsPlayable, is_regular, last_source, HasPorts, AreTablesOf, naming_of, literal_name, latch_name, Source, shape_of, HasTables, IsReadSource, rules, FlatNet}
use Rattle.netlist.specs.declared.flat.FlatNet.TheVariants.{Input, Latch}
use Rattle.netlist.specs.Flat as flat_fields
use Rattle.netlist.specs.Instances.{IsMainInput}
use Rattle.netlist.specs.Models.{has_name}
use Rattle.netlist.specs.Nets.{Net, input_net, Drives, main_input}
use Rattle.netlist.proofs.NetLemmas.{one_net}
use Rattle.tl_text.proofs.NameSetLemmas.{in_has}
use Rattle.list_laws.proofs.Apart.{apart_once}
use Rattle.aig_core.specs.And.{Answer}
use Rattle.aig_build.specs.NetlistGraph as graph
use Rattle.cover_pick.specs.Mapping as mapping
use Rattle.cover_pick.proofs.BitsLemmas.{bits_worked}
use Rattle.blif_write.specs.Writable.{CanBeNamed, AreRootsOf}
use Rattle.blif_write.proofs.OwnNameLemmas.{source_literal}
use Rattle.blif_write.proofs.PortLemmas.{ports_there}
use Rattle.cmd_stations.proofs.SourceLemmas.{source_count}
use Rattle.cmd_stations.proofs.ShowLemmas.{next_count}

-- the net of an output is made into the root at its place
record IsMade (library : LibraryValue) (flat : FlatValue) (params : List Param) (net : FlatNet) (lit : ℕ) : Type 0 where
  before : List Pair
  answer : Answer
  makes : Makes library flat params before net answer
  is : lit ≡ answer.lit

made_at : (library : LibraryValue) (flat : FlatValue) (params : List Param) {pairs : List Pair} {nets : List FlatNet} {made : Literals} → MakesAll library flat params pairs nets made → (i : ℕ) (net : FlatNet) (lit : Lit)
    → slice_get nets i ≡ Some net → slice_get made.lits i ≡ Some lit → IsMade library flat params net lit.0
made_at library flat params (none no_nets is) i net lit at there = absurd (none-some net (sym (ap (λ (ns : List FlatNet). slice_get ns i) no_nets) ∙ at))
made_at library flat params {pairs = pairs} (more first rest this others are one all is) zero net lit at there = grind (arith, same_Some, library, flat)
made_at library flat params (more first rest this others are one all is) (suc i) net lit at there = grind (arith, library, flat, made_at library flat params all i net lit (sym (ap (λ (ns : List FlatNet). slice_get ns (suc i)) are) ∙ at) (sym (ap (λ (m : Literals). slice_get m.lits (suc i)) is) ∙ there))

-- an input's net is made into its source's literal
made_input : (library : LibraryValue) (flat : FlatValue) (params : List Param) {pairs : List Pair} {net : FlatNet} {answer : Answer} → Makes library flat params pairs net answer → (j : ℕ) → net ≡ Input j → IsSourceLiteral flat params net answer.lit
made_input library flat params {net = net} (a_source lit s is) j e = subst (λ (l : ℕ). IsSourceLiteral flat params net l) (sym (ap (λ (a : Answer). a.lit) is)) s
made_input library flat params (graph.Makes.a_cover k c cover inputs is there behind made one) j e = absurd (let wrong : ⊥ = cc in wrong)

record IsPlaced (flat : FlatValue) (params : List Param) (name : List ℕ) (lit : ℕ) : Type 0 where
  place : ℕ
  at : slice_get (input_names flat params) place ≡ Some name
  is : lit ≡ 2 * (1 + place)

placed_at : (flat : FlatValue) (params : List Param) (net : FlatNet) (lit j : ℕ) (name : List ℕ) → IsSourceLiteral flat params net lit → net ≡ Input j → slice_get flat.inputs j ≡ Some name → IsPlaced flat params name lit
placed_at flat params net lit j name (graph.IsSourceLiteral.an_input i place other e there at is) same here = grind arith
placed_at flat params net lit j name (graph.IsSourceLiteral.a_latch k e is) same here = absurd (let numbers : Latch k ≡ Input j = sym e ∙ same in let wrong : ⊥ = cc in wrong)

-- the nets of names by their places
net_at : (library : LibraryValue) (at : Places) {path : List ℕ} {names : List (List ℕ)} {numbers : List FlatNet} → AreNetsOf library at path names numbers → (i : ℕ) (name : List ℕ) (number : FlatNet)
    → slice_get names i ≡ Some name → slice_get numbers i ≡ Some number → IsNetOf library at path name number
net_at library at flat_fields.AreNetsOf.none i name number here there = absurd (none-some name here)
net_at library at {path = path} (flat_fields.AreNetsOf.more first names one numbers is are) zero name number here there = grind arith
net_at library at (flat_fields.AreNetsOf.more first names one numbers is are) (suc i) name number here there = net_at library at are i name number here there

-- the number of an input's net is that of a name's net
record IsInputNumber (flat : FlatValue) (name : List ℕ) (number : FlatNet) : Type 0 where
  place : ℕ
  is : number ≡ Input place
  at : slice_get flat.inputs place ≡ Some name

input_number : (flat : FlatValue) (at : Places) (net : Net) (name : List ℕ) (number : FlatNet) → at.inputs ≡ flat.inputs → IsNumbered at net number → net ≡ input_net name → IsInputNumber flat name number
input_number flat at net name number places (flat_fields.IsNumbered.an_input other j e there is) same = search rules
input_number flat at net name number places (flat_fields.IsNumbered.a_latch p j e there is) same = absurd (let wrong : ⊥ = cc in wrong)
input_number flat at net name number places (flat_fields.IsNumbered.a_cover p j e there is) same = absurd (let wrong : ⊥ = cc in wrong)

module _ (source : Source) (read : IsReadSource source) where
  abbrev library : LibraryValue
  library = source.netlist.library

  abbrev flat : FlatValue
  flat = source.netlist.flat

  abbrev params : List Param
  params = source.params.list

  abbrev fields : IsFlat library flat
  fields = read.netlist.flat

  -- its inputs and outputs as they are written
  pub has_ports : HasPorts flat
  has_ports = ports_there library flat read.netlist.sound read.netlist.clean fields

  once : AreOnce (input_names flat params)
  once = (is_split flat params read.netlist.bounds.inputs_once read.params).once

  -- a regular input is an input of the main model, which is driven by itself only
  regular_in : (name : List ℕ) → In (regular_names flat params) name → In flat.inputs name
  regular_in name i = (In-filter _ flat.inputs name i).0

  main_in : (name : List ℕ) → In flat.inputs name → IsMainInput library name
  main_in name i = record {
    model = fields.main;
    at = fields.is_main;
    is = or_left (has_name fields.main.inputs name) (has_name fields.main.clocks name) (in_has fields.main.inputs name (In-filter _ fields.main.inputs name (subst (λ (ns : List (List ℕ)). In ns name) fields.inputs i)).0);
  }

  output_net : (i : ℕ) (o : OutPort) → slice_get flat.outputs i ≡ Some o → IsNetOf library fields.at [] o.name o.net
  output_net i o at =
      net_at library fields.at fields.outputs i o.name o.net
      (subst (λ (ns : List (List ℕ)). slice_get ns i ≡ Some o.name) fields.output_names (slice_get-map (λ (p : OutPort). p.name) flat.outputs i ∙ ap (λ p. option_map (λ (q : OutPort). q.name) p) at))
      (slice_get-map (λ (p : OutPort). p.net) flat.outputs i ∙ ap (λ p. option_map (λ (q : OutPort). q.net) p) at)

  output_input : (i : ℕ) (o : OutPort) → slice_get flat.outputs i ≡ Some o → In (regular_names flat params) o.name → IsInputNumber flat o.name o.net
  output_input i o at regular =
      let n : IsNetOf library fields.at [] o.name o.net = output_net i o at in
      input_number flat fields.at n.net o.name o.net fields.places n.numbered (one_net library read.netlist.sound.driven n.drives (main_input refl (main_in o.name (regular_in o.name regular)) refl))

  module _ (g : Aig) (t : TemplateValue) (tables : HasTables source g t) where
    -- the literal of an output's root
    root_made : (i : ℕ) (o : OutPort) (lit : Lit) → slice_get flat.outputs i ≡ Some o → slice_get t.outputs i ≡ Some lit → IsMade library flat params o.net lit.0
    root_made i o lit at there =
        made_at library flat params tables.is_graph.are_made i o.net lit
        (get_left (map (λ (p : OutPort). p.net) flat.outputs) (map (λ (l : FlatLatch). l.input) flat.latches) i o.net (slice_get-map (λ (p : OutPort). p.net) flat.outputs i ∙ ap (λ p. option_map (λ (q : OutPort). q.net) p) at))
        (subst (λ (ls : List Lit). slice_get ls i ≡ Some lit) tables.is_graph.literals
        (get_left tables.roots.outputs tables.roots.next i lit (subst (λ (ls : List Lit). slice_get ls i ≡ Some lit) tables.chosen.chosen.outputs there)))

    -- the place of a regular input among the sources
    regular_place : (place : ℕ) (name : List ℕ) → slice_get (input_names flat params) place ≡ Some name → In (regular_names flat params) name → slice_get (regular_names flat params) place ≡ Some name
    regular_place place name at i =
        let r : (k : ℕ) × (slice_get (regular_names flat params) k ≡ Some name) = place_in (regular_names flat params) name i in
        let same : r.0 ≡ place = apart_once (input_names flat params) r.0 place name once (get_left (regular_names flat params) (param_names params) r.0 name r.1) at in
        subst (λ (k : ℕ). slice_get (regular_names flat params) k ≡ Some name) same r.1

    -- its positive literal has its name
    input_name : (place : ℕ) (name : List ℕ) → slice_get (regular_names flat params) place ≡ Some name → literal_name (naming_of flat params) (2 * (1 + place)) ≡ name
    input_name place name at =
        let names : List (List ℕ) = regular_names flat params in
        let within : place < length names = slice_get_within names place name at in
        let low : 1 ≤ 1 + place = omega arith in
        let high : 1 + place ≤ length names = omega (arith, within) in
        let back : 1 + place - 1 ≡ place = omega arith in
        let regular : is_regular (naming_of flat params).shape (1 + place) ≡ true =
        or_left (leb 1 (1 + place) && leb (1 + place) (length names)) (ltb (length names + length params) (1 + place) && leb (1 + place) (last_source (naming_of flat params).shape))
        (and_from (leb 1 (1 + place)) (leb (1 + place) (length names)) (le-leb 1 (1 + place) low) (le-leb (1 + place) (length names) high)) in
        source_literal (naming_of flat params) (1 + place) regular
        ∙ ap (λ (b : Bool). cond b (slice_index_or names (1 + place - 1) []) (latch_name (naming_of flat params) (1 + place - 1 - (length names + length params)))) (le-leb (1 + place) (length names) high)
        ∙ ap (λ (k : ℕ). slice_index_or names k []) back ∙ get_or_from_slice_get names place name [] at

    fed : (i : ℕ) (o : OutPort) (lit : Lit) → slice_get flat.outputs i ≡ Some o → slice_get t.outputs i ≡ Some lit → In (regular_names flat params) o.name → literal_name (naming_of flat params) lit.0 ≡ o.name
    fed i o lit at there regular =
        let number : IsInputNumber flat o.name o.net = output_input i o at regular in
        let made : IsMade library flat params o.net lit.0 = root_made i o lit at there in
        let placed : IsPlaced flat params o.name made.answer.lit = placed_at flat params o.net made.answer.lit number.place o.name (made_input library flat params made.makes number.place number.is) number.is number.at in
        ap (λ (l : ℕ). literal_name (naming_of flat params) l) (made.is ∙ placed.is) ∙ input_name placed.place o.name (regular_place placed.place o.name placed.at regular)

    -- one root for each output and each latch
    roots_are : AreRootsOf flat t
    roots_are = record { outputs = ap (λ (ls : List Lit). length ls) tables.chosen.chosen.outputs ∙ tables.is_graph.outputs; next = next_count source g t tables }

    -- there are few sources
    few_kinds : length g.kinds ≤ 8454143
    few_kinds =
        let kinds : length g.kinds ≡ length (regular_names flat params) + length params + length flat.latches = source_count source g tables.roots tables.is_graph in
        let regular : length (regular_names flat params) ≤ length flat.inputs = length-filter_le _ flat.inputs in
        let inputs : length flat.inputs ≤ 4194304 = read.netlist.bounds.few_inputs in
        let latches : length flat.latches ≤ 4194304 = read.netlist.bounds.few_latches in
        let listed : length params ≤ 65535 = read.params.named.few in
        omega (arith, kinds, regular, inputs, latches, listed)

    -- so the numbers of the tables are small
    small_node : (k : ℕ) (u : Lut) → IsTableOf g k u → u.lit.0 / 2 < node_count g
    small_node k u (mapping.IsTableOf.source is odd leaves) = let within : u.lit.0 / 2 - 1 < length g.kinds = slice_get_within g.kinds (u.lit.0 / 2 - 1) _ is.is in omega (arith, within)
    small_node k u (mapping.IsTableOf.free (inl zero_node) leaves) = omega (arith, zero_node)
    small_node k u (mapping.IsTableOf.free (inr is) leaves) = let within : u.lit.0 / 2 - 1 < length g.kinds = slice_get_within g.kinds (u.lit.0 / 2 - 1) _ is.is in omega (arith, within)
    small_node k u (mapping.IsTableOf.node is cut) = is.1

    small : length g.pairs ≤ GRAPH_ROOM → (u : Lut) → In t.luts u → u.lit.0 < 2 ^ 32
    small nodes u i =
        let below : u.lit.0 / 2 < node_count g = small_node tables.k u (tables.least.mapping.table u i) in
        let kinds : length g.kinds ≤ 8454143 = few_kinds in
        let pairs : length g.pairs ≤ 1048576 = nodes in
        omega (arith, below, kinds, pairs)

    few_bits : t.bits < 2 ^ 32
    few_bits =
        let sum : t.bits ≡ bits_of t.luts = tables.least.mapping.sum in
        let worked : bits_of t.luts ≤ tables.chosen.light.work = bits_worked g t.luts tables.chosen.light.work tables.chosen.light.is in
        let light : tables.chosen.light.work ≤ 33554432 = tables.chosen.light.light in
        omega (arith, sum, worked, light)

    -- The tables can be written.
    pub tables_written : length g.pairs ≤ GRAPH_ROOM → IsPlayable t (shape_of source) → AreTablesOf flat params t
    tables_written nodes playable = record {
      roots = roots_are;
      playable = playable;
      few_latches = let latches : length flat.latches ≤ 4194304 = read.netlist.bounds.few_latches in omega (arith, latches);
      few_bits = few_bits;
      small = small nodes;
      fed = fed;
    }

  -- and the regular inputs, once their places are found
  pub can_be_named : (regular : List ℕ) → map (slice_get flat.inputs) regular ≡ map (λ (name : List ℕ). Some name) (regular_names flat params) → CanBeNamed flat params regular
  can_be_named regular places = record {
    few_inputs = let inputs : length flat.inputs ≤ 4194304 = read.netlist.bounds.few_inputs in omega (arith, inputs);
    few_params = let listed : length params ≤ 65535 = read.params.named.few in omega (arith, listed);
    few_latches = let latches : length flat.latches ≤ 4194304 = read.netlist.bounds.few_latches in omega (arith, latches);
    places = places;
    under = λ o i. (has_ports.outputs o i).under;
  }
