-- The LUTs of a source circuit's graph, under the configuration of any values of the parameters, play the source circuit's cycles.
use Rattle.cmd_stations.proofs.Common.{◌≡◌, ℕ, Bool, List, length, map, refl, sym, ap, ◌∙◌, subst, length-map, In, In-left, In-right, AreOnce, flat_inits, Param, PackParam, param_names, param_inits, is_split, Lit, Aig, first_and, AreNormal, roots_of, lits_of, value_of, HasOneFit, input_names, source_values, literal_values, Lut, TemplateValue, FitsTables, PackValue, IsConf, inits_of, pack_param, IsPackOf, Source, width_of, shape_of, source_machine, HasTables, IsReadSource, HasSourceTables, refines_by, lut_machine, under, IsPlayable}
use Rattle.std.proofs.lemmas.Simd.{map-map}
use Rattle.aig_core.proofs.FitLemmas.{one_fit}
use Rattle.bit_fun.specs.Configuration.{IsMapped, IsLawful}
use Rattle.bit_fun.specs.PackLaw.{HasConfigurations}
use Rattle.bit_fun.proofs.PackLemmas.{pack_made, params_len as pack_params}
use Rattle.lut_sim.proofs.FitLemmas.{cycle_only}
use Rattle.cmd_stations.proofs.SourceLemmas.{next_roots, source_shape, source_params, source_values_are, source_values_count}
use Rattle.cmd_stations.proofs.InputLemmas.{input_at, parts_are}

-- the inputs of a source circuit that was read stand once
names_once : (source : Source) → IsReadSource source → AreOnce (input_names source.netlist.flat source.params.list)
names_once source read = (is_split source.netlist.flat source.params.list read.netlist.bounds.inputs_once read.params).once

-- its tables map its graph
pub tables_mapped : (source : Source) (g : Aig) (t : TemplateValue) → HasTables source g t → IsMapped g t.luts
tables_mapped source g t h = record { k = h.k; roots = roots_of h.roots; bits = t.bits; mapping = h.least.mapping }

-- the template's outputs and next states are among the roots
pub outputs_among : (source : Source) (g : Aig) (t : TemplateValue) (h : HasTables source g t) (l : ℕ) → In (lits_of t.outputs) l → In (roots_of h.roots) l
outputs_among source g t h l i = In-left (lits_of h.roots.outputs) (lits_of h.roots.next) l (subst (λ ls. In (lits_of ls) l) h.chosen.chosen.outputs i)

pub next_among : (source : Source) (g : Aig) (t : TemplateValue) (h : HasTables source g t) (l : ℕ) → In (lits_of t.next) l → In (roots_of h.roots) l
next_among source g t h l i = In-right (lits_of h.roots.outputs) (lits_of h.roots.next) l (subst (λ ls. In (lits_of ls) l) h.chosen.chosen.next i)

-- there is a next state for each latch
pub next_count : (source : Source) (g : Aig) (t : TemplateValue) → HasTables source g t → length t.next ≡ length source.netlist.flat.latches
next_count source g t h = ap (λ (ls : List Lit). length ls) h.chosen.chosen.next ∙ next_roots source g h.roots h.is_graph

-- the pack of tables has the parameters of the list, and a bit of it for each bit of the template
pub pack_param_names : (g : Aig) (luts : List Lut) (list : List Param) (pack : PackValue) → IsPackOf g luts list pack → map (λ (p : PackParam). p.name) pack.params ≡ param_names list
pack_param_names g luts list pack is = ap (map (λ (p : PackParam). p.name)) is.params_are ∙ map-map (λ p. p.name) pack_param list

pub pack_inits : (g : Aig) (luts : List Lut) (list : List Param) (pack : PackValue) → IsPackOf g luts list pack → inits_of pack.params ≡ param_inits list
pack_inits g luts list pack is = ap inits_of is.params_are ∙ map-map (λ p. p.init) pack_param list

pub pack_bits : (source : Source) (g : Aig) (t : TemplateValue) (pack : PackValue) → HasTables source g t → IsPackOf g t.luts source.params.list pack → length pack.bits ≡ t.bits
pack_bits source g t pack h is =
    ap length is.bits ∙ (pack_made g t.luts _ (param_inits _) is.made (tables_mapped source g t h) (source_params source g h.is_graph.kinds) (length-map _ (λ (p : Param). p.init)) is.makes).count ∙ sym h.least.mapping.sum

-- the tables' machine refines the source circuit's, under any values of the parameters
module _ (source : Source) (read : IsReadSource source) (g : Aig) (normal : AreNormal (first_and g) g.pairs) (t : TemplateValue) (h : HasTables source g t) where
  -- the values of the sources, and of the graph
  abbrev sources : (List ℕ → Bool) → List Bool → List Bool
  sources x s = source_values source.netlist.flat source.params.list x s

  values_in : (x : List ℕ → Bool) (s : List Bool) → length s ≡ length source.netlist.flat.latches → HasOneFit g (sources x s)
  values_in x s states = one_fit g (sources x s) normal (source_values_count source g x s h.is_graph.kinds states)

  table_values : (params config values s : List Bool) → IsLawful g t.luts params config → length params ≡ length source.params.list → length values ≡ width_of source → (states : length s ≡ length source.netlist.flat.latches)
      → FitsTables t.luts (shape_of source) config values s (value_of (values_in (input_at source params values) s states).values)
  table_values params config values s law params_len len states =
      let x = input_at source params values in
      law (shape_of source) values s (sources x s) (values_in x s states).values (source_shape source g h.is_graph.kinds) (source_values_are source params values s (names_once source read) params_len len states)
      (values_in x s states).fits

  -- a configuration of the pack has the bits of the template's tables
  lawful : (pack : PackValue) → IsPackOf g t.luts source.params.list pack → HasConfigurations g t.luts pack → (params config : List Bool) → length params ≡ length source.params.list → IsConf pack params config → IsLawful g t.luts params config
  lawful pack is conf params config len = conf.law params config (len ∙ sym (pack_params g t.luts source.params.list pack is))

  pub tables_play : (pack : PackValue) → IsPackOf g t.luts source.params.list pack → HasConfigurations g t.luts pack → IsPlayable t (shape_of source) → HasSourceTables source t pack
  tables_play pack is conf playable = record {
    refines = λ params config params_len is_conf. refines_by (under config (lut_machine t (shape_of source) (flat_inits source.netlist.flat))) (source_machine source params) (λ values s outputs next c.
        let x = input_at source params values in
        let parts = parts_are source (names_once source read) params values params_len c.inputs in
        let graph = values_in x s c.states in
        let fits = table_values params config values s (lawful pack is conf params config params_len is_conf) params_len c.inputs c.states in
        record {
          x = x;
          regular = parts.0;
          parameters = parts.1;
          cycle = (h.cycles.agrees).forth.cycles x s outputs next (record {
            states = c.states;
            values = graph.values;
            fits = graph.fits;
            outputs_are = (c.only).outputs_are (value_of graph.values) fits ∙ ap (literal_values graph.values) h.chosen.chosen.outputs;
            next_are = (c.only).next_are (value_of graph.values) fits ∙ ap (literal_values graph.values) h.chosen.chosen.next;
          });
        })
        (read.netlist.cycles.agrees).back.starts;
    gives = λ params config values s params_len is_conf len states.
        let value : ℕ → Bool = value_of (values_in (input_at source params values) s states).values in
        let fits = table_values params config values s (lawful pack is conf params config params_len is_conf) params_len len states in
        let outputs : List Bool = map value (lits_of t.outputs) in
        let next : List Bool = map value (lits_of t.next) in
        record {
          output = outputs;
          next = next;
          is = record {
            inputs = len;
            states = states;
            is = record { value = value; fits = fits; outputs_are = refl; next_are = refl };
            only = cycle_only t (shape_of source) config values s outputs next value playable fits refl refl;
          };
        };
  }
