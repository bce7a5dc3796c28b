-- The written netlists of a source circuit mean the source circuit: read again, their cycles and their runs are its own.
use Rattle.cmd_stations.proofs.Common.{◌≡◌, ℕ, Bool, List, [], ◌++◌, length, ap, ◌∙◌, append-nil, LibraryValue, FlatValue, Param, regular_names, TemplateValue, IsConf, IsCycle, Means, free_control, all_bit_names, input_bits, naming_of, PlainNetlist, library_of, Source, SourceTables, source_machine, IsSourceCycle, IsReadSource, AreMade, regular_values, RunsAs, HasConfiguration, IsTuned, specialised_of, template_of, refines_by}
use Rattle.machine.specs.Machine.{reading, restricted}
use Rattle.netlist.specs.Runs.{AreInits, library_machine}
use Rattle.blif_write.proofs.MeaningLemmas.{specialised_denotes, template_denotes, specialised_means, template_means}
use Rattle.cmd_stations.proofs.WrittenTableLemmas.{has_ports}

module _ (source : Source) (read : IsReadSource source) (tables : SourceTables) (made : AreMade source tables) where
  abbrev flat : FlatValue
  flat = source.netlist.flat

  abbrev params : List Param
  params = source.params.list

  abbrev template : TemplateValue
  template = tables.template

  -- a netlist that means the tables, under values of the parameters
  module _ (given : List Bool) (len : length given ≡ length params) (n : PlainNetlist) (bits : List (List ℕ)) (config : (List ℕ → Bool) → List Bool) (means : Means flat params template n bits config) where
    abbrev library : LibraryValue
    library = library_of n

    starts_are : (states : List Bool) → AreInits library states → AreInits source.netlist.library states
    starts_are states inits = (read.netlist.cycles.agrees).back.starts states ((means.refines).starts states inits)

    -- its cycle is the source circuit's, where the tables have a configuration of these values
    cycle_is : (x : List ℕ → Bool) (states outputs next : List Bool) → IsConf tables.pack given (config x) → IsCycle library x states outputs next → IsSourceCycle source given (regular_values source x) states outputs next
    cycle_is x states outputs next conf c = (made.tunable.tables.refines given (config x) len conf).cycles (regular_values source x) states outputs next ((means.refines).cycles x states outputs next c)

  -- The specialised netlist runs as the source circuit.
  pub specialised_runs : (given config : List Bool) → length given ≡ length params → IsConf tables.pack given config → RunsAs source given (specialised_of source template config)
  specialised_runs given config len conf =
      let n : PlainNetlist = specialised_of source template config in
      let means : Means flat params template n [] (λ x. config) = specialised_means flat params template (has_ports source read) made.written config in
      record {
        denotes = specialised_denotes flat params template (has_ports source read) made.written config;
        sound = means.sound;
        is_flat = means.is_flat;
        inputs = λ again h. means.inputs again h ∙ ap (λ (names : List (List ℕ)). regular_names flat params ++ names) (append-nil (free_control flat.control));
        has_run = means.has_run;
        refines = refines_by (library_machine (library_of n)) (reading (regular_values source) (source_machine source given))
            (λ x states outputs next. cycle_is given len n [] (λ x. config) means x states outputs next conf) (starts_are given len n [] (λ x. config) means);
      }

  -- The template is the source circuit wherever its bits have a configuration.
  pub template_tuned : IsTuned source template tables.pack (template_of source template)
  template_tuned =
      let n : PlainNetlist = template_of source template in
      let names : List (List ℕ) = all_bit_names (naming_of flat params) template.bits in
      let config : (List ℕ → Bool) → List Bool = input_bits (naming_of flat params) template.bits in
      let means : Means flat params template n names config = template_means flat params template (has_ports source read) made.written in
      record {
        denotes = template_denotes flat params template (has_ports source read) made.written;
        sound = means.sound;
        is_flat = means.is_flat;
        inputs = means.inputs;
        has_cycle = means.has_cycle;
        has_run = means.has_run;
        refines = λ given len. refines_by (restricted (HasConfiguration source template tables.pack given) (library_machine (library_of n))) (reading (regular_values source) (source_machine source given))
            (λ x states outputs next c. cycle_is given len n names config means x states outputs next c.0 c.1) (starts_are given len n names config means);
      }
