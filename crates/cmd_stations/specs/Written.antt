-- What the written netlists of a source circuit mean: read again, they are sound, and their machines refine the source circuit's.
use Rattle.std.specs.Prelude.{◌≡◌, ℕ, Bool, List, ◌++◌, length, map}
use Rattle.cmd_stations.specs.Words.{GivesCycle, GivesRun, Refines, reading, restricted, Denotes, IsFlat, FlatValue, library_machine, IsSound, TemplateValue, PackValue, IsConf, regular_names, free_control, all_bit_names, input_bits, FileText}
use Rattle.blif_write.specs.PlainNetlist.{PlainNetlist, netlist_text, library_of}
use Rattle.blif_write.specs.OwnNames.{naming_of}
use Rattle.blif_write.specs.Netlists.{specialised_netlist, template_netlist}
use Rattle.cmd_stations.specs.declared.source.Source.{Source}
use Rattle.cmd_stations.specs.SourceCircuit.{source_machine}
use Rattle.cmd_stations.specs.declared.mapped.MappedSource.{MappedSource}

-- the values of the regular inputs, by their names
abbrev pub regular_values : Source → (List ℕ → Bool) → List Bool
regular_values source x = map x (regular_names source.netlist.flat source.params.list)

-- Read again, a netlist's text is one sound library. It has a flat circuit, whose inputs are the regular ones, and a main input `NIL` that was a latch's control. It has a run under any values, and its machine refines the source circuit's under these values of the parameters, whatever the inputs have by their names.
pub record RunsAs (source : Source) (params : List Bool) (netlist : PlainNetlist) : Type 0 where
  pub denotes : Denotes (netlist_text netlist) (library_of netlist)
  pub sound : IsSound (library_of netlist)
  pub is_flat : (again : FlatValue) × IsFlat (library_of netlist) again
  pub inputs : (again : FlatValue) → IsFlat (library_of netlist) again → again.inputs ≡ regular_names source.netlist.flat source.params.list ++ free_control source.netlist.flat.control
  pub has_run : (xs : List (List ℕ → Bool)) → GivesRun (library_machine (library_of netlist)) xs
  pub refines : Refines (library_machine (library_of netlist)) (reading (regular_values source) (source_machine source params))

-- the inputs' values, by their names, have the configuration of values of the parameters
abbrev pub HasConfiguration : Source → TemplateValue → PackValue → List Bool → (List ℕ → Bool) → Type 0
HasConfiguration source template pack params x = IsConf pack params (input_bits (naming_of source.netlist.flat source.params.list) template.bits x)

-- Read again, a template's text is one sound library. It has a flat circuit, whose inputs are the regular ones, a main input `NIL` that was a latch's control, and the configuration bits by address. It has a cycle from any states under any values, and a run under any. Where the values have the configuration of values of the parameters, its machine refines the source circuit's under these.
pub record IsTuned (source : Source) (template : TemplateValue) (pack : PackValue) (netlist : PlainNetlist) : Type 0 where
  pub denotes : Denotes (netlist_text netlist) (library_of netlist)
  pub sound : IsSound (library_of netlist)
  pub is_flat : (again : FlatValue) × IsFlat (library_of netlist) again
  pub inputs : (again : FlatValue) → IsFlat (library_of netlist) again
      → again.inputs ≡ regular_names source.netlist.flat source.params.list ++ (free_control source.netlist.flat.control ++ all_bit_names (naming_of source.netlist.flat source.params.list) template.bits)
  pub has_cycle : (x : List ℕ → Bool) (states : List Bool) → length states ≡ length source.netlist.flat.latches → GivesCycle (library_machine (library_of netlist)) x states
  pub has_run : (xs : List (List ℕ → Bool)) → GivesRun (library_machine (library_of netlist)) xs
  pub refines : (params : List Bool) → length params ≡ length source.params.list
      → Refines (restricted (HasConfiguration source template pack params) (library_machine (library_of netlist))) (reading (regular_values source) (source_machine source params))

-- the netlists of a source circuit's tables
abbrev pub specialised_of : Source → TemplateValue → List Bool → PlainNetlist
specialised_of source template config = specialised_netlist source.netlist.flat source.params.list template config

abbrev pub template_of : Source → TemplateValue → PlainNetlist
template_of source template = template_netlist source.netlist.flat source.params.list template

-- The two netlists of a mapped source circuit as files, and what they mean.
module _ (m : MappedSource) where
  -- its netlist under a configuration, which runs as the source circuit under the values of the parameters that have this configuration
  abbrev pub specialised_text : List Bool → List ℕ → FileText
  specialised_text config name = record { name = name; bytes = netlist_text (specialised_of m.source m.tables.template config) }

  abbrev pub RunsSpecialised : List Bool → Type 0
  RunsSpecialised config = (params : List Bool) → length params ≡ length m.source.params.list → IsConf m.tables.pack params config → RunsAs m.source params (specialised_of m.source m.tables.template config)

  -- its template
  abbrev pub template_text : List ℕ → FileText
  template_text name = record { name = name; bytes = netlist_text (template_of m.source m.tables.template) }

  abbrev pub IsTunedSource : Type 0
  IsTunedSource = IsTuned m.source m.tables.template m.tables.pack (template_of m.source m.tables.template)
