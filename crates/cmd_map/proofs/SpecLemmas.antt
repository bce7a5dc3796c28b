-- A job of `spec`: a source circuit that is mapped is accepted, and its written netlist is the verdict's, whole or cut off; and the laws of the walks of `spec` and `map`.
use Rattle.cmd_map.proofs.Common.{◌≡◌, ◌≤◌, Bool, List, [], ◌∷◌, ℕ, length, Some, subst, Result, MOST_BYTES, PortSeen, Files, ShelfSeen, SinkSeen, Aig, param_inits, IsConf, outside, FileText, writing_outcome, Told, IsBegun, Ends, Outcome, WritesAll, MappedSource, template_header, AreMade, ComesPast, RunsSpecialised, specialised_text, writing_ends, SpecWords, HasSpec, spec_walk, least_mapped, same_graph, ToTables, IsMappedFrom, MapWords, map_walk, source_or_not, source_refused_once, HasLaws}
use Rattle.std.proofs.lemmas.List.{length-map}
use Rattle.param_list.specs.declared.params.Param.{Param}
use Rattle.bit_fun.specs.Configuration.{IsConfiguration}
use Rattle.cmd_stations.proofs.InitLemmas.{init_params}

spec_begun : (files : Files) (words : SpecWords) (m : MappedSource) → ComesPast files words.source m → IsBegun (spec_walk words) files
spec_begun files words m past = record { accepted = record { source = m.source; template = m.tables.template; has = past.has }; settled = past.settled }

-- what is written under a configuration of the listed values
module _ (m : MappedSource) (made : AreMade m.source m.tables) (config : List Bool) (conf : IsConf m.tables.pack (param_inits m.source.params.list) config) where
  abbrev texts : List ℕ → List FileText
  texts name = specialised_text m config name ∷ []

  -- it is the configuration specialised from scratch
  config_is : (files : Files) (words : SpecWords) (past : ComesPast files words.source m) → IsConfiguration past.has.mapped.graph m.tables.template.luts (param_inits m.source.params.list) config
  config_is files words past =
      subst (λ (g : Aig). IsConfiguration g m.tables.template.luts (param_inits m.source.params.list) config)
      (same_graph m.source made.tunable.one_graph made.tunable.graph past.has.mapped.graph made.tunable.roots past.has.mapped.roots made.tunable.is_graph past.has.mapped.is_graph)
      (made.tunable.configurations.is (param_inits m.source.params.list) config (init_params m.source m.tables.template m.tables.pack made.tunable) conf)

  -- a job that came past its mapping, and wrote
  module _ (means : RunsSpecialised m config) (words : SpecWords) (old mid new : ShelfSeen) (same : (out : SinkSeen) (ports : List PortSeen) → outside mid out ports ≡ outside old out ports) (few : mid.given ≤ MOST_BYTES) (given : new.given ≡ mid.given) (comes : Told old.files (λ files. ComesPast files words.source m))
      (before after : SinkSeen) (ports : List PortSeen) where
    has_spec : (files : Files) → old.files ≡ Some files → (P : List FileText → List ℕ → Type 0) → P (texts words.out) (template_header m.tables.template) → HasSpec files words P
    has_spec files told P ends =
        let past = comes files told in
        record {
          source = m.source;
          template = m.tables.template;
          mapped = past.has;
          law = least_mapped files words.source m.source m.tables.template past.settled past.has;
          config = config;
          is_config = config_is files words past;
          ends = ends;
          means = means (param_inits m.source.params.list) (length-map m.source.params.list (λ (p : Param). p.init)) conf;
        }

    pub spec_ends : {E : Type 0} (r : Result Unit E) → WritesAll (texts words.out) (template_header m.tables.template) (outside mid before ports) (outside new after ports) r → (o : Outcome) → o ≡ writing_outcome r
        → Ends (spec_walk words) old new (outside old before ports) (outside new after ports) o
    spec_ends r all o is = writing_ends ToTables words.source (λ files. IsMappedFrom files words.source) (λ files P. HasSpec files words P) (texts words.out) (template_header m.tables.template) old mid new same few given
        (λ files told. spec_begun files words m (comes files told)) has_spec before after ports r all o is

-- The laws of the walks of `spec` and `map`: where its files are settled, a source circuit that is mapped isn't refused, and one is refused for one reason.
pub spec_laws : (words : SpecWords) → HasLaws (spec_walk words)
spec_laws words = record {
  not_both = λ files settled has f r refused. source_or_not files words.source settled has.source has.template f r has.has refused;
  one_refusal = λ files settled f e r s one other. source_refused_once files words.source settled f e r s one other;
  shows = λ files old new done. tt;
}

pub map_laws : (words : MapWords) → HasLaws (map_walk words)
map_laws words = record {
  not_both = λ files settled has f r refused. source_or_not files words.source settled has.source has.template f r has.has refused;
  one_refusal = λ files settled f e r s one other. source_refused_once files words.source settled f e r s one other;
  shows = λ files old new done. tt;
}
