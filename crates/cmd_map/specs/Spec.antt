-- The command `spec`: a source circuit is mapped, and its LUTs are written under the configuration of the listed values.
use Rattle.std.specs.Prelude.{ℕ, if◌then◌else◌, List, [], ◌∷◌, codes, bytes_eq, Option, Some, None, Bool}
use Rattle.cmd_map.specs.Words.{Rule, SourceWords, source_words, k_of, source_seen, HasMapped, IsLeastMapped, IsMappedFrom, Files, TemplateValue, netlist_text, CommandWalk, FileText, Source, template_header, ToTables, writing_walk, RunsAs, specialised_of}
use Rattle.cmd_map.specs.declared.spec.words.SpecWords.{SpecWords as SpecWordsRead}
use Rattle.bit_fun.specs.Configuration.{IsConfiguration}
use Rattle.param_list.specs.Parameters.{param_inits}

-- the source circuit, and the word that names the file to be written
pub record SpecWords : Type 0 where
  pub source : SourceWords
  pub out : List ℕ

abbrev pub spec_words : Option SourceWords → List ℕ → Option SpecWords
spec_words None out = None
spec_words (Some source) out = Some (record { source = source; out = out })

-- the words `spec K NETLIST PARAMS OUT`, where cuts are chosen by a rule
abbrev pub spec_of : Rule → List (List ℕ) → Option SpecWords
spec_of rule (command ∷ k ∷ netlist ∷ params ∷ out ∷ []) = if bytes_eq command (codes "spec") then spec_words (source_words rule (k_of k) netlist params) out else None
spec_of rule words = None

-- words as they are read
abbrev pub spec_seen : SpecWordsRead → SpecWords
spec_seen words = record { source = source_seen words.source; out = words.out.now }

-- The source circuit that the files hold was mapped, with the least depth. The file has the netlist of its LUTs under the configuration of the listed values, specialised from scratch; read again, it runs as the source circuit under these values.
pub record HasSpec (files : Files) (words : SpecWords) (Ends : List FileText → List ℕ → Type 0) : Type 0 where
  pub source : Source
  pub template : TemplateValue
  pub mapped : HasMapped files words.source source template
  pub law : IsLeastMapped files words.source source template mapped
  pub config : List Bool
  pub is_config : IsConfiguration mapped.mapped.graph template.luts (param_inits source.params.list) config
  pub ends : Ends (record { name = words.out; bytes = netlist_text (specialised_of source template config) } ∷ []) (template_header template)
  pub means : RunsAs source (param_inits source.params.list) (specialised_of source template config)

abbrev pub spec_walk : SpecWords → CommandWalk
spec_walk words = writing_walk ToTables words.source (λ files. IsMappedFrom files words.source) (λ files P. HasSpec files words P)
