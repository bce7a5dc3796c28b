-- The command `map`: a source circuit is mapped, and its template and the pack of its bits are written.
use Rattle.std.specs.Prelude.{ℕ, not, ◌&&◌, if◌then◌else◌, List, [], ◌∷◌, codes, bytes_eq, Option, Some, None, ◌≡◌}
use Rattle.cmd_map.specs.Words.{Rule, SourceWords, source_words, k_of, source_seen, HasMapped, IsLeastMapped, IsMappedFrom, Files, TemplateValue, Source, HasPack, present_bytes, netlist_text, CommandWalk, FileText, template_header, ToTables, writing_walk, IsTuned, template_of}
use Rattle.cmd_map.specs.declared.map.words.MapWords.{MapWords as MapWordsRead}
use Rattle.std.specs.FinMap.{get}
use Rattle.ppc_pack.specs.Pack.{PackValue}
use Rattle.ppc_file.specs.PackFile.{IsPackFile}
use Rattle.run_text.specs.EventValue.{EventValue}
use Rattle.port_bank.specs.Bank.{BankSeen}
use Rattle.run_core.specs.Events.{MachineValue}
use Rattle.spec_core.specs.Specialiser.{SpecialiserValue}
use Rattle.cmd_stations.specs.Machine.{IsStart, Stage, HasCome}
use Rattle.cmd_stations.specs.Host.{IsHostStart, AreHostSteps}
use Rattle.cmd_stations.specs.Tunable.{IsTunable}

-- the source circuit, and the words that name the files to be written
pub record MapWords : Type 0 where
  pub source : SourceWords
  pub template : List ℕ
  pub pack : List ℕ

abbrev pub map_words : Option SourceWords → List ℕ → List ℕ → Option MapWords
map_words None template pack = None
map_words (Some source) template pack = Some (record { source = source; template = template; pack = pack })

-- the words `map K NETLIST PARAMS TEMPLATE PACK`, of which the last two differ, where cuts are chosen by a rule
abbrev pub map_of : Rule → List (List ℕ) → Option MapWords
map_of rule (command ∷ k ∷ netlist ∷ params ∷ template ∷ pack ∷ []) =
    if bytes_eq command (codes "map") && not (bytes_eq template pack) then map_words (source_words rule (k_of k) netlist params) template pack else None
map_of rule words = None

-- words as they are read
abbrev pub map_seen : MapWordsRead → MapWords
map_seen words = record { source = source_seen words.source; template = words.template.now; pack = words.pack.now }

-- The file in version 2 of the pack of a source circuit's tables.
pub record ReplaysMachine (source : Source) (template : TemplateValue) (pack : PackValue) : Type 0 where
  -- it is that pack's
  pub file : IsPackFile (present_bytes pack) pack
  -- wherever it stands: for events of the host, a host that starts on it puts the lines that a machine of the LUTs puts
  pub lines : (files : Files) (name : List ℕ) (p : PackValue) → get files name ≡ Some (present_bytes pack) → HasPack files name p
      → (h end : SpecialiserValue) (events : List EventValue) (lines : List (List ℕ)) → IsHostStart p h → AreHostSteps h events lines end
      → (script : List EventValue) (m : MachineValue) → IsStart (record { source = source; template = template; events = script }) m
      → (ports : BankSeen) (machine_lines : List (List ℕ)) (stage : Stage) → HasCome m ports events machine_lines stage → lines ≡ machine_lines

-- The source circuit that the files hold was mapped, with the least depth. One file has the netlist of its LUTs with their bits as inputs; the other is the file, in version 2, of the pack of these bits as functions of the parameters. Read again, the
-- netlist has the source circuit's cycles wherever these inputs have the configuration of values of the parameters; and for events of the host the pack is played as the machine of the LUTs plays them.
pub record HasMap (files : Files) (words : MapWords) (Ends : List FileText → List ℕ → Type 0) : Type 0 where
  pub source : Source
  pub template : TemplateValue
  pub mapped : HasMapped files words.source source template
  pub law : IsLeastMapped files words.source source template mapped
  pub pack : PackValue
  pub tunable : IsTunable source template pack
  pub ends : Ends (record { name = words.template; bytes = netlist_text (template_of source template) } ∷ record { name = words.pack; bytes = present_bytes pack } ∷ []) (template_header template)
  pub means : IsTuned source template pack (template_of source template)
  pub replays : ReplaysMachine source template pack

abbrev pub map_walk : MapWords → CommandWalk
map_walk words = writing_walk ToTables words.source (λ files. IsMappedFrom files words.source) (λ files P. HasMap files words P)
