-- The script that a file holds, and a mapped source circuit with its script: the walk through NETLIST, PARAMS, the mapping and SCRIPT.
use Rattle.std.specs.Prelude.{◌≡◌, ℕ, List, ◌∷◌, ◌++◌, Some}
use Rattle.cmd_stations.specs.Words.{RefusalValue, Files, EventValue, NamesValue, Forms, param_names, FileReading, shelf_reading, too_long, File, Netlist, Params, Script, Pack, Cert, TemplateValue}
use Rattle.run_text.specs.declared.event.Forms.TheVariants.{Run}
use Rattle.run_text.specs.ScriptText.{IsScript, HasOneReading}
use Rattle.cmd_stations.specs.declared.source.Source.{Source}
use Rattle.cmd_stations.specs.SourceCircuit.{width_of}
use Rattle.cmd_stations.specs.Texts.{HasText, IsLongText, IsScriptRefusal}
use Rattle.cmd_stations.specs.declared.scripted.ScriptedWords.{ScriptedWords as ScriptedWordsRead}
use Rattle.cmd_stations.specs.Source.{SourceWords, source_seen, HasMapped, ReachesSource, IsSourceRefused, source_word, IsSourceSettled}
use Rattle.cmd_stations.specs.Mapped.{ToTables}

-- what a script by these forms may name, where a source circuit is mapped to so many configuration bits
abbrev pub names_in : Forms → Source → ℕ → NamesValue
names_in forms source bits = record { forms = forms; params = param_names source.params.list; width = Some (width_of source); bits = bits }

-- by those of a script that is run
abbrev pub names_of : Source → ℕ → NamesValue
names_of source bits = names_in Run source bits

-- its events
pub record HasScript (files : Files) (name : List ℕ) (names : NamesValue) (events : List EventValue) : Type 0 where
  pub text : List ℕ
  pub there : HasText files name text
  pub is : IsScript names text events

-- an event of a script, after others
pub record IsSplit {Event : Type 0} (events before : List Event) (event : Event) : Type 0 where
  pub after : List Event
  pub is : events ≡ before ++ event ∷ after

-- it is too long, or its text is refused
pub data IsScriptRefused (files : Files) (name : List ℕ) (names : NamesValue) (file : File) (refusal : RefusalValue) : Type 0 where
  long : file ≡ Script → IsLongText files name → refusal ≡ too_long → IsScriptRefused files name names file refusal
  text : file ≡ Script → (text : List ℕ) → HasText files name text → IsScriptRefusal names text refusal → IsScriptRefused files name names file refusal

-- it says one thing, or is refused for one reason
abbrev pub IsScriptSettled : Files → List ℕ → NamesValue → Type 0
IsScriptSettled files name names = (text : List ℕ) → HasText files name text → HasOneReading names text

abbrev pub IsScriptFile : File → Type 0
IsScriptFile Netlist = ⊥
IsScriptFile Params = ⊥
IsScriptFile Script = Unit {0}
IsScriptFile Pack = ⊥
IsScriptFile Cert = ⊥

-- how it is read
abbrev pub script_reading : List ℕ → NamesValue → FileReading
script_reading name names = shelf_reading IsScriptFile (λ file. name) Script (λ files file. Unit {0}) (λ files. IsScriptRefused files name names) (λ files. IsScriptSettled files name names)

-- the source circuit, the word that names the script, and its forms
pub record ScriptedWords : Type 0 where
  pub source : SourceWords
  pub script : List ℕ
  pub forms : Forms

-- the words as they are read
abbrev pub scripted_seen : ScriptedWordsRead → ScriptedWords
scripted_seen words = record { source = source_seen words.source; script = words.script.now; forms = words.forms }

-- the files hold a mapped source circuit and these events
pub record HasScripted (files : Files) (words : ScriptedWords) (source : Source) (template : TemplateValue) (events : List EventValue) : Type 0 where
  pub mapped : HasMapped files words.source source template
  pub script : HasScript files words.script (names_in words.forms source template.bits) events

-- the first refusal of this walk, at a file: up to the mapping, then the script's
pub data IsScriptedRefused (files : Files) (words : ScriptedWords) (file : File) (refusal : RefusalValue) : Type 0 where
  source : IsSourceRefused ToTables files words.source file refusal → IsScriptedRefused files words file refusal
  script : (source : Source) (template : TemplateValue) → HasMapped files words.source source template → IsScriptRefused files words.script (names_in words.forms source template.bits) file refusal → IsScriptedRefused files words file refusal

-- each of its files says one thing, or is refused for one reason
pub record IsScriptedSettled (files : Files) (words : ScriptedWords) : Type 0 where
  pub source : IsSourceSettled ToTables files words.source
  pub script : (source : Source) (template : TemplateValue) → HasMapped files words.source source template → IsScriptSettled files words.script (names_in words.forms source template.bits)

-- its files, and the word that names each; it has no pack and no certificate
abbrev pub IsOfScripted : File → Type 0
IsOfScripted Netlist = Unit {0}
IsOfScripted Params = Unit {0}
IsOfScripted Script = Unit {0}
IsOfScripted Pack = ⊥
IsOfScripted Cert = ⊥

abbrev pub scripted_word : ScriptedWords → File → List ℕ
scripted_word words Script = words.script
scripted_word words file = source_word words.source file

-- how its files are read
abbrev pub scripted_reading : ScriptedWords → FileReading
scripted_reading words = shelf_reading IsOfScripted (scripted_word words) Script (λ files. ReachesSource files words.source) (λ files. IsScriptedRefused files words) (λ files. IsScriptedSettled files words)
