-- The job of `run`: its arguments, its ports, and what its files hold and are refused for: a mapped source circuit with a script that is run.
use Rattle.std.specs.Prelude.{ℕ, ◌+◌, ◌≤◌, nat_le, if◌then◌else◌, List, [], ◌∷◌, codes, bytes_eq, Option, Some, None, take, drop}
use Rattle.cmd_run.specs.Words.{decimal_of, Rule, SourceWords, k_of, source_seen, ScriptedWords, HasScripted, IsScriptedRefused, IsScriptedSettled, scripted_word, scripted_reading, Files, FileReading, Job, PortSeen, BankSeen}
use Rattle.cut_sets.specs.declared.limits.TheConstants.{MOST_LEAVES}
use Rattle.run_text.specs.declared.event.Forms.TheVariants.{Run}
use Rattle.cmd_run.specs.declared.run.words.PortCounts.{PortCounts}
use Rattle.cmd_run.specs.declared.run.words.RunWords.{RunWords as RunWordsRead}
use Rattle.tl_fault.specs.RefusalValue.{RefusalValue}
use Rattle.cmd_base.specs.declared.outcome.File.{File}

-- the source circuit, the word that names the script, and the ports
pub record RunWords : Type 0 where
  pub source : SourceWords
  pub script : List ℕ
  pub ports : PortCounts

-- two numbers of ports, not more in all than are handed in
abbrev pub counts_of : ℕ → Option ℕ → Option ℕ → Option PortCounts
counts_of ports (Some serving) (Some spares) = if nat_le (serving + spares) ports then Some (record { serving = serving; spares = spares }) else None
counts_of ports serving spares = None

abbrev pub run_words : Rule → List ℕ → List ℕ → List ℕ → Option ℕ → Option PortCounts → Option RunWords
run_words rule netlist params script (Some k) (Some counts) = Some (record { source = record { rule = rule; k = k; netlist = netlist; params = params }; script = script; ports = counts })
run_words rule netlist params script k counts = None

-- the words `run K NETLIST PARAMS SCRIPT PORTS SPARES`, where cuts are chosen by a rule
abbrev pub run_of : Rule → ℕ → List (List ℕ) → Option RunWords
run_of rule ports (command ∷ k ∷ netlist ∷ params ∷ script ∷ serving ∷ spares ∷ []) =
    if bytes_eq command (codes "run") then run_words rule netlist params script (k_of k) (counts_of ports (decimal_of serving) (decimal_of spares)) else None
run_of rule ports words = None

-- words as they are read
abbrev pub run_seen : RunWordsRead → RunWords
run_seen words = record { source = source_seen words.source; script = words.script.now; ports = words.ports }

-- its source circuit and its script, which has the forms of one that is run
abbrev pub scripted_of : RunWords → ScriptedWords
scripted_of words = record { source = words.source; script = words.script; forms = Run }

-- the size of the LUTs is from 2 to the most leaves of a cut, and there are so many ports
pub record IsInRange (ports : ℕ) (words : RunWordsRead) : Type 0 where
  pub least : 2 ≤ words.source.k
  pub most : words.source.k ≤ MOST_LEAVES
  pub within : words.ports.serving + words.ports.spares ≤ ports

-- the files hold it
abbrev pub IsJob : Files → RunWords → Job → Type 0
IsJob files words job = HasScripted files (scripted_of words) job.source job.template job.events

-- the first refusal of its walk, at a file: up to the mapping, then the script's
abbrev pub IsRefused : Files → RunWords → File → RefusalValue → Type 0
IsRefused files words file refusal = IsScriptedRefused files (scripted_of words) file refusal

-- each of its files says one thing, or is refused for one reason
abbrev pub IsSettled : Files → RunWords → Type 0
IsSettled files words = IsScriptedSettled files (scripted_of words)

-- the word that names each of its files
abbrev pub run_word : RunWords → File → List ℕ
run_word words file = scripted_word (scripted_of words) file

-- how its files are read
abbrev pub run_reading : RunWords → FileReading
run_reading words = scripted_reading (scripted_of words)

-- the ports that are handed in, before the first write
abbrev pub bank_of : PortCounts → List PortSeen → BankSeen
bank_of counts ports = record {
  serving = take counts.serving ports;
  spares = take counts.spares (drop counts.serving ports);
  rest = drop (counts.serving + counts.spares) ports;
  failed = [];
}
