-- The arguments of `pace`, its job in its files, and the machine that it starts.
use Rattle.std.specs.Prelude.{ℕ, ◌≤◌, ◌&&◌, nat_le, if◌then◌else◌, List, [], ◌∷◌, codes, bytes_eq, Option, Some, None, ◌≡◌}
use Rattle.std.specs.Option.{option_and_then}
use Rattle.tl_text.specs.Decimal.{decimal_of}
use Rattle.cover_pick.specs.declared.rule.Rule.{Rule}
use Rattle.run_text.specs.declared.event.Forms.TheVariants as forms
use Rattle.cmd_pace.specs.Words.{SourceWords, source_words, k_of, source_seen, IsTableSize, ScriptedWords, HasScripted, Files, TemplateValue, PaceValue, PacerValue, Source, template_header}
use Rattle.cmd_pace.specs.declared.words.PaceWords.{PaceWords as PaceWordsRead}
use Rattle.run_text.specs.EventValue.{EventValue}
use Rattle.pace_core.specs.PaceText.{AreAsksAndTicks}
use Rattle.cmd_stations.specs.Machine.{IsSourceStart}

-- the source circuit, the word that names the script, and how many bits the configuration port takes a tick
pub record PaceWords : Type 0 where
  pub source : SourceWords
  pub script : List ℕ
  pub rate : ℕ

-- a decimal number from 1 to 2^32 - 1
abbrev pub in_rate : ℕ → Option ℕ
in_rate n = if nat_le 1 n && nat_le n 4294967295 then Some n else None

abbrev pub rate_of : List ℕ → Option ℕ
rate_of word = option_and_then in_rate (decimal_of word)

abbrev pub pace_words : Option SourceWords → List ℕ → Option ℕ → Option PaceWords
pace_words (Some source) script (Some rate) = Some (record { source = source; script = script; rate = rate })
pace_words source script rate = None

-- the words `pace K NETLIST PARAMS SCRIPT RATE`, where cuts are chosen by a rule
abbrev pub pace_of : Rule → List (List ℕ) → Option PaceWords
pace_of rule (command ∷ k ∷ netlist ∷ params ∷ script ∷ rate ∷ []) =
    if bytes_eq command (codes "pace") then pace_words (source_words rule (k_of k) netlist params) script (rate_of rate) else None
pace_of rule words = None

-- words as they are read
abbrev pub pace_seen : PaceWordsRead → PaceWords
pace_seen words = record { source = source_seen words.source; script = words.script.now; rate = words.rate }

-- its source circuit and its script, which has the forms of asks and ticks
abbrev pub scripted_of : PaceWords → ScriptedWords
scripted_of words = record { source = words.source; script = words.script; forms = forms.Pace }

-- the size of the LUTs is from 2 to the most leaves of a cut, and the port takes a bit at least
pub record IsInRange (words : PaceWordsRead) : Type 0 where
  pub size : IsTableSize words.source.k
  pub rate : 1 ≤ words.rate

-- a source circuit, the template that it is mapped to, and the asks and ticks of a script
pub record PaceJob : Type 0 where
  pub source : Source
  pub template : TemplateValue
  pub events : List PaceValue

-- the files hold it
pub record IsPaceJob (files : Files) (words : PaceWords) (job : PaceJob) : Type 0 where
  pub read : List EventValue
  pub is : HasScripted files (scripted_of words) job.source job.template read
  pub events : AreAsksAndTicks read job.events

-- the machine at the start of the source circuit: the device has the configuration of the parameters' listed values
abbrev pub StartsPace : Source → TemplateValue → PacerValue → Type 0
StartsPace source template p = IsSourceStart source template p.pack p.params p.config p.sim

pub record IsPaceStart (job : PaceJob) (rate : ℕ) (p : PacerValue) : Type 0 where
  pub start : StartsPace job.source job.template p
  pub rate_is : p.rate ≡ rate

-- its header line: the numbers of the template
abbrev pub pacer_header : PacerValue → List ℕ
pacer_header p = template_header p.sim.template
