-- The walk of `gen`: that of `run` over the generated texts.
use Rattle.std.specs.Prelude.{◌≡◌, ℕ, List, [], ◌∷◌, codes, decimal}
use Rattle.std.specs.List.{concat}
use Rattle.cmd_run.specs.Words.{PortSeen, ShelfSeen, SinkSeen, MachineValue, TemplateValue, FileReading, CommandWalk, portless_walk, Ends, outside, Outcome, template_header, Job, IsLeastMapped, IsOfScripted, IsStart}
use Rattle.cmd_base.specs.Writing.{AreWritten, IsCutInLine}
use Rattle.cmd_base.specs.declared.outcome.File.TheVariants.{Netlist}
use Rattle.cmd_run.specs.declared.gen_command.words.GenWords.{GenWords}
use Rattle.cmd_run.specs.Run.Job.{IsJob, IsRefused, IsSettled}
use Rattle.cmd_run.specs.Run.Verdict.{HasJob}
use Rattle.cmd_run.specs.GenCommand.Case.{case_words, case_files}
use Rattle.cmd_run.specs.GenCommand.Totals.{Totals}

-- the lines that are printed
abbrev pub first_line : GenWords → List ℕ
first_line words = concat (codes "gen " ∷ decimal words.digits ∷ codes " " ∷ decimal words.seed ∷ codes "\n" ∷ [])

abbrev pub last_line : ℕ → ℕ → List ℕ
last_line writes total = concat (codes "rounds 100 writes " ∷ decimal writes ∷ codes " total " ∷ decimal total ∷ codes "\n" ∷ [])

abbrev pub gen_text : GenWords → TemplateValue → ℕ → ℕ → List ℕ
gen_text words template writes total = concat (first_line words ∷ template_header template ∷ last_line writes total ∷ [])

-- the generated texts are a job, whose machine was played from the start on, and this is so of the text that tells its totals
pub record HasGen (words : GenWords) (Ends : List ℕ → Type 0) : Type 0 where
  pub job : Job
  pub is_job : IsJob (case_files words) (case_words words.rule) job
  pub law : IsLeastMapped (case_files words) (case_words words.rule).source job.source job.template is_job.mapped
  pub machine : MachineValue
  pub start : IsStart job machine
  pub writes : ℕ
  pub total : ℕ
  pub end : MachineValue
  pub totals : Totals machine job.events writes total end
  pub ends : Ends (gen_text words job.template writes total)

-- no file is read: what is told of files holds of the generated texts, whatever a shelf has, and a refused one is told as `gen`
abbrev pub gen_reading : GenWords → FileReading
gen_reading words = record {
  HasFiles = λ told files. files ≡ case_files words;
  IsRead = IsOfScripted;
  word = λ file. codes "gen";
  last = Netlist;
  HasGiven = λ file given. Unit {0};
  Reaches = λ files file. ⊥;
  IsRefused = λ files file refusal. IsRefused files (case_words words.rule) file refusal;
  IsSettled = λ files. IsSettled files (case_words words.rule);
}

abbrev pub gen_walk : GenWords → CommandWalk
gen_walk words =
    portless_walk (gen_reading words) (λ files. HasJob files (case_words words.rule)) (λ files old new. HasGen words (λ text. AreWritten [] text old new)) (λ files old new. HasGen words (λ text. IsCutInLine [] text old new))
    (λ files old new. Unit {0}) ⊥

-- how a call ends, whatever shelf and ports there are
abbrev pub GenEnds : GenWords → SinkSeen → SinkSeen → Outcome → Type 0
GenEnds words before after outcome = (old : ShelfSeen) (ports : List PortSeen) → Ends (gen_walk words) old old (outside old before ports) (outside old after ports) outcome
