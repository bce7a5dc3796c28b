-- A job of `pace` that is ready to be played, and the playing of its events.
use Rattle.std.specs.Prelude.{◌≡◌, ℕ, List, [], Option, Result}
use Rattle.list_laws.specs.Members.{In}
use Rattle.cmd_pace.specs.Words.{Files, TemplateValue, PaceValue, pace_values, PacerValue, FitsPacer, Source, PutsAll, IsScriptedSettled}
use Rattle.cmd_pace.specs.declared.prepare.ReadyPace.{ReadyPace}
use Rattle.cmd_pace.specs.Job.{PaceWords, scripted_of, PaceJob, IsPaceJob, StartsPace, IsPaceStart, pacer_header}
use Rattle.cmd_pace.specs.Verdict.{HaveShown, IsShown}

-- each event can be played on it
abbrev pub CanPace : List PaceValue → PacerValue → Type 0
CanPace events p = (event : PaceValue) → In events event → FitsPacer p event

-- a machine at the start of a source circuit by a template, at a rate
abbrev pub StartsAt : Source → TemplateValue → ℕ → PacerValue → Type 0
StartsAt source template rate p = StartsPace source template p × (p.rate ≡ rate)

-- what the files of its job say
pub record IsReadyFor (files : Files) (words : PaceWords) (ready : ReadyPace) : Type 0 where
  pub job : PaceJob
  pub is_job : IsPaceJob files words job
  pub start : IsPaceStart job words.rate ready.pacer
  pub events : job.events ≡ pace_values ready.events.items
  pub settled : IsScriptedSettled files (scripted_of words)

-- how events end, and how a job does with its header
abbrev pub EventsEnd : {E : Type 0} → PacerValue → List PaceValue → Option (List ℕ) → Option (List ℕ) → Result Unit E → Type 0
EventsEnd old events before after result = PutsAll (HaveShown old) IsShown [] events before after result

abbrev pub PlayEnd : {E : Type 0} → PacerValue → List PaceValue → Option (List ℕ) → Option (List ℕ) → Result Unit E → Type 0
PlayEnd old events before after result = PutsAll (HaveShown old) IsShown (pacer_header old) events before after result
