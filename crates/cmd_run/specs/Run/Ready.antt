-- A job that is ready to be played, and the playing of its events.
use Rattle.std.specs.Prelude.{◌≡◌, ℕ, List, [], Option, Result, Ok, Err}
use Rattle.cmd_run.specs.Words.{In, PortSeen, Files, ShelfSeen, SinkSeen, BankSeen, EventValue, event_values, StepErr, WriteFault, PortFault, MachineValue, FitsPack, FitsShape, outside, Outcome, TemplateValue, Source, Job, IsSourceStart, IsStart, Stage, AreSteps}
use Rattle.run_text.specs.declared.event.Event.{Event}
use Rattle.cmd_base.specs.declared.outcome.Outcome.TheVariants as outcome
use Rattle.cmd_run.specs.declared.run.prepare.Ready.{Ready}
use Rattle.cmd_run.specs.declared.run.words.PortCounts.{PortCounts}
use Rattle.cmd_run.specs.Run.Ends.{HaveServed, IsAllPlayed, IsCutPlaying, IsLostInEvent, RunEnd, IsPlayEnd}
use Rattle.cmd_run.specs.Run.Job.{RunWords, IsJob, IsSettled}

-- each event can be played
pub record CanPlay (events : List EventValue) (m : MachineValue) : Type 0 where
  pub pack : (event : EventValue) → In events event → FitsPack m.host.pack event
  pub shape : (event : EventValue) → In events event → FitsShape m.sim.shape event

-- a machine at the start of a source circuit by a template
abbrev pub StartsOn : Source → TemplateValue → MachineValue → Type 0
StartsOn source template m = IsSourceStart source template m.host.pack m.host.state.params m.host.state.config m.sim

-- what the files of its job say
pub record IsReadyFor (files : Files) (words : RunWords) (ready : Ready) : Type 0 where
  pub job : Job
  pub is_job : IsJob files words job
  pub start : IsStart job ready.machine
  pub events : job.events ≡ event_values ready.events.items
  pub settled : IsSettled files words

-- how events end, seen from their bank
abbrev pub EventsEnd : Stage → List EventValue → Option (List ℕ) → Option (List ℕ) → BankSeen → Result Unit StepErr → Type 0
EventsEnd old events before after new (Ok done) = IsAllPlayed (AreSteps old) [] events before after new
EventsEnd old events before after new (Err WriteFault) = IsCutPlaying (AreSteps old) [] events before after new
EventsEnd old events before after new (Err PortFault) = IsLostInEvent (AreSteps old) [] events before after new

-- how events end, and how all do after their header and the full load, seen from a machine, its bank and the output
module _ (m : MachineValue) (events : List Event) (old new : BankSeen) (before after : SinkSeen) (result : Result Unit StepErr) where
  abbrev pub PlaysEvents : Type 0
  PlaysEvents = EventsEnd (record { machine = m; bank = old }) (event_values events) before.bytes after.bytes new result

  abbrev pub PlaysAll : Type 0
  PlaysAll = RunEnd m (event_values events) old before.bytes after.bytes new result

-- how a ready job does, whatever files there are
abbrev pub PlaysOut : PortCounts → Ready → SinkSeen → SinkSeen → List PortSeen → List PortSeen → Result Unit StepErr → Type 0
PlaysOut counts ready before after ports others result = (shelf : ShelfSeen) → IsPlayEnd counts ready.machine (event_values ready.events.items) (outside shelf before ports) (outside shelf after others) result

-- the ports of a job that ended otherwise than by a fault of the ports
abbrev pub IsServed : PortCounts → List PortSeen → List PortSeen → Result Unit StepErr → Type 0
IsServed counts old new (Ok done) = HaveServed counts old new
IsServed counts old new (Err WriteFault) = HaveServed counts old new
IsServed counts old new (Err PortFault) = Unit {0}

-- the outcome of a job that was played
abbrev pub played_outcome : Result Unit StepErr → Outcome
played_outcome (Ok done) = outcome.Done
played_outcome (Err WriteFault) = outcome.WriteFault
played_outcome (Err PortFault) = outcome.PortFault
