-- How a job of `run` ends: what is in the output and in the ports.
use Rattle.std.specs.Prelude.{◌≡◌, ◌⊎◌, ℕ, ◌+◌, List, length, Option, Result, Ok, Err}
use Rattle.tl_io.specs.Causes.{Rose}
use Rattle.cmd_run.specs.Words.{extended, PortSeen, Files, writes_from, EventValue, BankSeen, all_ports, StepErr, WriteFault, PortFault, MachineValue, IsPlayed, event_line, Outside, Job, IsLeastMapped, IsStart, machine_header, Stage, IsStep, HasCome, IsSplit}
use Rattle.port_bank.specs.Moves.{Becomes, FallsShort, LosesPlace}
use Rattle.run_core.specs.Ends.{LosesRegion, HasLost}
use Rattle.cmd_run.specs.declared.run.words.PortCounts.{PortCounts}
use Rattle.cmd_run.specs.Run.Job.{RunWords, IsJob, bank_of}
use Rattle.cmd_stations.specs.Playing.{AreAllPut, IsCutInFront, IsCutInLine}

-- an event was played and its writes were sent, and this is its line
abbrev pub PutsStep : EventValue → Stage → List ℕ → Stage → Type 0
PutsStep event old line new = IsStep event old new × (line ≡ event_line event new.machine)

-- what is put of some events, seen from a bank
module _ (Come : List EventValue → List (List ℕ) → Stage → Type 0) (front : List ℕ) (events : List EventValue) (before after : Option (List ℕ)) (new : BankSeen) where
  -- Each event was played and its writes were sent, and the output grew by the text in front and a line an event.
  pub record IsAllPlayed : Type 0 where
    pub stage : Stage
    pub put : AreAllPut Come front events before stage after
    pub bank : new ≡ stage.bank

  -- a fault of writing in an event's line, whose own writes were sent
  pub record IsCutPlaying : Type 0 where
    pub cut : IsCutInLine Come PutsStep front events before after
    pub bank : new ≡ cut.end.bank

  -- a fault of the ports in the send of an event, which was played: the lines before it stand, and no byte of its own
  pub record IsLostInEvent : Type 0 where
    pub first : List EventValue
    pub event : EventValue
    pub split : IsSplit events first event
    pub mid : Stage
    pub put : AreAllPut Come front first before mid after
    pub next : MachineValue
    pub played : IsPlayed event mid.machine next
    pub lost : HasLost event next.host mid.bank new
    pub short : FallsShort mid.bank new
    pub place : LosesPlace mid.bank new

module _ (m : MachineValue) (events : List EventValue) (old : BankSeen) (before after : Option (List ℕ)) (new : BankSeen) where
  -- a fault of writing in the header: only a prefix of it is put, and nothing was sent
  pub record IsCutInHeader : Type 0 where
    pub cut : IsCutInFront (machine_header m) before after
    pub bank : new ≡ old

  -- a fault of the ports in the full load: the header stands alone
  pub record IsLostInLoad : Type 0 where
    pub load : LosesRegion m.host.state.config (writes_from 0 m.host.state.config) old new
    pub short : FallsShort old new
    pub place : LosesPlace old new
    pub bytes : after ≡ extended before (machine_header m)

  -- how a job ends after its header and the full load of its ports, seen from its bank
  abbrev pub RunEnd : Result Unit StepErr → Type 0
  RunEnd (Ok done) = IsAllPlayed (HasCome m old) (machine_header m) events before after new
  RunEnd (Err WriteFault) = IsCutInHeader ⊎ IsCutPlaying (HasCome m old) (machine_header m) events before after new
  RunEnd (Err PortFault) = IsLostInLoad ⊎ IsLostInEvent (HasCome m old) (machine_header m) events before after new

-- seen from the ports that were handed in
pub record IsPlayEnd (counts : PortCounts) (m : MachineValue) (events : List EventValue) (old new : Outside) (result : Result Unit StepErr) : Type 0 where
  pub bank : BankSeen
  pub end : RunEnd m events (bank_of counts old.ports) old.bytes new.bytes bank result
  pub ports : new.ports ≡ all_ports bank
  pub cause : result ≡ Err WriteFault → Rose old.put_faults new.put_faults

-- the files hold a job, whose source circuit is sound and mapped with the least depth, its machine is at the start, and this is so of its playing
pub record HasRun (files : Files) (words : RunWords) (old new : Outside) (result : Result Unit StepErr) : Type 0 where
  pub job : Job
  pub is_job : IsJob files words job
  pub law : IsLeastMapped files words.source job.source job.template is_job.mapped
  pub machine : MachineValue
  pub start : IsStart job machine
  pub kept : new.files ≡ old.files
  pub ends : IsPlayEnd words.ports machine job.events old new result

-- The ports that serve and stand by were called, whatever was written, and spares took the places of those that failed: so the list is that of the bank after these calls.
pub record HaveServed (counts : PortCounts) (old new : List PortSeen) : Type 0 where
  pub bank : BankSeen
  pub becomes : Becomes (bank_of counts old) bank
  pub are : new ≡ all_ports bank

-- and then a port failed while no spare was left: all the spares failed and one port more, and they stand at the end of the list
pub record HaveFailed (counts : PortCounts) (old new : List PortSeen) : Type 0 where
  pub bank : BankSeen
  pub short : FallsShort (bank_of counts old) bank
  pub many : length bank.failed ≡ counts.spares + 1
  pub are : new ≡ all_ports bank
