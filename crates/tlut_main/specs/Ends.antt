-- How a call of a program ends: as the top call does over the system's files, stdout and the program's ports, or by a fault that only the program knows.
use Rattle.std.specs.Prelude.{◌≡◌, ◌⊎◌, ◌↔◌, ℕ, List, [], None, false, length}
use Rattle.tl_io.specs.StdSinkValue.{sink_of_std}
use Rattle.tl_io.specs.declared.file_port.TheConstants.{PORT_FILES}
use Rattle.cmd_base.specs.FaultLine.{Reports}
use Rattle.cmd_base.specs.declared.outcome.Outcome.TheVariants as outcome
use Rattle.cmd_base.specs.declared.status.Status.TheVariants as status
use Rattle.tlut_cli.specs.Words.{Rule, PortSeen, ShelfSeen, SinkSeen, status_of, Outcome, Status}
use Rattle.tlut_cli.specs.Call.{world_of}
use Rattle.tlut_cli.specs.Commands.{command_of, line_of}
use Rattle.tlut_cli.specs.Meaning.{HasMeaning, HasOutcome}

-- What a program has around a call, before or after, besides stdout: the shelf, the ports and stderr.
pub record Around : Type 0 where
  pub shelf : ShelfSeen
  pub ports : List PortSeen
  pub err : SinkSeen

abbrev pub around : ShelfSeen → List PortSeen → SinkSeen → Around
around shelf ports err = record { shelf = shelf; ports = ports; err = err }

-- stdout as the top call gets it
abbrev pub new_output : SinkSeen
new_output = sink_of_std (record { contents = None; faults = 0 })

-- the shelf is as the top call left it, or moreover the file that was being written has been ended
abbrev pub IsLeft : ShelfSeen → ShelfSeen → Type 0
IsLeft left new = (new ≡ left) ⊎ (new ≡ record left { is_writing = false })

-- a call that was done is reported as a fault of writing
pub record IsLate (before : Status) (err told : SinkSeen) (s : Status) : Type 0 where
  pub was_done : before ≡ status.Done
  pub is : s ≡ status.WriteFault
  pub line : Reports err told (line_of [] outcome.WriteFault)

-- before the top call a fault ended the call: its line was written, and no file was begun
pub record IsStopped (shelf later : ShelfSeen) (err told : SinkSeen) (o : Outcome) (s : Status) : Type 0 where
  pub is : s ≡ status_of o
  pub same_shelf : later ≡ shelf
  pub line : Reports err told (line_of [] o)

-- there was no memory for the ports, and no line was written
pub record IsUnheard (shelf later : ShelfSeen) (err told : SinkSeen) (s : Status) : Type 0 where
  pub is : s ≡ status.Memory
  pub same_shelf : later ≡ shelf
  pub same_err : told ≡ err

module _ (rule : Rule) (words : List (List ℕ)) where
  -- the top call by this rule with these arguments ended so, and wrote its line
  pub record IsCalled (old new : Around) (s : Status) : Type 0 where
    pub left : ShelfSeen
    pub put : SinkSeen
    pub shelf : IsLeft left new.shelf
    pub usage : (s ≡ status.Usage) ↔ (command_of rule (length old.ports) words ≡ None)
    pub means : HasMeaning rule (length old.ports) words (world_of old.shelf new_output old.ports) (world_of left put new.ports) s
    pub ends : HasOutcome rule (length old.ports) words (world_of old.shelf new_output old.ports) (world_of left put new.ports) old.err new.err s

  -- after a top call that was done, its output or its files could not be written to their end
  pub record IsStoppedAfter (old new : Around) (s : Status) : Type 0 where
    pub middle : Around
    pub called : IsCalled old middle status.Done
    pub ports : new.ports ≡ middle.ports
    pub late : IsLate status.Done middle.err new.err s

  -- how a call ends that reaches the top call
  abbrev pub IsWritten : Around → Around → Status → Type 0
  IsWritten old new s = IsCalled old new s ⊎ IsStoppedAfter old new s

  -- a call over its ports
  pub record HasPorts (shelf later : ShelfSeen) (err told : SinkSeen) (s : Status) : Type 0 where
    pub ports : List PortSeen
    pub others : List PortSeen
    pub all : length ports ≡ length PORT_FILES.now
    pub called : IsWritten (around shelf ports err) (around later others told) s

  -- how a call ends that has its arguments: by the top call over its ports; before it with a fault and its line, as stdout or stderr can't be used or there is no memory for output that waits; or without memory for the ports and without a line
  abbrev pub HasEnded : ShelfSeen → ShelfSeen → SinkSeen → SinkSeen → Status → Type 0
  HasEnded shelf later err told s = HasPorts shelf later err told s ⊎ (IsStopped shelf later err told outcome.WriteFault s ⊎ (IsStopped shelf later err told outcome.Memory s ⊎ IsUnheard shelf later err told s))
