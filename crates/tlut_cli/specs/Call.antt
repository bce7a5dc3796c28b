-- What a call says of itself: its outcome with its cause, and what each status means.
use Rattle.std.specs.Prelude.{◌≡◌, ℕ, ◌⊎◌, true, List, [], Option, Some, None, length}
use Rattle.tl_fault.specs.RefusalValue.{RefusalValue}
use Rattle.tlut_cli.specs.Words.{Rule, PortSeen, Files, ShelfSeen, SinkSeen, Outside, outside, CommandWalk, InFiles, Ends, IsReadFault, HasWriteFault, refusal_status, Outcome, Status}
use Rattle.tl_io.specs.Causes.{Rose}
use Rattle.tlut_cli.specs.Commands.{Subcommand, command_of, walk_of}
use Rattle.cmd_base.specs.declared.outcome.File.{File}
use Rattle.cmd_base.specs.declared.outcome.Outcome.TheVariants as outcome
use Rattle.cmd_base.specs.declared.status.Status.TheVariants as status

-- What a call has around it, before or after: the shelf, the output and the ports.
pub record World : Type 0 where
  pub shelf : ShelfSeen
  pub out : SinkSeen
  pub ports : List PortSeen

abbrev pub world_of : ShelfSeen → SinkSeen → List PortSeen → World
world_of shelf out ports = record { shelf = shelf; out = out; ports = ports }

-- what a call changes of it
abbrev pub outside_of : World → Outside
outside_of around = outside around.shelf around.out around.ports

abbrev pub WalkEnds : CommandWalk → World → World → Outcome → Type 0
WalkEnds walk before after o = Ends walk before.shelf after.shelf (outside_of before) (outside_of after) o

-- the words are of no form, and nothing was read, put or sent
pub record IsUsage (rule : Rule) (words : List (List ℕ)) (before after : World) (o : Outcome) : Type 0 where
  pub is : o ≡ outcome.Usage
  pub no_command : command_of rule (length before.ports) words ≡ None
  pub shelf : after.shelf ≡ before.shelf
  pub same : outside_of after ≡ outside_of before

-- the words are a command, and the outcome says how it ended
pub record IsCommandEnd (rule : Rule) (words : List (List ℕ)) (before after : World) (o : Outcome) : Type 0 where
  pub command : Subcommand
  pub is : command_of rule (length before.ports) words ≡ Some command
  pub ends : WalkEnds (walk_of command) before after o

abbrev pub IsEnd : Rule → List (List ℕ) → World → World → Outcome → Type 0
IsEnd rule words before after o = IsUsage rule words before after o ⊎ IsCommandEnd rule words before after o

-- the file that a fault line tells
abbrev pub fault_file : Outcome → Option File
fault_file (outcome.TooLong file) = Some file
fault_file (outcome.Refused file refusal) = Some file
fault_file (outcome.ReadFault file) = Some file
fault_file outcome.Done = None
fault_file outcome.Usage = None
fault_file outcome.WriteFault = None
fault_file outcome.PortFault = None
fault_file outcome.Memory = None

-- the word that names it
abbrev pub word_at : Option File → Option Subcommand → List ℕ
word_at None command = []
word_at (Some file) None = []
word_at (Some file) (Some command) = (walk_of command).reading.word file

abbrev pub fault_word : Rule → ℕ → List (List ℕ) → Outcome → List ℕ
fault_word rule ports words o = word_at (fault_file o) (command_of rule ports words)

-- the words are a command with this in its walk
pub record HasCommand (rule : Rule) (ports : ℕ) (words : List (List ℕ)) (P : CommandWalk → Type 0) : Type 0 where
  pub command : Subcommand
  pub is : command_of rule ports words ≡ Some command
  pub holds : P (walk_of command)

-- a refusal of the verdict with this status
pub record IsRefusal (files : Files) (walk : CommandWalk) (s : Status) : Type 0 where
  pub file : File
  pub refusal : RefusalValue
  pub refused : walk.reading.IsRefused files file refusal
  pub status_is : s ≡ refusal_status refusal

abbrev pub HasRefusal : Rule → Option Files → ℕ → List (List ℕ) → Status → Type 0
HasRefusal rule told ports words s = HasCommand rule ports words (λ walk. InFiles walk.reading told (λ files. IsRefusal files walk s))

-- a job that was done, cut off, or ended by a fault of the ports
abbrev pub HasDone : Rule → List (List ℕ) → World → World → Type 0
HasDone rule words before after = HasCommand rule (length before.ports) words (λ walk. InFiles walk.reading before.shelf.files (λ files. walk.IsDone files (outside_of before) (outside_of after)))

abbrev pub HasCutOff : Rule → List (List ℕ) → World → World → Type 0
HasCutOff rule words before after = HasCommand rule (length before.ports) words (λ walk. InFiles walk.reading before.shelf.files (λ files. walk.IsCutOff files (outside_of before) (outside_of after)))

abbrev pub HasLost : Rule → List (List ℕ) → World → World → Type 0
HasLost rule words before after = HasCommand rule (length before.ports) words (λ walk. InFiles walk.reading before.shelf.files (λ files. walk.IsLost files (outside_of before) (outside_of after)))

-- what becomes of the ports, whatever the files are
abbrev pub HasKeptPorts : Rule → List (List ℕ) → World → World → Type 0
HasKeptPorts rule words before after = HasCommand rule (length before.ports) words (λ walk. walk.KeepsPorts (outside_of before) (outside_of after))

-- a read fault at a file that the walk reaches
pub record IsFault (walk : CommandWalk) (before after : World) : Type 0 where
  pub file : File
  pub is_read : walk.reading.IsRead file
  pub fault : IsReadFault before.shelf after.shelf (walk.reading.word file)
  pub reached : InFiles walk.reading before.shelf.files (λ files. walk.reading.Reaches files file)

abbrev pub HasFault : Rule → ℕ → List (List ℕ) → World → World → Type 0
HasFault rule ports words before after = HasCommand rule ports words (λ walk. IsFault walk before after)

-- the cause of a fault of the ports, and of a fault of writing
abbrev pub HasPortCause : Rule → List (List ℕ) → World → World → Type 0
HasPortCause rule words before after = HasCommand rule (length before.ports) words (λ walk. walk.HasPortFault (outside_of before) (outside_of after))

abbrev pub HasWriteCause : Rule → List (List ℕ) → World → World → Type 0
HasWriteCause rule words before after = HasCommand rule (length before.ports) words (λ walk. HasWriteFault walk (outside_of before) (outside_of after))

-- the order of work of the words' command writes files
abbrev pub WritesFiles : Rule → ℕ → List (List ℕ) → Type 0
WritesFiles rule ports words = HasCommand rule ports words (λ walk. walk.WritesFiles)

-- no read and no write of a call failed, nor more ports than stand by
pub record HasNoFault (walk : CommandWalk) (before after : World) : Type 0 where
  pub read : ¬ (Rose before.shelf.read_faults after.shelf.read_faults)
  pub write : ¬ (HasWriteFault walk (outside_of before) (outside_of after))
  pub ports : ¬ (walk.HasPortFault (outside_of before) (outside_of after))

-- the output grew by a byte, or a file was begun for writing
abbrev pub HasBegun : CommandWalk → World → World → Type 0
HasBegun walk before after = ¬ (after.out.bytes ≡ before.out.bytes) ⊎ (walk.WritesFiles × (after.shelf.is_writing ≡ true))

module _ (rule : Rule) (words : List (List ℕ)) (before after : World) (s : Status) where
  -- Where the files hold an accepted job, and there was no fault, the job is done: want of memory alone can stop it.
  abbrev pub IsComplete : Type 0
  IsComplete = (command : Subcommand) → command_of rule (length before.ports) words ≡ Some command → InFiles (walk_of command).reading before.shelf.files (λ files.
      (walk_of command).IsAccepted files → HasNoFault (walk_of command) before after → (s ≡ status.Done) ⊎ (s ≡ status.Memory))

  -- where moreover something was begun outside, it is done
  abbrev pub IsFinished : Type 0
  IsFinished = (command : Subcommand) → command_of rule (length before.ports) words ≡ Some command → InFiles (walk_of command).reading before.shelf.files (λ files.
      (walk_of command).IsAccepted files → HasNoFault (walk_of command) before after → HasBegun (walk_of command) before after → s ≡ status.Done)

-- nothing was put or sent
abbrev pub IsQuiet : Status → Type 0
IsQuiet status.Usage = Unit {0}
IsQuiet status.Refused = Unit {0}
IsQuiet status.Limit = Unit {0}
IsQuiet status.ReadFault = Unit {0}
IsQuiet status.Memory = Unit {0}
IsQuiet status.Done = ⊥
IsQuiet status.WriteFault = ⊥
IsQuiet status.PortFault = ⊥

-- where the files hold a refusal of the job and no read failed, its status is the answer, but for want of memory
abbrev pub IsAnswered : Rule → ℕ → List (List ℕ) → World → World → Status → Type 0
IsAnswered rule ports words before after s = (command : Subcommand) → command_of rule ports words ≡ Some command → InFiles (walk_of command).reading before.shelf.files (λ files. (file : File) (refusal : RefusalValue) → (walk_of command).reading.IsRefused files file refusal
    → ¬ (Rose before.shelf.read_faults after.shelf.read_faults) → (s ≡ refusal_status refusal) ⊎ (s ≡ status.Memory))
