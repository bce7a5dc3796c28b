-- The walk of a command through its files, in the order of work, as each command defines it: the first refusal, or the accepted job and what becomes of it; what it changes outside; and how it ends.
use Rattle.std.specs.Prelude.{ℕ, List, Option, ◌≡◌, ◌≤◌, Some, ◌<◌, ◌⊎◌, false, take}
use Rattle.tl_io.specs.Port.{PortSeen}
use Rattle.cmd_base.specs.Words.{Files, ShelfSeen, SinkSeen, RefusalValue, Rose}
use Rattle.cmd_base.specs.Refusals.{most_bytes, too_long}
use Rattle.cmd_base.specs.declared.outcome.File.{File}
use Rattle.tl_io.specs.declared.told_name.TheConstants.{NAME_ROOM}
use Rattle.cmd_base.specs.declared.outcome.Outcome.{Outcome}
use Rattle.cmd_base.specs.declared.outcome.Outcome.TheVariants as outcome

-- What a call changes outside: the files and the bytes of the output, where they are told, how many faults of writing each of them had, and the ports.
pub record Outside : Type 0 where
  pub files : Option Files
  pub file_faults : ℕ
  pub bytes : Option (List ℕ)
  pub put_faults : ℕ
  pub ports : List PortSeen

abbrev pub outside : ShelfSeen → SinkSeen → List PortSeen → Outside
outside shelf out ports = record { files = shelf.files; file_faults = shelf.write_faults; bytes = out.bytes; put_faults = out.faults; ports = ports }

-- its files and its count of write faults are unchanged, and its count of read faults didn't fall
pub record KeepsFiles (old new : ShelfSeen) : Type 0 where
  pub later : old.read_faults ≤ new.read_faults
  pub files : new.files ≡ old.files
  pub write_faults : new.write_faults ≡ old.write_faults

-- how files are read, one after the other: by a station, or by all the stations of a command
pub record FileReading : Type 1 where
  -- the files in which it reads, where a shelf tells these or none
  pub HasFiles : Option Files → Files → Type 0
  -- a file is one of those that are read, and the word that names it
  pub IsRead : File → Type 0
  pub word : File → List ℕ
  -- the one that is read last, and how many bytes of a file that isn't too long may have been given
  pub last : File
  pub HasGiven : File → ℕ → Type 0
  -- the walk comes to a file
  pub Reaches : Files → File → Type 0
  -- a file is refused, for the first reason in the order of work
  pub IsRefused : Files → File → RefusalValue → Type 0
  -- each of the files, as far as the walk comes, says one thing, or is refused for one reason
  pub IsSettled : Files → Type 0

-- the reading of files that a shelf tells, which has given of each no more bytes than that may have
abbrev pub shelf_reading : (File → Type 0) → (File → List ℕ) → File → (Files → File → Type 0) → (Files → File → RefusalValue → Type 0) → (Files → Type 0) → FileReading
shelf_reading IsRead word last Reaches IsRefused IsSettled = record {
  HasFiles = λ told files. told ≡ Some files;
  IsRead = IsRead;
  word = word;
  last = last;
  HasGiven = λ file given. given ≤ most_bytes file;
  Reaches = Reaches;
  IsRefused = IsRefused;
  IsSettled = IsSettled;
}

-- a command's walk
pub record CommandWalk : Type 1 where
  pub reading : FileReading
  -- the files hold an accepted job
  pub IsAccepted : Files → Type 0
  -- what a job that is done makes of what is outside, one that a fault of writing cuts off, and one that a fault of the ports ends
  pub IsDone : Files → Outside → Outside → Type 0
  pub IsCutOff : Files → Outside → Outside → Type 0
  pub IsLost : Files → Outside → Outside → Type 0
  -- what a job that is done moreover shows
  pub Shows : Files → Outside → Outside → Type 0
  -- its order of work writes files
  pub WritesFiles : Type 0
  -- what becomes of the ports, whatever the files are, and the cause of a fault of the ports
  pub KeepsPorts : Outside → Outside → Type 0
  pub HasPortFault : Outside → Outside → Type 0

-- that of a command without ports: what accepted files make of what is outside, at the end and cut off, what a job that is done shows, and whether it writes files
abbrev pub portless_walk : FileReading → (Files → Type 0) → (Files → Outside → Outside → Type 0) → (Files → Outside → Outside → Type 0) → (Files → Outside → Outside → Type 0) → Type 0 → CommandWalk
portless_walk reading IsAccepted IsDone IsCutOff Shows WritesFiles = record {
  reading = reading;
  IsAccepted = IsAccepted;
  IsDone = IsDone;
  IsCutOff = IsCutOff;
  IsLost = λ files old new. ⊥;
  Shows = Shows;
  WritesFiles = WritesFiles;
  KeepsPorts = λ old new. new.ports ≡ old.ports;
  HasPortFault = λ old new. ⊥;
}

-- The laws of a command's walk: where its files are settled, an accepted job isn't refused, and a job is refused for one reason; and what a job that is done shows.
pub record HasLaws (walk : CommandWalk) : Type 0 where
  pub not_both : (files : Files) → walk.reading.IsSettled files → walk.IsAccepted files → (f : File) (r : RefusalValue) → walk.reading.IsRefused files f r → ⊥
  pub one_refusal : (files : Files) → walk.reading.IsSettled files → (f e : File) (r s : RefusalValue) → walk.reading.IsRefused files f r → walk.reading.IsRefused files e s → r ≡ s
  pub shows : (files : Files) (old new : Outside) → walk.IsDone files old new → walk.Shows files old new

-- a read fault has its cause: the count rose in this call and since the read began, and the shelf tells the name
pub record IsReadFault (old new : ShelfSeen) (name : List ℕ) : Type 0 where
  pub rose : Rose old.read_faults new.read_faults
  pub rose_since : Rose new.before new.read_faults
  pub told : new.name ≡ take NAME_ROOM name

-- where the shelf tells its files, a fact about them
abbrev pub Told : Option Files → (Files → Type 0) → Type 0
Told told P = (files : Files) → told ≡ Some files → P files

-- a fact about the files in which a walk reads
abbrev pub InFiles : FileReading → Option Files → (Files → Type 0) → Type 0
InFiles reading told P = (files : Files) → reading.HasFiles told files → P files

-- a file is too long: more bytes of it were given than the limit
pub record IsTooLongAt (reading : FileReading) (old new : ShelfSeen) (file : File) : Type 0 where
  pub given : most_bytes file < new.given
  pub is_read : reading.IsRead file
  pub is : InFiles reading old.files (λ files. reading.IsRefused files file too_long)
  pub settled : InFiles reading old.files reading.IsSettled

-- a file is refused for what it says, and not for its length
pub record IsRefusedAt (reading : FileReading) (old new : ShelfSeen) (file : File) (refusal : RefusalValue) : Type 0 where
  pub given : reading.HasGiven file new.given
  pub is_read : reading.IsRead file
  pub not_long : ¬ (refusal ≡ too_long)
  pub is : InFiles reading old.files (λ files. reading.IsRefused files file refusal)
  pub settled : InFiles reading old.files reading.IsSettled

-- a file could not be read
pub record IsFaultAt (reading : FileReading) (old new : ShelfSeen) (file : File) : Type 0 where
  pub given : reading.HasGiven file new.given
  pub is_read : reading.IsRead file
  pub fault : IsReadFault old new (reading.word file)
  pub reached : InFiles reading old.files (λ files. reading.Reaches files file)

-- why a job was not begun
abbrev pub Explains : FileReading → ShelfSeen → ShelfSeen → Outcome → Type 0
Explains reading old new (outcome.TooLong file) = IsTooLongAt reading old new file
Explains reading old new (outcome.Refused file refusal) = IsRefusedAt reading old new file refusal
Explains reading old new (outcome.ReadFault file) = IsFaultAt reading old new file
Explains reading old new outcome.Memory = Unit {0}
Explains reading old new outcome.Done = ⊥
Explains reading old new outcome.Usage = ⊥
Explains reading old new outcome.WriteFault = ⊥
Explains reading old new outcome.PortFault = ⊥

-- files hold a job that was begun: an accepted one
pub record IsBegun (walk : CommandWalk) (files : Files) : Type 0 where
  pub accepted : walk.IsAccepted files
  pub settled : walk.reading.IsSettled files

-- the cause of a fault of writing: the count of the output rose, or, where the order of work writes files, that of the shelf
abbrev pub HasWriteFault : CommandWalk → Outside → Outside → Type 0
HasWriteFault walk before after = Rose before.put_faults after.put_faults ⊎ (walk.WritesFiles × Rose before.file_faults after.file_faults)

-- a job that was begun: so much of its last file was given, and its files are accepted
pub record IsBegunFrom (walk : CommandWalk) (old new : ShelfSeen) : Type 0 where
  pub given : walk.reading.HasGiven walk.reading.last new.given
  pub begun : InFiles walk.reading old.files (IsBegun walk)

-- what an outcome says of the shelf and of what is outside
abbrev pub Ends : CommandWalk → ShelfSeen → ShelfSeen → Outside → Outside → Outcome → Type 0
Ends walk old new before after outcome.Done = IsBegunFrom walk old new × InFiles walk.reading old.files (λ files. walk.IsDone files before after) × walk.KeepsPorts before after
Ends walk old new before after outcome.WriteFault = IsBegunFrom walk old new × InFiles walk.reading old.files (λ files. walk.IsCutOff files before after) × walk.KeepsPorts before after × HasWriteFault walk before after
Ends walk old new before after outcome.PortFault = IsBegunFrom walk old new × InFiles walk.reading old.files (λ files. walk.IsLost files before after) × walk.HasPortFault before after
Ends walk old new before after (outcome.TooLong file) = Explains walk.reading old new (outcome.TooLong file) × (after ≡ before)
Ends walk old new before after (outcome.Refused file refusal) = Explains walk.reading old new (outcome.Refused file refusal) × (after ≡ before)
Ends walk old new before after (outcome.ReadFault file) = Explains walk.reading old new (outcome.ReadFault file) × (after ≡ before)
Ends walk old new before after outcome.Memory = (after ≡ before) × (walk.WritesFiles → new.is_writing ≡ false)
Ends walk old new before after outcome.Usage = ⊥

-- how a call without ports ends, whatever ports there are
abbrev pub PortlessEnds : CommandWalk → ShelfSeen → ShelfSeen → SinkSeen → SinkSeen → Outcome → Type 0
PortlessEnds walk old new before after outcome = (ports : List PortSeen) → Ends walk old new (outside old before ports) (outside new after ports) outcome
