-- Why a job was not begun, seen from an earlier state of the shelf, and from a reading of more files.
use Rattle.cmd_base.proofs.Common.{◌≡◌, ℕ, ◌≤◌, false, take, List, Option, ap, sym, ◌∙◌, subst, arith, Rose, Files, ShelfSeen, SinkSeen, Outside, outside, KeepsFiles}
use Rattle.tl_fault.specs.RefusalValue.{RefusalValue}
use Rattle.tl_io.specs.Port.{PortSeen}
use Rattle.tl_io.specs.declared.told_name.TheConstants.{NAME_ROOM}
use Rattle.cmd_base.specs.Walk.{FileReading, CommandWalk, InFiles, IsTooLongAt, IsRefusedAt, IsFaultAt, Explains, Ends}
use Rattle.cmd_base.specs.Refusals.{too_long}
use Rattle.cmd_base.specs.declared.outcome.File.{File}
use Rattle.cmd_base.specs.declared.outcome.Outcome.{Outcome}
use Rattle.cmd_base.specs.declared.outcome.Outcome.TheVariants as outcome

-- a count that rose from a later one rose
pub Rose_from : (first mid last : ℕ) → first ≤ mid → Rose mid last → Rose first last
Rose_from first mid last h r = omega arith

-- What explains an outcome from a later state of the shelf does from an earlier one.
module _ (reading : FileReading) (old mid new : ShelfSeen) (keeps : KeepsFiles old mid) where
  here : (files : Files) → reading.HasFiles old.files files → reading.HasFiles mid.files files
  here files has = subst (λ told. reading.HasFiles told files) (sym keeps.files) has

  long_from : (f : File) → IsTooLongAt reading mid new f → IsTooLongAt reading old new f
  long_from f h = record { given = h.given; is_read = h.is_read; is = λ files has. h.is files (here files has); settled = λ files has. h.settled files (here files has) }

  refused_from : (f : File) (r : RefusalValue) → IsRefusedAt reading mid new f r → IsRefusedAt reading old new f r
  refused_from f r h = record { given = h.given; is_read = h.is_read; not_long = h.not_long; is = λ files has. h.is files (here files has); settled = λ files has. h.settled files (here files has) }

  fault_from : (f : File) → IsFaultAt reading mid new f → IsFaultAt reading old new f
  fault_from f h = record {
    given = h.given;
    is_read = h.is_read;
    fault = record { rose = Rose_from old.read_faults mid.read_faults new.read_faults keeps.later h.fault.rose; rose_since = h.fault.rose_since; told = h.fault.told };
    reached = λ files has. h.reached files (here files has);
  }

  pub Explains_from : (o : Outcome) → Explains reading mid new o → Explains reading old new o
  Explains_from (outcome.TooLong f) h = long_from f h
  Explains_from (outcome.Refused f r) h = refused_from f r h
  Explains_from (outcome.ReadFault f) h = fault_from f h
  Explains_from o h = h

-- Files are kept by two calls where each keeps them.
at_most_past : (first mid last : ℕ) → first ≤ mid → mid ≤ last → first ≤ last
at_most_past first mid last h k = omega arith

pub keeps_past : {old mid new : ShelfSeen} → KeepsFiles old mid → KeepsFiles mid new → KeepsFiles old new
keeps_past {old = old} {mid = mid} {new = new} first next = record {
  later = at_most_past old.read_faults mid.read_faults new.read_faults first.later next.later;
  files = next.files ∙ first.files;
  write_faults = next.write_faults ∙ first.write_faults;
}

-- Where a shelf was read alone, what is outside is as it was.
module _ {old new : ShelfSeen} (keeps : KeepsFiles old new) (out : SinkSeen) (ports : List PortSeen) where
  pub only_read : outside new out ports ≡ outside old out ports
  only_read =
      ap (λ told. let w : Outside = record (outside new out ports) { files = told } in w) keeps.files ∙ ap (λ n. let w : Outside = record (outside old out ports) { file_faults = n } in w) keeps.write_faults

-- A job that was not begun leaves what is outside as it was.
module _ (walk : CommandWalk) (old new : ShelfSeen) (before after : Outside) (same : after ≡ before) (not_writing : walk.WritesFiles → new.is_writing ≡ false) where
  pub explained_ends : (o : Outcome) → Explains walk.reading old new o → Ends walk old new before after o
  explained_ends (outcome.TooLong f) h = (h, same)
  explained_ends (outcome.Refused f r) h = (h, same)
  explained_ends (outcome.ReadFault f) h = (h, same)
  explained_ends outcome.Memory h = (same, not_writing)
  explained_ends o h = absurd h

-- so does one whose files were only read
module _ (walk : CommandWalk) {old new : ShelfSeen} (keeps : KeepsFiles old new) (not_writing : walk.WritesFiles → new.is_writing ≡ false) (out : SinkSeen) (ports : List PortSeen) where
  pub unbegun_ends : (o : Outcome) → Explains walk.reading old new o → Ends walk old new (outside old out ports) (outside new out ports) o
  unbegun_ends o h = explained_ends walk old new (outside old out ports) (outside new out ports) (only_read keeps out ports) not_writing o h

  pub memory_ends : Ends walk old new (outside old out ports) (outside new out ports) outcome.Memory
  memory_ends = unbegun_ends outcome.Memory tt

-- a reading is part of another: its files have the same words there, and what ends it ends the other
pub record IsPart (part whole : FileReading) (told : Option Files) : Type 0 where
  pub read : (f : File) → part.IsRead f → whole.IsRead f
  pub word : (f : File) → part.IsRead f → part.word f ≡ whole.word f
  pub given : (f : File) (n : ℕ) → part.HasGiven f n → whole.HasGiven f n
  pub files : InFiles whole told (λ files. part.HasFiles told files)
  pub reaches : InFiles whole told (λ files. (f : File) → part.IsRead f → part.Reaches files f → whole.Reaches files f)
  pub refused : InFiles whole told (λ files. (f : File) (r : RefusalValue) → part.IsRefused files f r → whole.IsRefused files f r)
  pub settled : InFiles whole told (λ files. (f : File) (r : RefusalValue) → part.IsSettled files → part.IsRefused files f r → whole.IsSettled files)

-- What explains an outcome by a part explains it by the whole.
module _ (part whole : FileReading) (old new : ShelfSeen) (is_part : IsPart part whole old.files) where
  long_lift : (f : File) → IsTooLongAt part old new f → IsTooLongAt whole old new f
  long_lift f h = record {
    given = h.given;
    is_read = is_part.read f h.is_read;
    is = λ files has. is_part.refused files has f too_long (h.is files (is_part.files files has));
    settled = λ files has. is_part.settled files has f too_long (h.settled files (is_part.files files has)) (h.is files (is_part.files files has));
  }

  refused_lift : (f : File) (r : RefusalValue) → IsRefusedAt part old new f r → IsRefusedAt whole old new f r
  refused_lift f r h = record {
    given = is_part.given f new.given h.given;
    is_read = is_part.read f h.is_read;
    not_long = h.not_long;
    is = λ files has. is_part.refused files has f r (h.is files (is_part.files files has));
    settled = λ files has. is_part.settled files has f r (h.settled files (is_part.files files has)) (h.is files (is_part.files files has));
  }

  fault_lift : (f : File) → IsFaultAt part old new f → IsFaultAt whole old new f
  fault_lift f h = record {
    given = is_part.given f new.given h.given;
    is_read = is_part.read f h.is_read;
    fault = record { rose = h.fault.rose; rose_since = h.fault.rose_since; told = h.fault.told ∙ ap (λ name. take NAME_ROOM name) (is_part.word f h.is_read) };
    reached = λ files has. is_part.reaches files has f h.is_read (h.reached files (is_part.files files has));
  }

  pub Explains_lift : (o : Outcome) → Explains part old new o → Explains whole old new o
  Explains_lift (outcome.TooLong f) h = long_lift f h
  Explains_lift (outcome.Refused f r) h = refused_lift f r h
  Explains_lift (outcome.ReadFault f) h = fault_lift f h
  Explains_lift o h = h
