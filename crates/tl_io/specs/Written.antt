-- What a shelf over the system's files knows of those that it began: which they are, and of how many their devices have all bytes.
use Rattle.std.specs.Prelude.{◌≡◌, ℕ, ◌+◌, ◌==◌, ◌&&◌, if◌then◌else◌, Bool, List}
use Rattle.std.specs.List.{list_any}
use Rattle.tl_io.specs.declared.file_id.FileId.{FileId}
use Rattle.tl_io.specs.Counts.{count_of}

-- two names lead to the same file
abbrev pub is_same : FileId → FileId → Bool
is_same a b = (a.device == b.device) && (a.number == b.number)

-- the file is among these
abbrev pub is_among : List FileId → FileId → Bool
is_among files file = list_any (λ other. is_same other file) files

-- how many files were begun, and of how many of the first ones their devices have all bytes
pub record Syncs : Type 0 where
  pub begun : ℕ
  pub synced : ℕ

-- no file was begun
abbrev pub no_syncs : Syncs
no_syncs = record { begun = 0; synced = 0 }

-- one more file was begun
abbrev pub with_begun : Syncs → Syncs
with_begun syncs = record syncs { begun = count_of (syncs.begun + 1) }

-- the device of the file that was begun after so many others has all its bytes; only that of the file that comes next counts
abbrev pub with_synced : ℕ → Syncs → Syncs
with_synced place syncs = record syncs { synced = if place == syncs.synced then count_of (syncs.synced + 1) else syncs.synced }

-- the devices have all bytes of each file that was begun
abbrev pub AreSynced : Syncs → Type 0
AreSynced syncs = syncs.synced ≡ syncs.begun

-- one more file was begun, and the devices have all bytes of each one before
pub record BeginsAfterSync (old new : Syncs) : Type 0 where
  pub begun : new.begun ≡ count_of (old.begun + 1)
  pub synced : new.synced ≡ old.begun
