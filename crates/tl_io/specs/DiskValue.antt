-- A shelf over the system's files: everything that it means.
use Rattle.std.specs.Prelude.{Bool, false, None}
use Rattle.tl_io.specs.Counts.{count_of}
use Rattle.tl_io.specs.Shelf.{ShelfSeen}
use Rattle.tl_io.specs.ShelfCounts.{Counted}
use Rattle.tl_io.specs.Written.{Syncs}

pub record DiskValue : Type 0 where
  pub is_reading : Bool
  pub is_writing : Bool
  pub counts : Counted
  -- how many files were begun for writing, and of how many their devices have all bytes
  pub syncs : Syncs

-- it as a shelf: nothing is told of content
abbrev pub shelf_on_disk : DiskValue → ShelfSeen
shelf_on_disk shelf = record {
  files = None;
  is_reading = shelf.is_reading;
  left = None;
  is_writing = shelf.is_writing;
  writing = None;
  name = shelf.counts.name;
  given = shelf.counts.given;
  before = count_of shelf.counts.before;
  read_faults = count_of shelf.counts.read_faults;
  write_faults = count_of shelf.counts.write_faults;
}

-- nothing is being written any more, and the devices have all bytes of each file that was begun
abbrev pub all_synced : DiskValue → DiskValue
all_synced shelf = record shelf { is_writing = false; syncs = record shelf.syncs { synced = shelf.syncs.begun } }
