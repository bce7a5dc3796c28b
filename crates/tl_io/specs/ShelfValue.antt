-- A shelf in memory: everything that it means, and which of its calls fail.
use Rattle.std.specs.Prelude.{ℕ, ◌+◌, ◌||◌, ◌&&◌, Bool, true, not, if◌then◌else◌, nat_lt, List, length, take, drop, Some, is_some}
use Rattle.std.specs.Option.{option_map}
use Rattle.std.specs.FinMap.{get}
use Rattle.tl_io.specs.declared.told_name.TheConstants.{NAME_ROOM}
use Rattle.tl_io.specs.Counts.{count_of}
use Rattle.tl_io.specs.FaultPlan.{Plan, fails_next, after_call, taken_of}
use Rattle.tl_io.specs.Shelf.{ShelfSeen}
use Rattle.tl_io.specs.ShelfCounts.{Counted}
use Rattle.tl_io.specs.Store.{Store, closed, opened, created, appended, room_left}

pub record ShelfValue : Type 0 where
  pub store : Store
  -- how many bytes a `pull` gives at most
  pub piece : ℕ
  pub plan : Plan
  pub counts : Counted

-- it as a shelf
abbrev pub shelf_in_memory : ShelfValue → ShelfSeen
shelf_in_memory shelf = record {
  files = Some shelf.store.files;
  is_reading = is_some shelf.store.left;
  left = shelf.store.left;
  is_writing = is_some shelf.store.writing;
  writing = shelf.store.writing;
  name = shelf.counts.name;
  given = shelf.counts.given;
  before = count_of shelf.counts.before;
  read_faults = count_of shelf.counts.read_faults;
  write_faults = count_of shelf.counts.write_faults;
}

-- the next begin call, for a file of this name, fails
abbrev pub fails_begin : ShelfValue → List ℕ → Bool
fails_begin shelf name = fails_next shelf.plan || not (is_some (get shelf.store.files name))

-- the piece is past the room of the file that is being written
abbrev pub is_past_room : ShelfValue → List ℕ → Bool
is_past_room shelf piece = nat_lt (room_left shelf.store) (length piece)

-- the next `push`, of this piece, fails: never that of an empty one
abbrev pub fails_push : ShelfValue → List ℕ → Bool
fails_push shelf piece = (fails_next shelf.plan && nat_lt 0 (length piece)) || is_past_room shelf piece

-- the counts after a call of reading, or of writing, that failed or not
abbrev pub with_read_fault : Bool → Counted → Counted
with_read_fault failed counts = record counts { read_faults = if failed then count_of (counts.read_faults + 1) else counts.read_faults }

abbrev pub with_write_fault : Bool → Counted → Counted
with_write_fault failed counts = record counts { write_faults = if failed then count_of (counts.write_faults + 1) else counts.write_faults }

-- the shelf after a `begin_read` of this name
abbrev pub after_begin_read : ShelfValue → List ℕ → ShelfValue
after_begin_read shelf name = record {
  store = if fails_next shelf.plan then closed shelf.store else opened shelf.store name;
  piece = shelf.piece;
  plan = after_call shelf.plan;
  counts = with_read_fault (fails_begin shelf name) (record shelf.counts { name = take NAME_ROOM name; given = 0; before = shelf.counts.read_faults });
}

-- the shelf after a `pull` that gave so many bytes
abbrev pub after_pull : ShelfValue → ℕ → ShelfValue
after_pull shelf count = record {
  store = record shelf.store { left = option_map (λ bytes. drop count bytes) shelf.store.left };
  piece = shelf.piece;
  plan = after_call shelf.plan;
  counts = record shelf.counts { given = count_of (shelf.counts.given + count) };
}

-- the shelf after a `pull` that failed
abbrev pub after_failed_pull : ShelfValue → ShelfValue
after_failed_pull shelf = record shelf { plan = after_call shelf.plan; counts = with_read_fault true shelf.counts }

-- the shelf after a `begin_write` of this name
abbrev pub after_begin_write : ShelfValue → List ℕ → ShelfValue
after_begin_write shelf name = record {
  store = if fails_next shelf.plan then closed shelf.store else created shelf.store name;
  piece = shelf.piece;
  plan = after_call shelf.plan;
  counts = with_write_fault (fails_begin shelf name) shelf.counts;
}

-- the shelf after a `push` of this piece: nothing is taken past the room
abbrev pub after_push : ShelfValue → List ℕ → ShelfValue
after_push shelf piece = record {
  store = if is_past_room shelf piece then shelf.store else appended shelf.store (taken_of shelf.plan piece);
  piece = shelf.piece;
  plan = after_call shelf.plan;
  counts = with_write_fault (fails_push shelf piece) shelf.counts;
}
