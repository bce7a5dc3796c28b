-- What a shelf keeps of its last read, and its counts of faults.
use Rattle.std.specs.Prelude.{ℕ, ◌+◌, List, []}
use Rattle.tl_io.specs.Counts.{count_of}

pub record Counted : Type 0 where
  -- the first 4,096 bytes of the name last given to begin_read
  pub name : List ℕ
  -- the bytes given since that call
  pub given : ℕ
  -- the read faults just before that call
  pub before : ℕ
  pub read_faults : ℕ
  pub write_faults : ℕ

-- nothing was read, and nothing failed
abbrev pub no_counts : Counted
no_counts = record { name = []; given = 0; before = 0; read_faults = 0; write_faults = 0 }

-- a write failed
abbrev pub with_write_fault : Counted → Counted
with_write_fault counts = record counts { write_faults = count_of (counts.write_faults + 1) }
