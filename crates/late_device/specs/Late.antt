-- A device's configuration, marks at some of its addresses, and how often an address was looked at.
use Rattle.std.specs.Prelude.{ℕ, ◌+◌, Bool, false, List, Option, Some, None, slice_set}
use Rattle.tl_io.specs.declared.Write.{Write}

pub record LateValue : Type 0 where
  pub config : List Bool
  pub marks : List Bool
  pub looks : ℕ

-- an address was looked at
abbrev pub looked : LateValue → LateValue
looked d = record { config = d.config; marks = d.marks; looks = d.looks + 1 }

-- an address is marked or isn't
abbrev pub with_mark : LateValue → ℕ → Bool → LateValue
with_mark d address mark = record { config = d.config; marks = slice_set d.marks address mark; looks = d.looks }

-- a bit was sent to an address that was marked, or there was none
abbrev pub sent : LateValue → Option Write → LateValue
sent d None = record { config = d.config; marks = d.marks; looks = d.looks + 1 }
sent d (Some write) = record { config = slice_set d.config write.address write.bit; marks = slice_set d.marks write.address false; looks = d.looks + 1 }
