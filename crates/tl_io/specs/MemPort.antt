-- A port in memory, and what a `write` leaves.
use Rattle.std.specs.Prelude.{ℕ, ◌+◌, ◌||◌, Bool, if◌then◌else◌, nat_le, List, [], ◌∷◌, ◌++◌, length, Some}
use Rattle.tl_io.specs.Counts.{count_of}
use Rattle.tl_io.specs.FaultPlan.{Plan, fails_next, after_call}
use Rattle.tl_io.specs.Port.{PortSeen}
use Rattle.tl_io.specs.declared.Write.{Write}

-- everything that a port in memory means
pub record PortValue : Type 0 where
  pub log : List Write
  -- how many writes it accepts in all
  pub room : ℕ
  pub plan : Plan
  pub faults : ℕ

-- it as a port
abbrev pub port_in_memory : PortValue → PortSeen
port_in_memory port = record { log = Some port.log; accepted = count_of (length port.log); faults = count_of port.faults }

-- the next `write` fails
abbrev pub fails_write : PortValue → Bool
fails_write port = fails_next port.plan || nat_le port.room (length port.log)

-- the port after a `write`
abbrev pub after_write : PortValue → Write → PortValue
after_write port write = record {
  log = if fails_write port then port.log else port.log ++ write ∷ [];
  room = port.room;
  plan = after_call port.plan;
  faults = if fails_write port then count_of (port.faults + 1) else port.faults;
}
