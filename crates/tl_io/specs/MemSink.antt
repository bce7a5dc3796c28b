-- A sink in memory, and what a `put` leaves.
use Rattle.std.specs.Prelude.{ℕ, ◌+◌, ◌||◌, ◌&&◌, Bool, if◌then◌else◌, nat_lt, List, ◌++◌, length, None, Some}
use Rattle.tl_io.specs.Counts.{count_of}
use Rattle.tl_io.specs.FaultPlan.{Plan, fails_next, after_call, taken_of}
use Rattle.tl_io.specs.Shelf.{no_shelf}
use Rattle.tl_io.specs.Sink.{SinkSeen}

-- everything that a sink in memory means
pub record SinkValue : Type 0 where
  pub bytes : List ℕ
  -- how many bytes it takes in all
  pub room : ℕ
  pub plan : Plan
  pub faults : ℕ

-- it as a sink
abbrev pub sink_in_memory : SinkValue → SinkSeen
sink_in_memory sink = record { bytes = Some sink.bytes; faults = count_of sink.faults; through = None; others = no_shelf }

-- the piece is past the room
abbrev pub is_past_room : SinkValue → List ℕ → Bool
is_past_room sink piece = nat_lt sink.room (length sink.bytes + length piece)

-- the next `put`, of this piece, fails: never that of an empty one
abbrev pub fails_put : SinkValue → List ℕ → Bool
fails_put sink piece = (fails_next sink.plan && nat_lt 0 (length piece)) || is_past_room sink piece

-- the sink after a `put`: nothing is taken past the room
abbrev pub after_put : SinkValue → List ℕ → SinkValue
after_put sink piece = record {
  bytes = if is_past_room sink piece then sink.bytes else sink.bytes ++ taken_of sink.plan piece;
  room = sink.room;
  plan = after_call sink.plan;
  faults = if fails_put sink piece then count_of (sink.faults + 1) else sink.faults;
}
