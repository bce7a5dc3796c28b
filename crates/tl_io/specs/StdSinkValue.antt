-- A sink over a writer of std: everything that it means.
use Rattle.std.specs.Prelude.{ℕ, List, Option, None}
use Rattle.tl_io.specs.Counts.{count_of}
use Rattle.tl_io.specs.Shelf.{no_shelf}
use Rattle.tl_io.specs.Sink.{SinkSeen}

pub record StdSinkValue : Type 0 where
  -- what the writer holds, where the writer tells it
  pub contents : Option (List ℕ)
  pub faults : ℕ

-- it as a sink
abbrev pub sink_of_std : StdSinkValue → SinkSeen
sink_of_std sink = record { bytes = None; faults = count_of sink.faults; through = None; others = no_shelf }
