use Rattle.run_text.proofs.Common.{take, flat_map, IsAdded, write_text}
use Rattle.run_text.proofs.part.add_writes.Given as goal

abbrev pub invariant-loop-write : goal.invariant-loop-write
invariant-loop-write g l = IsAdded g.O.Sink.seen l.fn.writer (flat_map write_text (take l.write-index l.writes)) l.writer
