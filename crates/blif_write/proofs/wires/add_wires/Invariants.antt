use Rattle.blif_write.proofs.Common.{IsAdded}
use Rattle.blif_write.proofs.NetlistLemmas.{wires_before}
use Rattle.blif_write.proofs.wires.add_wires.Given as goal

abbrev pub invariant-loop-place : goal.invariant-loop-place
invariant-loop-place g l = IsAdded g.O.Sink.seen l.fn.writer (wires_before l.names l.outputs l.roots l.place) l.writer
