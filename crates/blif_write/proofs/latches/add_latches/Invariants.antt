use Rattle.blif_write.proofs.Common.{IsAdded}
use Rattle.blif_write.proofs.NetlistLemmas.{latches_before}
use Rattle.blif_write.proofs.latches.add_latches.Given as goal

abbrev pub invariant-loop-ordinal : goal.invariant-loop-ordinal
invariant-loop-ordinal g l = IsAdded g.O.Sink.seen l.fn.writer (latches_before l.names l.control l.latches l.nexts l.ordinal) l.writer
