use Rattle.tl_piece.proofs.Common.{replicate, IsAdded}
use Rattle.tl_piece.proofs.writer.Writer.add_repeated.Given as goal

abbrev pub invariant-loop : goal.invariant-loop
invariant-loop g l = IsAdded g.O.Sink.seen l.fn.self (replicate l.counter l.byte) l.self
