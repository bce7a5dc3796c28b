use Rattle.tl_piece.proofs.Common.{take, IsAdded}
use Rattle.tl_piece.proofs.writer.Writer.add_text.Given as goal

abbrev pub invariant-loop-byte : goal.invariant-loop-byte
invariant-loop-byte g l = IsAdded g.O.Sink.seen l.fn.self (take l.byte-index l.text) l.self
