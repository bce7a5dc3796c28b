use Rattle.cmd_base.proofs.Common.{take, Ok, IsPut, Failed}
use Rattle.cmd_base.proofs.PutLemmas.{texts}
use Rattle.cmd_base.proofs.fault_line.put_all.Given as goal

abbrev pub invariant-loop-piece : goal.invariant-loop-piece
invariant-loop-piece g l = IsPut {E = Failed} (g.S.Sink.seen l.fn.sink) (texts (take l.piece-index l.pieces)) (g.S.Sink.seen l.sink) (Ok tt)
