use Rattle.cmd_base.proofs.Common.{take, Ok, IsPut, Failed, spaced}
use Rattle.cmd_base.proofs.fault_line.put_names.Given as goal

abbrev pub invariant-loop-name : goal.invariant-loop-name
invariant-loop-name g l = IsPut {E = Failed} (g.E.Sink.seen l.fn.err) (spaced (take l.name-index l.names)) (g.E.Sink.seen l.err) (Ok tt)
