use Rattle.cmd_base.proofs.Common.{take, map, Ok, IsPut, Failed, spaced}
use Rattle.cmd_base.proofs.fault_line.put_words.Given as goal

abbrev pub invariant-loop-word : goal.invariant-loop-word
invariant-loop-word g l = IsPut {E = Failed} (g.E.Sink.seen l.fn.err) (spaced (map (λ word. word.now) (take l.word-index l.words))) (g.E.Sink.seen l.err) (Ok tt)
