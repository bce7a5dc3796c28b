use Rattle.tl_io.proofs.Common.{◌≡◌, ◌++◌, List, ℕ, length, Appends}
use Rattle.tl_io.proofs.inner_write.write_whole.Given as goal

-- what is gone from the rest was appended
abbrev pub invariant-loop-rest : goal.invariant-loop-rest
invariant-loop-rest g l = (done : List ℕ) × (l.piece ≡ done ++ l.rest) × Appends (g.W.Write.contents l.fn.writer) (g.W.Write.contents l.writer) done

abbrev pub decreases-loop-rest : goal.decreases-loop-rest
decreases-loop-rest g l = length l.rest
