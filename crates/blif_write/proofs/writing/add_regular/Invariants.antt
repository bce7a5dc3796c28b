use Rattle.blif_write.proofs.Common.{◌∷◌, take, flat_map, IsAdded}
use Rattle.blif_write.proofs.writing.add_regular.Given as goal

abbrev pub invariant-loop-place : goal.invariant-loop-place
invariant-loop-place g l = IsAdded g.O.Sink.seen l.fn.writer (flat_map (λ w. 32 ∷ w) (take l.place-index l.names.regular)) l.writer
