use Rattle.blif_write.proofs.Common.{◌∷◌, take, flat_map, IsAdded, OutPort}
use Rattle.blif_write.proofs.writing.add_output_names.Given as goal

abbrev pub invariant-loop-output : goal.invariant-loop-output
invariant-loop-output g l = IsAdded g.O.Sink.seen l.fn.writer (flat_map (λ (o : OutPort). 32 ∷ o.name) (take l.output-index l.outputs)) l.writer
