use Rattle.blif_flat.proofs.Common.{◌≡◌, ◌++◌, map, drop, edge_rows}
use Rattle.blif_flat.proofs.model.walk.ModelGraph.make.Given as goal

abbrev pub invariant-loop-model : goal.invariant-loop-model
invariant-loop-model l = map (λ row. row.items) l.rows.items ++ edge_rows l.models.list.now (drop l.model-index l.models.list.now) ≡ edge_rows l.models.list.now l.models.list.now
