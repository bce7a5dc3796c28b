use Rattle.blif_write.proofs.Common.{◌*◌, ◌∷◌, take, flat_map, IsAdded, literal_name}
use Rattle.blif_write.proofs.tables.add_leaves.Given as goal

abbrev pub invariant-loop-leaf : goal.invariant-loop-leaf
invariant-loop-leaf g l = IsAdded g.O.Sink.seen l.fn.writer (flat_map (λ m. 32 ∷ literal_name l.names (2 * m)) (take l.leaf-index l.leaves)) l.writer
