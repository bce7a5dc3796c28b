use Rattle.blif_flat.proofs.Common.{◌≡◌, map, drop, Connection, with_names}
use Rattle.blif_flat.proofs.circuit.nets.with_actuals.Given as goal

abbrev pub invariant-loop-pair : goal.invariant-loop-pair
invariant-loop-pair l = with_names l.all (map (λ (pair : Connection). pair.actual) (drop l.pair-index l.pairs)) ≡ with_names l.fn.index (map (λ (pair : Connection). pair.actual) l.pairs)
