use Rattle.blif_flat.proofs.Common.{◌≡◌, [], drop, formals, with_names}
use Rattle.blif_flat.proofs.model.ports.formal_index.Given as goal

abbrev pub invariant-loop-pair : goal.invariant-loop-pair
invariant-loop-pair l = with_names l.all (formals (drop l.pair-index l.pairs)) ≡ with_names [] (formals l.pairs)
