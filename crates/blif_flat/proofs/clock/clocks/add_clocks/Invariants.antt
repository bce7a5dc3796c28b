use Rattle.blif_flat.proofs.Common.{◌≡◌, ◌++◌, not, drop, filter, has_name}
use Rattle.blif_flat.proofs.clock.clocks.add_clocks.Given as goal

abbrev pub invariant-loop-name : goal.invariant-loop-name
invariant-loop-name l = l.all.items ++ filter (λ name. not (has_name l.model.inputs name)) (drop l.name-index l.model.clocks)
    ≡ l.initial.all.items ++ filter (λ name. not (has_name l.model.inputs name)) l.model.clocks
