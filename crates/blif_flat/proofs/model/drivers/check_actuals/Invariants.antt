use Rattle.blif_flat.proofs.Common.{◌≡◌, drop, ModelValue, undriven_in, input_actuals, ports_value}
use Rattle.blif_flat.proofs.model.drivers.check_actuals.Given as goal

abbrev pub invariant-loop-pair : goal.invariant-loop-pair
invariant-loop-pair l = (child : ModelValue) → l.ports ≡ ports_value child
    → undriven_in l.site.model.now l.site.line l.driven (input_actuals child (drop l.pair-index l.pairs)) ≡ undriven_in l.site.model.now l.site.line l.driven (input_actuals child l.pairs)
