use Rattle.blif_flat.proofs.Common.{◌≡◌, ◌++◌, drop, ModelValue, twice_in, output_actuals, ports_value}
use Rattle.blif_flat.proofs.model.drivers.drive_actuals.Given as goal

abbrev pub invariant-loop-pair : goal.invariant-loop-pair
invariant-loop-pair l = (child : ModelValue) → l.ports ≡ ports_value child
    → (twice_in l.site.model.now l.site.line l.driven (output_actuals child (drop l.pair-index l.pairs)) ≡ twice_in l.site.model.now l.site.line l.initial.driven (output_actuals child l.pairs))
    × (l.driven ++ output_actuals child (drop l.pair-index l.pairs) ≡ l.initial.driven ++ output_actuals child l.pairs)
