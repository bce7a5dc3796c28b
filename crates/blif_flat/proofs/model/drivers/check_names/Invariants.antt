use Rattle.blif_flat.proofs.Common.{◌≡◌, drop, undriven_in}
use Rattle.blif_flat.proofs.model.drivers.check_names.Given as goal

abbrev pub invariant-loop-name : goal.invariant-loop-name
invariant-loop-name l = undriven_in l.site.model.now l.site.line l.driven (drop l.name-index l.names) ≡ undriven_in l.site.model.now l.site.line l.driven l.names
