use Rattle.blif_flat.proofs.Common.{◌≡◌, drop, models_fault, models_at}
use Rattle.blif_flat.proofs.model.drivers.check_drivers.Given as goal

abbrev pub invariant-loop-number : goal.invariant-loop-number
invariant-loop-number l = models_fault l.library (models_at l.library.models (drop l.number-index l.order)) ≡ models_fault l.library (models_at l.library.models l.order)
