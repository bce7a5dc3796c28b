use Rattle.blif_flat.proofs.Common.{◌≡◌, ◌++◌, drop, names_at}
use Rattle.blif_flat.proofs.model.line_check.names_of.Given as goal

abbrev pub invariant-loop-number : goal.invariant-loop-number
invariant-loop-number l = l.names.items ++ names_at l.models (drop l.number-index l.numbers) ≡ names_at l.models l.numbers
