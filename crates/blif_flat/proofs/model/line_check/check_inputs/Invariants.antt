use Rattle.blif_flat.proofs.Common.{◌≡◌, drop, open_among}
use Rattle.blif_flat.proofs.model.line_check.check_inputs.Given as goal

abbrev pub invariant-loop-name : goal.invariant-loop-name
invariant-loop-name l = open_among l.index (drop l.name-index l.names) ≡ open_among l.index l.names
