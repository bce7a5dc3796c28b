use Rattle.blif_flat.proofs.Common.{◌≡◌, max, drop, most_underscores}
use Rattle.blif_flat.proofs.field.flat_ports.most_of.Given as goal

abbrev pub invariant-loop-name : goal.invariant-loop-name
invariant-loop-name l = max l.most (most_underscores (drop l.name-index l.names)) ≡ max l.fn.least (most_underscores l.names)
