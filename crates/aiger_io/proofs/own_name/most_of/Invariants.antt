use Rattle.aiger_io.proofs.Common.{◌≡◌, drop, max, most_underscores}
use Rattle.aiger_io.proofs.own_name.most_of.Given as goal

abbrev pub invariant-loop-name : goal.invariant-loop-name
invariant-loop-name l = max l.most (most_underscores (drop l.name-index l.names)) ≡ max l.least (most_underscores l.names)
