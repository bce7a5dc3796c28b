use Rattle.aiger_io.proofs.Common.{◌≡◌, ◌+◌, ◌≤◌, drop, underscores}
use Rattle.aiger_io.proofs.own_name.underscores.Given as goal

abbrev pub invariant-loop-byte : goal.invariant-loop-byte
invariant-loop-byte l = record {
  counts : l.count + underscores (drop l.byte-index l.name) ≡ underscores l.name;
  within : l.count ≤ l.byte-index;
}
