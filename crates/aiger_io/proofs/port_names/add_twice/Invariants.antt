use Rattle.aiger_io.proofs.Common.{◌≡◌, drop, twice_from, seen_from}
use Rattle.aiger_io.proofs.port_names.add_twice.Given as goal

abbrev pub invariant-loop-name : goal.invariant-loop-name
invariant-loop-name l = record {
  found : twice_from l.seen l.found (drop l.name-index l.names) ≡ twice_from l.initial.seen l.initial.found l.names;
  seen : seen_from l.seen (drop l.name-index l.names) ≡ seen_from l.initial.seen l.names;
}
