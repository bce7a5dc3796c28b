use Rattle.aiger_io.proofs.Common.{◌≡◌, ◌++◌, drop, names_from}
use Rattle.aiger_io.proofs.port_names.all_names.Given as goal

abbrev pub invariant-loop-name : goal.invariant-loop-name
invariant-loop-name l = record {
  ordinal : l.ordinal ≡ l.name-index;
  so_far : l.all.items ++ names_from l.letter l.ordinal (drop l.name-index l.names) ≡ names_from l.letter 0 l.names;
}
