use Rattle.aiger_io.proofs.Common.{◌≡◌, replicate, no_name}
use Rattle.aiger_io.proofs.symbols.no_names.Given as goal

abbrev pub invariant-loop : goal.invariant-loop
invariant-loop l = l.names.items ≡ replicate l.counter no_name
