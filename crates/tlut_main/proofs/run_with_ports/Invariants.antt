use Rattle.std.proofs.Common.{◌≡◌, length}
use Rattle.tlut_main.proofs.run_with_ports.Given as goal

abbrev pub invariant-loop-before : goal.invariant-loop-before
invariant-loop-before g l = length l.ports.items ≡ l.before
