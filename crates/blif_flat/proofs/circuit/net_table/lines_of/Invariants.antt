use Rattle.blif_flat.proofs.Common.{◌≡◌, ◌++◌, map, drop, subckts_of}
use Rattle.blif_flat.proofs.circuit.net_table.lines_of.Given as goal

abbrev pub invariant-loop-command : goal.invariant-loop-command
invariant-loop-command l = map (λ s. s.now) l.lines.items ++ subckts_of (drop l.command-index l.commands) ≡ subckts_of l.commands
