use Rattle.blif_flat.proofs.Common.{◌≡◌, drop, commands_names, with_names}
use Rattle.blif_flat.proofs.circuit.nets.with_commands.Given as goal

abbrev pub invariant-loop-command : goal.invariant-loop-command
invariant-loop-command l = with_names l.all (commands_names (drop l.command-index l.commands)) ≡ with_names l.fn.index (commands_names l.commands)
