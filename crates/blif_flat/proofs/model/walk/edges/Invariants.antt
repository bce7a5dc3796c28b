use Rattle.blif_flat.proofs.Common.{◌≡◌, ◌++◌, drop, commands_edges}
use Rattle.blif_flat.proofs.model.walk.edges.Given as goal

abbrev pub invariant-loop-command : goal.invariant-loop-command
invariant-loop-command l = l.row.items ++ commands_edges l.models.list.now l.model (drop l.command-index l.model.commands) ≡ commands_edges l.models.list.now l.model l.model.commands
