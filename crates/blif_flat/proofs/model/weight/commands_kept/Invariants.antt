use Rattle.blif_flat.proofs.Common.{◌≡◌, ◌+◌, ◌≤◌, drop, capped, commands_kept, most_weight}
use Rattle.blif_flat.proofs.model.weight.commands_kept.Given as goal

abbrev pub invariant-loop-command : goal.invariant-loop-command
invariant-loop-command l = record {
  sum : capped (l.total + commands_kept l.index.names l.weights (drop l.command-index l.commands)) ≡ capped (commands_kept l.index.names l.weights l.commands);
  small : l.total ≤ most_weight + 1;
}
