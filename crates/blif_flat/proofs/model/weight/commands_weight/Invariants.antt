use Rattle.blif_flat.proofs.Common.{◌≡◌, ◌+◌, ◌≤◌, drop, most_weight, commands_weight, capped}
use Rattle.blif_flat.proofs.model.weight.commands_weight.Given as goal

abbrev pub invariant-loop-command : goal.invariant-loop-command
invariant-loop-command l = record {
  sum : capped (l.total + commands_weight (drop l.command-index l.commands)) ≡ capped (commands_weight l.commands);
  small : l.total ≤ most_weight + 1;
}
