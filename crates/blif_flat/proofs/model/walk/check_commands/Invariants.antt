use Rattle.blif_flat.proofs.Common.{◌≡◌, drop, subckt_lines, names_at, lines_fault}
use Rattle.blif_flat.proofs.model.walk.check_commands.Given as goal

abbrev pub invariant-loop-command : goal.invariant-loop-command
invariant-loop-command l = lines_fault l.models.list.now (names_at l.models.list.now l.walk.path) l.model (subckt_lines (drop l.command-index l.model.commands)) ≡ lines_fault l.models.list.now (names_at l.models.list.now l.walk.path) l.model (subckt_lines l.model.commands)
