use Rattle.blif_flat.proofs.Common.{◌≡◌, drop, LibraryValue, undriven_fault, AreOf}
use Rattle.blif_flat.proofs.model.drivers.check_commands.Given as goal

abbrev pub invariant-loop-command : goal.invariant-loop-command
invariant-loop-command l = (library : LibraryValue) → AreOf library l.index.names l.ports
    → undriven_fault library l.model.name l.driven (drop l.command-index l.model.commands) ≡ undriven_fault library l.model.name l.driven l.model.commands
