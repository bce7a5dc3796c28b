use Rattle.blif_flat.proofs.Common.{◌≡◌, ◌++◌, drop, LibraryValue, twice_fault, all_drives, AreOf}
use Rattle.blif_flat.proofs.model.drivers.drive_commands.Given as goal

abbrev pub invariant-loop-command : goal.invariant-loop-command
invariant-loop-command l = (library : LibraryValue) → AreOf library l.index.names l.ports
    → (twice_fault library l.model.name l.driven (drop l.command-index l.model.commands) ≡ twice_fault library l.model.name l.initial.driven l.model.commands)
    × (l.driven ++ all_drives library (drop l.command-index l.model.commands) ≡ l.initial.driven ++ all_drives library l.model.commands)
