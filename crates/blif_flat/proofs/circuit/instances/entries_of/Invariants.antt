use Rattle.blif_flat.proofs.Common.{◌≡◌, ◌+◌, ◌<◌, ◌^◌, [], length, drop, subckts_of, entries_from}
use Rattle.blif_flat.proofs.circuit.instances.entries_of.Given as goal

abbrev pub invariant-loop-command : goal.invariant-loop-command
invariant-loop-command l = record {
  rest : entries_from l.index.names l.parent l.entries.items (drop l.command-index l.commands) ≡ entries_from l.index.names l.parent [] l.commands;
  few : length l.entries.items + length (subckts_of (drop l.command-index l.commands)) < 2 ^ 32;
}
