use Rattle.blif_flat.proofs.Common.{◌≡◌, [], drop, unmarked_after}
use Rattle.blif_flat.proofs.field.flat_ports.unmarked.Given as goal

abbrev pub invariant-loop-i : goal.invariant-loop-i
invariant-loop-i l = unmarked_after l.kept.items (drop l.i l.names) (drop l.i l.marks) ≡ unmarked_after [] l.names l.marks
