use Rattle.blif_flat.proofs.Common.{◌≡◌, ◌++◌, ◌≤◌, drop, regular_numbers}
use Rattle.blif_flat.proofs.field.flat_gates.regular_numbers.Given as goal

abbrev pub invariant-loop-mark : goal.invariant-loop-mark
invariant-loop-mark l = record {
  are : l.numbers.items ++ regular_numbers l.next (drop l.mark-index l.marks) ≡ regular_numbers 0 l.marks;
  within : l.next ≤ l.mark-index;
}
