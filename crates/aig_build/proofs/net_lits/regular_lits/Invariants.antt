use Rattle.aig_build.proofs.Common.{◌≡◌, ◌+◌, ◌≤◌, ◌++◌, drop, regular_lits, regular_next}
use Rattle.aig_build.proofs.net_lits.regular_lits.Given as goal

abbrev pub invariant-loop-mark : goal.invariant-loop-mark
invariant-loop-mark l = record {
  lits : l.lits.items ++ regular_lits l.next (drop l.mark-index l.marks) ≡ regular_lits 1 l.marks;
  next : regular_next l.next (drop l.mark-index l.marks) ≡ regular_next 1 l.marks;
  small : l.next ≤ 1 + l.mark-index;
}
