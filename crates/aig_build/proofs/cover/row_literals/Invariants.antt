use Rattle.aig_build.proofs.Common.{◌≡◌, ◌++◌, drop, row_literals}
use Rattle.aig_build.proofs.cover.row_literals.Given as goal

abbrev pub invariant-loop-i : goal.invariant-loop-i
invariant-loop-i l = l.lits.items ++ row_literals (drop l.i l.row.cells) (drop l.i l.inputs) ≡ row_literals l.row.cells l.inputs
