use Rattle.cut_enum.specs.Table.{AreRows}
use Rattle.cut_enum.proofs.table.enumerate_with.Given as goal

abbrev pub invariant-loop-n : goal.invariant-loop-n
invariant-loop-n g l = AreRows l.graph l.k l.n l.table
