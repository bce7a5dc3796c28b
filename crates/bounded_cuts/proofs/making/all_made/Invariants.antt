use Rattle.bounded_cuts.specs.Making.{AreMade}
use Rattle.bounded_cuts.proofs.making.all_made.Given as goal

abbrev pub invariant-loop-n : goal.invariant-loop-n
invariant-loop-n l = AreMade l.wanted l.n l.made.rows l.made.worths.items
