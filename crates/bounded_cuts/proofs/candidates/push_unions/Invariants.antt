use Rattle.bounded_cuts.proofs.Common.{◌≡◌, ◌++◌, take, unions, cuts_of, ArePricedBy}
use Rattle.bounded_cuts.proofs.candidates.push_unions.Given as goal

abbrev pub invariant-loop-c : goal.invariant-loop-c
invariant-loop-c l = record {
  cuts : cuts_of l.all.items ≡ cuts_of l.fn.all.items ++ unions l.k (take l.c-index l.x_front) l.y_front;
  priced : ArePricedBy l.prices.worths.now l.fn.all.items → ArePricedBy l.prices.worths.now l.all.items;
}
